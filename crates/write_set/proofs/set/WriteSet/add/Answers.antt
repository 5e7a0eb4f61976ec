use Rattle.write_set.proofs.Keyed.{keyed_inserted, writes_inserted}
use Rattle.write_set.specs.declared.set.Write.{Write}
use Rattle.write_set.proofs.set.WriteSet.add.Goals as goal

pub invariant_of-self : goal.invariant_of-self
invariant_of-self c =
    let w : Write = record { at = c.args.at; value = c.args.value; made = c.args.made } in
    record {
      keyed = keyed_inserted c.args.self.now.map c.args.self.now.keyed w c.key_of.result c.key_of.ensures.word
          c.key_of.ensures.small c.requires.lacks c.insert.result c.insert.new.self.entries c.insert.ensures.entries
          c.insert.ensures.err;
    }

pub returns-in-Ok-clause-ok : goal.returns-in-Ok-clause-ok
returns-in-Ok-clause-ok c =
    let w : Write = record { at = c.args.at; value = c.args.value; made = c.args.made } in
    writes_inserted c.args.self.now.map c.args.self.now.keyed w c.key_of.result c.key_of.ensures.word
    c.key_of.ensures.small c.requires.lacks c.insert.new.self.entries c.in-Ok.ensures.entries
