use Rattle.write_set.proofs.Keyed.{index_lacks, index_stands}
use Rattle.write_set.proofs.set.WriteSet.index_of.Goals as goal

pub returns-clause-some : goal.returns-clause-some
returns-clause-some c =
    index_stands c.args.self.now.map.entries c.args.self.now.keyed c.args.at c.key_of.result c.key_of.ensures.word
    c.key_of.ensures.small c.get_index_of.result c.get_index_of.ensures.found c.get_index_of.ensures.value

pub returns-clause-none : goal.returns-clause-none
returns-clause-none c =
    index_lacks c.args.self.now.map.entries c.args.self.now.keyed c.args.at c.key_of.result c.key_of.ensures.word
    c.key_of.ensures.small c.get_index_of.result c.get_index_of.ensures.found
