use Rattle.std.proofs.Common.{◌≡◌, refl, sym, ap, ◌∙◌, inl}
use Rattle.std.proofs.lemmas.Option.{same_Some}
use Rattle.write_set.proofs.Keyed.{keyed_set, values_set}
use Rattle.write_set.specs.declared.set.Write.{Write}
use Rattle.write_set.proofs.set.WriteSet.put.Goals as goal

pub invariant_of-self : goal.invariant_of-self
invariant_of-self c =
    let w : Write = c.index_mut.result.now in
    record {
      keyed = keyed_set c.args.self.now.map.entries c.args.self.now.keyed c.in-Some.index
          (record w { value = c.args.value }) w c.index_mut.ensures.value refl;
    }

pub returns-in-Some-clause-ok : goal.returns-in-Some-clause-ok
returns-in-Some-clause-ok c =
    let w : Write = c.index_mut.result.now in
    let stood = c.in-Some.ensures.some in
    let same : w ≡ stood.0 = same_Some w stood.0 (sym c.index_mut.ensures.value ∙ stood.1) in
    inl (
      c.in-Some.index,
      w,
      c.index_mut.ensures.value,
      ap (λ (x : Write). x.at) same ∙ stood.2,
      values_set c.args.self.now.map.entries c.in-Some.index (record w { value = c.args.value }),
    )
