use Rattle.std.proofs.Common.{Option, refl, ap, ◌∙◌, ℕ, List, slice_set}
use Rattle.write_set.proofs.Keyed.{keyed_set, values_set}
use Rattle.write_set.specs.Writes.{writes}
use Rattle.write_set.specs.declared.set.Write.{Write}
use Rattle.write_set.proofs.set.WriteSet.take_value.Goals as goal

pub invariant_of-self : goal.invariant_of-self
invariant_of-self c =
    let w : Write = c.index_mut.result.now in
    record {
      keyed = keyed_set c.args.self.now.map.entries c.args.self.now.keyed c.args.index
          (record w { value = c.take.new.self }) w c.index_mut.ensures.value refl;
    }

pub returns : goal.returns
returns c =
    let w : Write = c.index_mut.result.now in (
      w,
      c.index_mut.ensures.value,
      c.take.ensures.value,
      values_set c.args.self.now.map.entries c.args.index (record w { value = c.take.new.self }) ∙
          ap (λ (v : Option (List ℕ)). slice_set (writes c.args.self.now) c.args.index (record w { value = v })) c.take.ensures.after,
    )
