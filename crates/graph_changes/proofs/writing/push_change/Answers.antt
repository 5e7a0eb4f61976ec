use Rattle.std.proofs.Common.{length, subst, ap, arith}
use Rattle.std.specs.Prelude.{IfSome}
use Rattle.type_schema.specs.Formed.{IsValueOf}
use Rattle.graph_changes.proofs.SizeLemmas.{value_short}
use Rattle.graph_changes.proofs.writing.push_change.Goals as goal

pub overflow_cast-as_slice : goal.overflow_cast-as_slice
overflow_cast-as_slice c =
    let few = value_short _ _ (subst (λ v. IfSome v (IsValueOf c.args.change.now.key)) c.in-Some.is c.requires.1) in
    omega (arith, few, ap length c.as_slice.ensures)
