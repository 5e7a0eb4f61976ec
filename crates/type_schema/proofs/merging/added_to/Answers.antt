use Rattle.std.proofs.Common.{◌≡◌, ℤ, ◌<◌, length, true, [], ◌∷◌, ◌++◌, Ok, Err, subst, arith, w64}
use Rattle.std.specs.Prelude.{bytes_eq}
use Rattle.std.proofs.lemmas.Int.{to_z-of_z}
use Rattle.std.proofs.lemmas.Result.{err_from_is_err_and}
use Rattle.type_schema.specs.Refusals.{Gives}
use Rattle.type_schema.specs.Schemas.{Record, behind, added_to}
use Rattle.type_schema.proofs.AddLemmas.{add_here, add_fails}
use Rattle.type_schema.proofs.merging.added_to.Goals as goal

pub returns-in_err-sum_in : goal.returns-in_err-sum_in
returns-in_err-sum_in c =
    let lt : c.loop-attr.attr-index < length c.args.attrs.now = omega arith in
    let p = err_from_is_err_and c.from_residual-in_err-sum_in.result c.from_residual-in_err-sum_in.ensures.1 in
    let same : bytes_eq c.attr-item.result.name c.args.name.now ≡ true = cc (c.if-eq.ensures, c.as_bytes.ensures, c.as_bytes-in-loop-attr.ensures) in
    let h = add_fails c.args.attrs.now c.loop-attr.rest.now c.args.name.now _ c.loop-attr.values.items c.loop-attr.attr-index _ c.loop-attr.invariant c.attr-item.result c.in-Some.value.now c.in-Some.after.now lt c.attr-item.is c.in-Some.ensures _ same c.in_err-sum_in.ensures in
    rw (p.1, p.2) (subst (λ (by : ℤ). Gives {X = Record} (Err c.in_err-sum_in.field-0.0) (behind c.args.key.now (added_to c.args.attrs.now c.args.old.now c.args.name.now by))) (to_z-of_z w64 c.args.by c.ranges.by) h)

pub returns-then-eq : goal.returns-then-eq
returns-then-eq c =
    let lt : c.loop-attr.attr-index < length c.args.attrs.now = omega arith in
    let same : bytes_eq c.attr-item.result.name c.args.name.now ≡ true = cc (c.if-eq.ensures, c.as_bytes.ensures, c.as_bytes-in-loop-attr.ensures) in
    let h = add_here c.args.attrs.now c.loop-attr.rest.now c.args.name.now _ c.loop-attr.values.items c.loop-attr.attr-index _ c.loop-attr.invariant c.attr-item.result c.in-Some.value.now c.in-Some.after.now lt c.attr-item.is c.in-Some.ensures _ same c.in_ok-sum_in.ensures in
    let found = subst (λ (by : ℤ). behind c.args.key.now (added_to c.args.attrs.now c.args.old.now c.args.name.now by) ≡ Ok (c.loop-attr.values.items ++ c.in_ok-sum_in.field-0 ∷ [] ++ c.in-Some.after.now)) (to_z-of_z w64 c.args.by c.ranges.by) h in
    rw (c.in_ok-push_values.ensures, c.in_ok-push-2.ensures.items) found
