use Rattle.std.proofs.Common.{◌<◌, length, arith}
use Rattle.std.proofs.lemmas.Result.{err_from_is_err_and}
use Rattle.type_schema.proofs.CheckLemmas.{over_fails}
use Rattle.type_schema.proofs.merging.made_over.Goals as goal

pub returns-in_err-value_over : goal.returns-in_err-value_over
returns-in_err-value_over c =
    let lt : c.loop-attr.attr-index < length c.args.attrs.now = omega arith in
    let p = err_from_is_err_and c.from_residual-in_err-value_over.result c.from_residual-in_err-value_over.ensures.1 in
    rw (p.1, p.2) (over_fails c.args.attrs.now c.loop-attr.rest.now c.args.members.now c.loop-attr.values.items c.loop-attr.attr-index c.attr-item.result c.in-Some.value.now c.in-Some.after.now _ lt c.attr-item.is c.in-Some.ensures c.loop-attr.invariant _ c.in_err-value_over.ensures)
