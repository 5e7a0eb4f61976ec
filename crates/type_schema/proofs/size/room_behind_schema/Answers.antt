use Rattle.std.proofs.Common.{arith}
use Rattle.type_schema.specs.Layout.{attr_bytes}
use Rattle.type_schema.proofs.SizeLemmas.{over}
use Rattle.type_schema.proofs.size.room_behind_schema.Goals as goal

pub returns-in_err-left-2 : goal.returns-in_err-left-2
returns-in_err-left-2 c =
    rw c.from_residual-in_err-left-2.ensures (over attr_bytes c.args.attrs.now c.loop-attr.attr-index c.args.room c.loop-attr.left c.attr-item.result (omega arith) c.attr-item.is c.loop-attr.invariant c.in_err-left-2.ensures)
