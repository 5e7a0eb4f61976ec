use Rattle.std.proofs.Common.{arith}
use Rattle.a1_value.specs.Encoding.{value_bytes}
use Rattle.type_schema.proofs.SizeLemmas.{over}
use Rattle.type_schema.proofs.size.room_behind_record.Goals as goal

pub returns-in_err-left-2 : goal.returns-in_err-left-2
returns-in_err-left-2 c =
    rw c.from_residual-in_err-left-2.ensures (over value_bytes c.args.values.now c.loop-value.value-index c.args.room c.loop-value.left c.value-item.result (omega arith) c.value-item.is c.loop-value.invariant c.in_err-left-2.ensures)
