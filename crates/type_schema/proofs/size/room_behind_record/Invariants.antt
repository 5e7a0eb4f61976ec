use Rattle.std.proofs.Common.{◌≡◌, ◌+◌, length, take}
use Rattle.std.specs.List.{flat_map}
use Rattle.a1_value.specs.Encoding.{value_bytes}
use Rattle.type_schema.proofs.size.room_behind_record.Given as goal

abbrev pub invariant-loop-value : goal.invariant-loop-value
invariant-loop-value l = l.left + (1 + length (flat_map value_bytes (take l.value-index l.values))) ≡ l.room
