use Rattle.std.proofs.Common.{◌≡◌, ◌+◌, length, take}
use Rattle.std.specs.List.{flat_map}
use Rattle.type_schema.specs.Layout.{attr_bytes}
use Rattle.type_schema.proofs.size.room_behind_schema.Given as goal

abbrev pub invariant-loop-attr : goal.invariant-loop-attr
invariant-loop-attr l = l.left + (1 + length (flat_map attr_bytes (take l.attr-index l.attrs))) ≡ l.room
