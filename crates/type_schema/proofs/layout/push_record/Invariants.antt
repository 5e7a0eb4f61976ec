use Rattle.std.proofs.Common.{◌≡◌, ◌++◌, ◌∷◌, length, take}
use Rattle.std.specs.List.{flat_map}
use Rattle.a1_value.specs.Encoding.{value_bytes}
use Rattle.type_schema.proofs.layout.push_record.Given as goal

abbrev pub invariant-loop-value : goal.invariant-loop-value
invariant-loop-value l = l.out ≡ l.fn.out ++ length l.values ∷ flat_map value_bytes (take l.value-index l.values)
