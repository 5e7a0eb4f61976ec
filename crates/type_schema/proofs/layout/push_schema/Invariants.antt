use Rattle.std.proofs.Common.{◌≡◌, ◌++◌, ◌∷◌, length, take}
use Rattle.std.specs.List.{flat_map}
use Rattle.type_schema.specs.Layout.{attr_bytes}
use Rattle.type_schema.proofs.layout.push_schema.Given as goal

abbrev pub invariant-loop-attr : goal.invariant-loop-attr
invariant-loop-attr l = l.out ≡ l.fn.out ++ length l.schema ∷ flat_map attr_bytes (take l.attr-index l.schema)
