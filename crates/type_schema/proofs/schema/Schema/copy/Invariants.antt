use Rattle.std.proofs.Common.{◌≡◌, take}
use Rattle.type_schema.proofs.schema.Schema.copy.Given as goal

abbrev pub invariant-loop-attr : goal.invariant-loop-attr
invariant-loop-attr l = l.attrs.items ≡ take l.attr-index l.self
