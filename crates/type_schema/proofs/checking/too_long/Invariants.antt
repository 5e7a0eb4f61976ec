use Rattle.std.proofs.Common.{◌≡◌, drop}
use Rattle.type_schema.specs.Schemas.{too_long}
use Rattle.type_schema.proofs.checking.too_long.Given as goal

abbrev pub invariant-loop-attr : goal.invariant-loop-attr
invariant-loop-attr l = too_long l.attrs l.values ≡ too_long (drop l.attr-index l.attrs) l.rest
