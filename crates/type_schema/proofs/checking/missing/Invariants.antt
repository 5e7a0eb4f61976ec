use Rattle.std.proofs.Common.{◌≡◌, drop}
use Rattle.type_schema.specs.Schemas.{missing}
use Rattle.type_schema.proofs.checking.missing.Given as goal

abbrev pub invariant-loop-attr : goal.invariant-loop-attr
invariant-loop-attr l = missing l.attrs l.members ≡ missing (drop l.attr-index l.attrs) l.members
