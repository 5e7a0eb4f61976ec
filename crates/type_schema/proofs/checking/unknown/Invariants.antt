use Rattle.std.proofs.Common.{◌≡◌, drop}
use Rattle.type_schema.specs.Schemas.{unknown}
use Rattle.type_schema.proofs.checking.unknown.Given as goal

abbrev pub invariant-loop-member : goal.invariant-loop-member
invariant-loop-member l = unknown l.attrs l.members ≡ unknown l.attrs (drop l.member-index l.members)
