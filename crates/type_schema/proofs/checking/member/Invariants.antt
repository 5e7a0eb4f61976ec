use Rattle.std.proofs.Common.{◌≡◌, drop}
use Rattle.type_schema.specs.Schemas.{member}
use Rattle.type_schema.proofs.checking.member.Given as goal

abbrev pub invariant-loop-member : goal.invariant-loop-member
invariant-loop-member l = member l.name l.members ≡ member l.name (drop l.member-index l.members)
