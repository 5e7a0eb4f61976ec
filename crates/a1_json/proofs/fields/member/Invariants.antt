use Rattle.std.proofs.Common.{◌≡◌, drop}
use Rattle.a1_json.specs.Fields.{member_of}
use Rattle.a1_json.proofs.fields.member.Given as goal

abbrev pub invariant-loop-member : goal.invariant-loop-member
invariant-loop-member l = member_of l.name l.members ≡ member_of l.name (drop l.member-index l.members)
