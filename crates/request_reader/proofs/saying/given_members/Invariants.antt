use Rattle.std.proofs.Common.{◌≡◌, ◌++◌, drop}
use Rattle.request_reader.specs.Request.{given_members}
use Rattle.request_reader.proofs.saying.given_members.Given as goal

abbrev pub invariant-loop-member : goal.invariant-loop-member
invariant-loop-member l = l.values ++ given_members (drop l.member-index l.members) ≡ given_members l.members
