use Rattle.std.proofs.Common.{◌≡◌, ◌++◌, drop}
use Rattle.a1ql_reader.specs.Values.{tests_in}
use Rattle.a1ql_reader.proofs.values.tests_in.Given as goal

abbrev pub invariant-loop-member : goal.invariant-loop-member
invariant-loop-member l = l.tests ++ tests_in (drop l.member-index l.members) ≡ tests_in l.members
