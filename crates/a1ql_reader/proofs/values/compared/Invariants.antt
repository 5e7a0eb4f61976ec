use Rattle.std.proofs.Common.{◌≡◌, ◌++◌, drop}
use Rattle.a1ql_reader.specs.Values.{compared}
use Rattle.a1ql_reader.proofs.values.compared.Given as goal

abbrev pub invariant-loop-member : goal.invariant-loop-member
invariant-loop-member l = l.tests ++ compared l.attr (drop l.member-index l.members) ≡ compared l.attr l.members
