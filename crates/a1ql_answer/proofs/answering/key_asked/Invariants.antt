use Rattle.std.proofs.Common.{◌≡◌, drop}
use Rattle.a1ql_answer.specs.Steps.{key_asked}
use Rattle.a1ql_answer.proofs.answering.key_asked.Given as goal

abbrev pub invariant-loop-test : goal.invariant-loop-test
invariant-loop-test l = key_asked (drop l.test-index l.tests) ≡ key_asked l.tests
