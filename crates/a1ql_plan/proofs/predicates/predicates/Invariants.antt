use Rattle.std.proofs.Common.{◌≡◌, drop}
use Rattle.a1ql_plan.specs.Plan.{predicates_of}
use Rattle.a1ql_plan.proofs.EachLemmas.{with_front}
use Rattle.a1ql_plan.proofs.predicates.predicates.Given as goal

abbrev pub invariant-loop-test : goal.invariant-loop-test
invariant-loop-test l = with_front l.predicates (predicates_of l.attrs (drop l.test-index l.tests)) ≡ predicates_of l.attrs l.tests
