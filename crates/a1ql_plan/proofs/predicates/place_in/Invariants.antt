use Rattle.std.proofs.Common.{◌≡◌, drop}
use Rattle.a1ql_plan.specs.Plan.{place_from, place_in}
use Rattle.a1ql_plan.proofs.predicates.place_in.Given as goal

abbrev pub invariant-loop-place : goal.invariant-loop-place
invariant-loop-place l = place_from l.place (drop l.place l.attrs) l.name ≡ place_in l.attrs l.name
