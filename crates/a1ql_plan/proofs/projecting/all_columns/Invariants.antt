use Rattle.std.proofs.Common.{◌≡◌, ◌++◌, drop}
use Rattle.a1ql_plan.specs.Plan.{columns_from}
use Rattle.a1ql_plan.proofs.projecting.all_columns.Given as goal

abbrev pub invariant-loop-place : goal.invariant-loop-place
invariant-loop-place l = l.columns ++ columns_from l.place (drop l.place l.attrs) ≡ columns_from 0 l.attrs
