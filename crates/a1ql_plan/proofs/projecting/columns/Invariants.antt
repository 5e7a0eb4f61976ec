use Rattle.std.proofs.Common.{◌≡◌, drop}
use Rattle.a1ql_plan.specs.Plan.{columns_of}
use Rattle.a1ql_plan.proofs.EachLemmas.{with_front}
use Rattle.a1ql_plan.proofs.projecting.columns.Given as goal

abbrev pub invariant-loop-name : goal.invariant-loop-name
invariant-loop-name l = with_front l.columns (columns_of l.attrs (drop l.name-index l.names)) ≡ columns_of l.attrs l.names
