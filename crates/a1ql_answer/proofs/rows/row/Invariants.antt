use Rattle.std.proofs.Common.{◌≡◌, ◌++◌, drop}
use Rattle.a1ql_plan.specs.Answer.{members_at}
use Rattle.a1ql_answer.proofs.rows.row.Given as goal

abbrev pub invariant-loop-column : goal.invariant-loop-column
invariant-loop-column l =
    l.members ++ members_at (drop l.column-index l.columns) l.values ≡ members_at l.columns l.values
