use Rattle.std.proofs.Common.{◌≡◌, ◌++◌, map, drop}
use Rattle.std.specs.Map.Iter.{deref_pair}
use Rattle.a1ql_plan.specs.Answer.{row_of}
use Rattle.a1ql_answer.proofs.rows.rows.Given as goal

abbrev pub invariant-loop-values : goal.invariant-loop-values
invariant-loop-values l =
    l.rows ++ map (λ v. row_of l.columns v.1) (map deref_pair (drop l.values-index l.set))
    ≡ map (λ v. row_of l.columns v.1) (map deref_pair l.set)
