use Rattle.std.proofs.Common.{◌≡◌, ◌++◌, map, filter}
use Rattle.std.specs.Map.Iter.{deref_pair}
use Rattle.a1ql_plan.specs.Answer.{is_type}
use Rattle.a1ql_answer.proofs.tests.FilmsView.of_type.Given as goal

abbrev pub invariant-loop-vertex : goal.invariant-loop-vertex
invariant-loop-vertex l =
    map deref_pair l.rows.items ++ filter (λ v. is_type l.kind v.0.graph v.0.kind) l.vertex-iterator
    ≡ filter (λ v. is_type l.kind v.0.graph v.0.kind) l.self.vertices.entries
