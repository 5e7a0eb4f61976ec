use Rattle.std.proofs.Common.{◌≡◌, ◌++◌, ◌&&◌, map, filter}
use Rattle.std.specs.Map.Iter.{deref_pair}
use Rattle.type_schema.specs.Graph.{near}
use Rattle.a1ql_plan.specs.Answer.{is_vertex, is_type}
use Rattle.a1ql_answer.proofs.tests.edges_at.Given as goal

abbrev pub invariant-loop-edge : goal.invariant-loop-edge
invariant-loop-edge l =
    map deref_pair l.rows.items
    ++ filter (λ e. is_vertex l.vertex (near l.out e.0) && is_type l.kind e.0.graph e.0.kind) l.edge-iterator
    ≡ filter (λ e. is_vertex l.vertex (near l.out e.0) && is_type l.kind e.0.graph e.0.kind) l.edges.entries
