use Rattle.std.proofs.Common.{◌≡◌, ◌||◌, map, drop}
use Rattle.std.specs.List.{list_any}
use Rattle.std.specs.Map.Iter.{deref_pair}
use Rattle.type_schema.specs.declared.names.VertexName as vertex
use Rattle.a1ql_plan.specs.Answer.{is_vertex}
use Rattle.a1ql_answer.specs.Steps.{ends_at, is_led}
use Rattle.a1ql_answer.proofs.chain.add_ends.Given as goal

abbrev pub invariant-loop-edge : goal.invariant-loop-edge
invariant-loop-edge g l =
    (w : vertex.VertexName)
    → (list_any (is_vertex w) l.names.keys
    || list_any (ends_at l.hop w) (map deref_pair (drop l.edge-index l.edge-items)))
    ≡ (list_any (is_vertex w) l.fn.names.keys || is_led (g.V.View.graph l.view) l.hop l.vertex w)
