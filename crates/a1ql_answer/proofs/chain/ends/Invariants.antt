use Rattle.std.proofs.Common.{◌≡◌, ◌||◌, map, drop}
use Rattle.std.specs.List.{list_any}
use Rattle.std.specs.Map.Iter.{deref_pair}
use Rattle.type_schema.specs.declared.names.VertexName as vertex
use Rattle.a1ql_plan.specs.Answer.{is_vertex}
use Rattle.a1ql_answer.specs.Steps.{is_joined}
use Rattle.a1ql_answer.proofs.chain.ends.Given as goal

abbrev pub invariant-loop-vertex : goal.invariant-loop-vertex
invariant-loop-vertex g l =
    (w : vertex.VertexName)
    → (list_any (is_vertex w) l.names.keys
    || is_joined (g.V.View.graph l.view) l.hop (map deref_pair (drop l.vertex-index l.set)) w)
    ≡ is_joined (g.V.View.graph l.view) l.hop (map deref_pair l.set) w
