-- What is resolved of a pattern, by its level.
use Rattle.std.proofs.Common.{◌≡◌, ℕ, map, option_map, ap, ◌∙◌}
use Rattle.a1ql_reader.specs.declared.patterns.VertexPattern.{VertexPattern, out-VertexPattern, fold_out-VertexPattern}
use Rattle.a1ql_reader.specs.declared.patterns.Hop.{Hop, out-Hop, fold_out-Hop}
use Rattle.a1ql_plan.specs.Plan.{Types, Expanded, Planned, expand_step, vertex_step, expand_of, vertex_of}
use Rattle.a1ql_plan.proofs.LayerLemmas.{layer_is}

pub at_vertex : (types : Types) (graph : ℕ) (p : VertexPattern) → vertex_of types graph p ≡ vertex_step types graph (record {
  kind = (out-VertexPattern p).kind;
  tests = (out-VertexPattern p).tests;
  matches = map (expand_of types graph) (out-VertexPattern p).matches;
  hop = option_map (expand_of types graph) (out-VertexPattern p).hop;
  select = (out-VertexPattern p).select;
})
at_vertex types graph p =
    fold_out-VertexPattern Expanded Planned (expand_step types graph) (vertex_step types graph) p
    ∙ ap (vertex_step types graph) (layer_is (expand_of types graph) (vertex_of types graph) (out-VertexPattern p))

pub at_expand : (types : Types) (graph : ℕ) (h : Hop) → expand_of types graph h ≡ expand_step types graph (record {
  out = (out-Hop h).out;
  kind = (out-Hop h).kind;
  tests = (out-Hop h).tests;
  to = vertex_of types graph (out-Hop h).to;
})
at_expand types graph h = fold_out-Hop Expanded Planned (expand_step types graph) (vertex_step types graph) h
