use Rattle.std.proofs.Common.{◌≡◌, ◌∙◌, ap, refl}
use Rattle.type_schema.specs.Graph.{type_order, vertex_order, edge_order}
use Rattle.graph_plain.specs.Taking.{without_all}
use Rattle.graph_plain.proofs.TakingLemmas.{types_taken, vertices_taken, edges_taken}
use Rattle.graph_plain.proofs.acting.drop_graph.Goals as goal

pub returns-clause-ok : goal.returns-clause-ok
returns-clause-ok c =
    let draft = c.args.draft.now in
    let types = c.in_ok-take_types.ensures.ok
    ∙ ap (λ keys. without_all type_order keys draft.types.now) c.in_ok-types.ensures
    ∙ types_taken c.args.number draft.types.now in
    let vertices = c.in_ok-take_vertices.ensures.ok
    ∙ ap (λ keys. without_all vertex_order keys draft.vertices.now) c.in_ok-vertices.ensures
    ∙ vertices_taken c.args.number draft.vertices.now in
    let edges = c.in_ok-take_edges.ensures.ok
    ∙ ap (λ keys. without_all edge_order keys draft.edges.now) c.in_ok-edges.ensures
    ∙ edges_taken c.args.number draft.edges.now in
    rw (c.in_ok-take.ensures.ok, types, vertices, edges) refl
