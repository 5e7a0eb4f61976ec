use Rattle.std.proofs.Common.{filter, map, ap, ◌∙◌, is_eq}
use Rattle.std.specs.List.{list_any}
use Rattle.type_schema.specs.Graph.{vertex_order, edge_order}
use Rattle.graph_maps.specs.Halves.{near_end, seen_edges}
use Rattle.graph_maps.proofs.SeenLemmas.{names_at}
use Rattle.graph_maps.proofs.edges.Edges.at_vertex.Goals as goal

pub returns : goal.returns
returns c =
    let edges = c.self.inside.named.now in let halves = c.self.inside.halves.now in
    let rows = ap (map (λ e. (e.0.now, e.1.now))) c.deref.ensures.value
    ∙ (c.in_ok-rows.ensures.rows ∙ ap (λ v. seen_edges edges (filter (λ h. is_eq (vertex_order v (near_end h.0))) halves)) c.in_ok-part.ensures) in
    rw (← c.self.view_is)
    (c.in_ok-list.ensures.same
    ∙ names_at c.args.vertex.now edges halves c.in_ok-names.names.keys c.standing.ensures.ordered.0 c.standing.ensures.ordered.1 c.self.invariant.0 c.listed.ensures.ordered
    (λ e. c.in_ok-names.ensures e ∙ ap (list_any (λ x. is_eq (edge_order e x.0))) rows))
