use Rattle.std.proofs.Common.{ℕ, List, Bool, filter, map, ap, sym, ◌∙◌, is_eq}
use Rattle.std.specs.List.{list_any}
use Rattle.type_schema.specs.declared.names.VertexName.{VertexName}
use Rattle.graph_maps.specs.Halves.{front_order, seen_edges}
use Rattle.graph_maps.specs.Parts.{first_half}
use Rattle.graph_maps.proofs.SeenLemmas.{edges_leading, none_leads}
use Rattle.graph_maps.proofs.edges.Edges.at.Goals as goal

pub returns-then-kind-vertex : goal.returns-then-kind-vertex
returns-then-kind-vertex c test =
    ap (λ l. list_any test (map (λ e. (e.0.now, e.1.now)) l)) c.new.ensures.items
    ∙ sym (none_leads c.args.out c.args.kind.now c.args.vertex.now c.args.self.now.now c.if-kind-vertex.true test)

pub returns : goal.returns
returns c test =
    let edges = c.self.inside.named.now in let halves = c.self.inside.halves.now in
    rw (← c.self.view_is)
    (ap (list_any test)
    (c.in_ok-rows.ensures.rows
    ∙ ap (λ (p : Bool × List ℕ × VertexName). seen_edges edges (filter (λ h. is_eq (front_order (first_half p.0 p.1 p.2) h.0)) halves)) c.in_ok-part.ensures)
    ∙ edges_leading c.args.out c.args.kind.now c.args.vertex.now edges halves c.standing.ensures.ordered.0 c.standing.ensures.ordered.1 c.self.invariant.0
    c.if-kind-vertex.false test)
