use Rattle.std.proofs.Common.{◌≡◌, ◌∙◌, ap, refl}
use Rattle.type_schema.specs.Graph.{edge_order}
use Rattle.graph_plain.specs.Taking.{without_all}
use Rattle.graph_plain.proofs.TakingLemmas.{touching_taken}
use Rattle.graph_plain.proofs.acting.drop_vertex.Goals as goal

pub returns-clause-ok : goal.returns-clause-ok
returns-clause-ok c =
    let edges = c.in_ok-take_edges.ensures.ok
    ∙ ap (λ keys. without_all edge_order keys c.args.draft.now.edges.now) c.in_ok-edges.ensures
    ∙ touching_taken c.args.name c.args.draft.now.edges.now in
    rw (c.in_ok-take.ensures.ok, edges) refl
