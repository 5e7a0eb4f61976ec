use Rattle.std.proofs.Common.{◌≡◌, false, sym, ap, ◌∙◌, is_eq}
use Rattle.a1_base.specs.Maps.{has}
use Rattle.type_schema.specs.Graph.{edge_order}
use Rattle.graph_maps.specs.Halves.{half_order}
use Rattle.graph_maps.specs.KeyOrders.{half_total, exact_halves}
use Rattle.graph_maps.proofs.SeenLemmas.{has_less, other_half}
use Rattle.graph_maps.proofs.edges.take_half.Goals as goal

pub returns-clause-others : goal.returns-clause-others
returns-clause-others c h apart there =
    let half = c.in_ok-half_of.field-0 in
    let other : is_eq (edge_order h.edge half.edge) ≡ false = ap (λ z. is_eq (edge_order h.edge z.edge)) c.in_ok-half_of.ensures ∙ apart in
    ap (has half_order h) c.in_ok-take.ensures.ok
    ∙ (has_less half_order half_total exact_halves h half c.args.halves.now.now (other_half h half other) ∙ there)
