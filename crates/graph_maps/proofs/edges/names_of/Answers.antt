use Rattle.std.proofs.Common.{◌∷◌, ◌+◌, drop, ap, sym, ◌∙◌}
use Rattle.std.proofs.lemmas.List.{drop_more}
use Rattle.type_schema.specs.Graph.{edge_order}
use Rattle.graph_maps.specs.KeyOrders.{edge_total}
use Rattle.graph_maps.proofs.SeenLemmas.{named_more}
use Rattle.graph_maps.proofs.edges.names_of.Goals as goal

pub loop-name-preserved : goal.loop-name-preserved
loop-name-preserved c e =
    let rows = c.args.rows.now in let at = c.loop-name.name-index in let this = c.loop-name-item.result in
    named_more edge_order edge_total (λ x. (x.0.now, x.1.now)) e c.in_ok-copy.field-0 _ _ this (drop at rows) (drop (at + 1) rows) _ (c.in_ok-insert.ensures.updates.0 e)
    c.in_ok-copy.ensures (drop_more rows at this c.loop-name-test.true ∙ ap (λ z. z ∷ drop (at + 1) rows) (sym c.loop-name-item.is)) (c.loop-name.invariant e)
