use Rattle.std.proofs.Common.{ℕ, List, Some, ap, ◌∙◌}
use Rattle.object_view.specs.Agreement.{stood}
use Rattle.object_view.specs.Parts.{with_bytes}
use Rattle.object_view.proofs.Views.{stored_result, ok_lasts}
use Rattle.object_btree.proofs.nodes.put_node.Goals as goal

pub returns-clause-tells : goal.returns-clause-tells
returns-clause-tells g c short =
    stored_result c.store.result _ _ c.store.ensures.fault c.store.ensures.ok (λ put h.
    put h ∙ ap (λ (b : List ℕ). with_bytes c.args.at (Some b) (stood h (g.V.View.overlay c.args.view.now)))
    (c.as_slice.ensures.value ∙ c.in_ok-bytes.ensures))

pub returns-clause-lasts : goal.returns-clause-lasts
returns-clause-lasts g c = ok_lasts c.store.result _ _ _ c.args.at _ c.store.ensures.ok
