use Rattle.std.proofs.Common.{ℕ, List, Some, ap, ◌∙◌}
use Rattle.object_view.specs.Agreement.{stood}
use Rattle.object_view.specs.Parts.{with_bytes}
use Rattle.object_view.proofs.Views.{made_result, made_lasts}
use Rattle.object_btree.proofs.nodes.make_node.Goals as goal

pub returns-clause-tells : goal.returns-clause-tells
returns-clause-tells g c short =
    made_result c.make.result c.args.site.node _ _ c.make.ensures.fault c.make.ensures.ok (λ at put h.
    put h ∙ ap (λ (b : List ℕ). with_bytes at (Some b) (stood h (g.V.View.overlay c.args.view.now)))
    (c.as_slice.ensures.value ∙ c.in_ok-bytes.ensures))

pub returns-clause-lasts : goal.returns-clause-lasts
returns-clause-lasts g c = made_lasts c.make.result _ _ _ _ c.make.ensures.ok
