use Rattle.std.proofs.Common.{Some, ap, ◌∙◌}
use Rattle.object_view.specs.Agreement.{stood}
use Rattle.object_view.specs.Parts.{with_bytes}
use Rattle.object_view.proofs.Moving.{onward_then}
use Rattle.object_view.proofs.Views.{stored_result, tells_look}
use Rattle.half_edge_lists.proofs.changing.rewrite.Goals as goal

pub returns-in_err-look-clause-tells : goal.returns-in_err-look-clause-tells
returns-in_err-look-clause-tells g c h ag served full =
    tells_look c.from_residual.result c.args.at _ _ _ _ c.from_residual.ensures.1 (c.in_err-look.ensures.tells h ag)
    served full

pub returns-clause-tells : goal.returns-clause-tells
returns-clause-tells g c h ag served full =
    stored_result c.store.result _ _ c.store.ensures.fault c.store.ensures.ok
    (λ p. p h ∙ ap (λ o. with_bytes c.args.at (Some c.args.bytes.now) (stood h o)) c.in_ok-look.ensures.overlay)

pub returns-clause-onward : goal.returns-clause-onward
returns-clause-onward g c = onward_then _ _ _ _ _ _ _ _ c.in_ok-look.ensures.onward c.store.ensures.onward
