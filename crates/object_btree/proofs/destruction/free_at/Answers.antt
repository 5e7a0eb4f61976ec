use Rattle.std.proofs.Common.{Bool, None, ap, ◌∙◌}
use Rattle.object_view.specs.Agreement.{stood}
use Rattle.object_view.specs.Parts.{with_bytes}
use Rattle.object_view.proofs.Moving.{onward_then}
use Rattle.object_view.proofs.Views.{stored_result, tells_from}
use Rattle.object_btree.proofs.Freeing.{look_full}
use Rattle.object_btree.proofs.destruction.free_at.Goals as goal

pub returns-in_err-look-clause-tells : goal.returns-in_err-look-clause-tells
returns-in_err-look-clause-tells g c h ag served full =
    tells_from c.from_residual.result _ _ _ c.from_residual.ensures.1
    (look_full {A = Bool} c.args.at c.in_err-look.field-0.0 _ _ (λ x. Bool) (c.in_err-look.ensures.tells h ag) served
    full)

pub returns-clause-tells : goal.returns-clause-tells
returns-clause-tells g c h ag served full =
    stored_result c.take.result _ _ c.take.ensures.fault c.take.ensures.ok
    (λ p. p h ∙ ap (λ o. with_bytes c.args.at None (stood h o)) c.in_ok-look.ensures.overlay)

pub returns-clause-onward : goal.returns-clause-onward
returns-clause-onward g c = onward_then _ _ _ _ _ _ _ _ c.in_ok-look.ensures.onward c.take.ensures.onward
