use Rattle.std.proofs.Common.{sym, ap, ◌∙◌}
use Rattle.object_view.specs.Agreement.{Overlay, stood}
use Rattle.object_view.proofs.Layouts.{some_is}
use Rattle.object_view.proofs.Moving.{onward_then}
use Rattle.object_view.proofs.Views.{some_not_none}
use Rattle.object_view.proofs.Views.{tells_look}
use Rattle.object_btree.proofs.removal.look_two.Goals as goal

pub returns-in_err-look-clause-tells : goal.returns-in_err-look-clause-tells
returns-in_err-look-clause-tells g c h xs ys ag rat sat ra sa rb sb =
    tells_look c.from_residual.result c.args.at _ _ _ _ c.from_residual.ensures.1 (c.in_err-look.ensures.tells h ag) rat
    sat

pub returns-in_err-left-clause-tells : goal.returns-in_err-left-clause-tells
returns-in_err-left-clause-tells g c h xs ys ag rat sat ra sa rb sb =
    let on = c.in_ok-look.ensures.onward.steady in
    tells_look c.from_residual-in_err-left.result c.args.a _ _ _ _ c.from_residual-in_err-left.ensures.1
    (c.in_err-left.ensures.tells h ag) (rw (on.reaches, on.count) ra)
    (some_not_none _ xs (rw (c.in_ok-look.ensures.overlay) sa))

pub returns-in_err-left-clause-onward : goal.returns-in_err-left-clause-onward
returns-in_err-left-clause-onward g c =
    onward_then _ _ _ _ _ _ _ _ c.in_ok-look.ensures.onward c.in_err-left.ensures.onward

pub returns-in_err-right-clause-tells : goal.returns-in_err-right-clause-tells
returns-in_err-right-clause-tells g c h xs ys ag rat sat ra sa rb sb =
    let on = c.in_ok-look.ensures.onward.steady in
    let on2 = c.in_ok-left.ensures.onward.steady in
    tells_look c.from_residual-in_err-right.result c.args.b _ _ _ _ c.from_residual-in_err-right.ensures.1
    (c.in_err-right.ensures.tells h ag) (rw (on2.reaches, on2.count, on.reaches, on.count) rb)
    (some_not_none _ ys (rw (c.in_ok-left.ensures.overlay, c.in_ok-look.ensures.overlay) sb))

pub returns-in_err-right-clause-onward : goal.returns-in_err-right-clause-onward
returns-in_err-right-clause-onward g c =
    onward_then _ _ _ _ _ _ _ _
    (onward_then _ _ _ _ _ _ _ _ c.in_ok-look.ensures.onward c.in_ok-left.ensures.onward)
    c.in_err-right.ensures.onward

pub returns-clause-stands : goal.returns-clause-stands
returns-clause-stands g c h ag =
    rw (c.in_ok-right.ensures.overlay, c.in_ok-left.ensures.overlay)
    (c.in_ok-look.ensures.stands h (c.in_ok-left.ensures.onward.agreed h (c.in_ok-right.ensures.onward.agreed h ag)))

pub returns-clause-left_stands : goal.returns-clause-left_stands
returns-clause-left_stands g c h ag =
    rw (c.in_ok-right.ensures.overlay) (c.in_ok-left.ensures.stands h (c.in_ok-right.ensures.onward.agreed h ag))

pub returns-clause-reached : goal.returns-clause-reached
returns-clause-reached g c =
    let on2 = c.in_ok-left.ensures.onward.steady in
    let on3 = c.in_ok-right.ensures.onward.steady in (
      rw (on3.reaches, on3.count, on2.reaches, on2.count) c.in_ok-look.ensures.served,
      rw (on3.reaches, on3.count) c.in_ok-left.ensures.served,
      c.in_ok-right.ensures.served,
    )

pub returns-clause-onward : goal.returns-clause-onward
returns-clause-onward g c =
    onward_then _ _ _ _ _ _ _ _
    (onward_then _ _ _ _ _ _ _ _ c.in_ok-look.ensures.onward c.in_ok-left.ensures.onward)
    c.in_ok-right.ensures.onward

pub returns-clause-tells : goal.returns-clause-tells
returns-clause-tells g c h xs ys ag rat sat ra sa rb sb =
    let left = (c.in_ok-left.ensures.tells h (c.in_ok-right.ensures.onward.agreed h ag)).1 in
    let right = (c.in_ok-right.ensures.tells h ag).1 in
    let e1 = c.in_ok-look.ensures.overlay in
    let e2 = c.in_ok-left.ensures.overlay in (
      some_is _ _ (sym left ∙ ap (λ (o : Overlay). stood h o c.args.a) e1 ∙ sa),
      some_is _ _ (sym right ∙ ap (λ (o : Overlay). stood h o c.args.b) (e2 ∙ e1) ∙ sb),
    )
