use Rattle.std.proofs.Common.{◌≡◌, ◌%◌, ℕ, [], refl, sym, ap, ◌∙◌}
use Rattle.object_view.specs.Agreement.{State, stood}
use Rattle.object_view.proofs.Moving.{onward_then}
use Rattle.type_schema.specs.Objects.{body_bytes, short_bytes}
use Rattle.vertex_store.proofs.Making.{put_as}
use Rattle.vertex_store.proofs.Changing.{parts_made}
use Rattle.vertex_store.proofs.parts.make_parts.Goals as goal

pub returns-in_err-out-clause-onward : goal.returns-in_err-out-clause-onward
returns-in_err-out-clause-onward g c =
    onward_then _ _ _ _ _ _ _ _ c.in_ok-body.ensures.onward c.in_err-out.ensures.onward

pub returns-in_err-into-clause-onward : goal.returns-in_err-into-clause-onward
returns-in_err-into-clause-onward g c =
    onward_then _ _ _ _ _ _ _ _
    (onward_then _ _ _ _ _ _ _ _ c.in_ok-body.ensures.onward c.in_ok-out.ensures.onward)
    c.in_err-into.ensures.onward

pub returns-clause-onward : goal.returns-clause-onward
returns-clause-onward g c =
    onward_then _ _ _ _ _ _ _ _
    (onward_then _ _ _ _ _ _ _ _ c.in_ok-body.ensures.onward c.in_ok-out.ensures.onward)
    c.in_ok-into.ensures.onward

pub returns-clause-tells : goal.returns-clause-tells
returns-clause-tells g c h ag =
    let s : State = stood h (g.V.View.overlay c.args.view.now) in
    let t : State = stood h (g.V.View.overlay c.make.new.view) in
    let u : State = stood h (g.V.View.overlay c.make-2.new.view) in
    let v : State = stood h (g.V.View.overlay c.make-3.new.view) in
    let two = c.in_ok-into.ensures.onward.agreed h ag in
    let one = c.in_ok-out.ensures.onward.agreed h two in
    let count : g.V.View.count c.make.new.view ≡ g.V.View.count c.args.view.now =
    c.in_ok-body.ensures.onward.steady.count in
    let later : g.V.View.count c.make-2.new.view ≡ g.V.View.count c.args.view.now =
    c.in_ok-out.ensures.onward.steady.count ∙ count in
    parts_made (g.V.View.count c.args.view.now) c.args.node s t u v c.args.kind c.args.owner c.args.values.now _
    (record { kind = c.ranges.kind.fits; body = c.fits.ensures; out = c.fits-2.ensures; into = c.fits-3.ensures }) refl
    c.in_ok-body.ensures.place.home
    (ap (λ (n : ℕ). c.in_ok-out.out.region % n) (sym count) ∙ c.in_ok-out.ensures.place.home)
    (ap (λ (n : ℕ). c.in_ok-into.into.region % n) (sym later) ∙ c.in_ok-into.ensures.place.home)
    (c.in_ok-body.ensures.fresh h one)
    (put_as s t c.in_ok-body.body _ (body_bytes 8 c.args.owner c.args.values.now) (c.in_ok-body.ensures.ok h)
    (c.as_slice.ensures ∙ c.in_ok-bytes.ensures))
    (c.in_ok-out.ensures.fresh h two)
    (put_as t u c.in_ok-out.out _ (short_bytes c.args.owner []) (c.in_ok-out.ensures.ok h)
    (c.as_slice-2.ensures ∙ c.in_ok-list.ensures))
    (c.in_ok-into.ensures.fresh h ag)
    (put_as u v c.in_ok-into.into _ (short_bytes c.args.owner []) (c.in_ok-into.ensures.ok h)
    (c.as_slice-3.ensures ∙ c.in_ok-list.ensures))
