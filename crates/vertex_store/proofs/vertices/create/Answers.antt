use Rattle.std.proofs.Common.{ℕ, subst, ◌∙◌}
use Rattle.object_view.specs.Agreement.{State, stood}
use Rattle.object_view.proofs.Moving.{onward_then}
use Rattle.object_view.proofs.Views.{tells_from}
use Rattle.type_schema.specs.Objects.{header_bytes}
use Rattle.vertex_store.specs.Steps.{MakesParts}
use Rattle.vertex_store.proofs.Making.{put_as}
use Rattle.vertex_store.proofs.Changing.{created, header_stays}
use Rattle.vertex_store.proofs.vertices.create.Goals as goal

pub returns-in_err-fields-clause-tells : goal.returns-in_err-fields-clause-tells
returns-in_err-fields-clause-tells g c h ag =
    tells_from c.from_residual-in_err-fields.result _ _ _ c.from_residual-in_err-fields.ensures.1
    (c.in_err-fields.ensures.tells h ag)

pub returns-in_err-fields-clause-onward : goal.returns-in_err-fields-clause-onward
returns-in_err-fields-clause-onward g c =
    onward_then _ _ _ _ _ _ _ _ c.in_ok-at.ensures.onward c.in_err-fields.ensures.onward

pub returns-in_err-bytes-clause-onward : goal.returns-in_err-bytes-clause-onward
returns-in_err-bytes-clause-onward g c =
    onward_then _ _ _ _ _ _ _ _ c.in_ok-at.ensures.onward c.in_ok-fields.ensures.onward

pub returns-in_err-store-clause-onward : goal.returns-in_err-store-clause-onward
returns-in_err-store-clause-onward g c =
    onward_then _ _ _ _ _ _ _ _
    (onward_then _ _ _ _ _ _ _ _ c.in_ok-at.ensures.onward c.in_ok-fields.ensures.onward)
    c.in_err-store.ensures.onward

pub returns-clause-onward : goal.returns-clause-onward
returns-clause-onward g c =
    onward_then _ _ _ _ _ _ _ _
    (onward_then _ _ _ _ _ _ _ _ c.in_ok-at.ensures.onward c.in_ok-fields.ensures.onward)
    c.in_ok-store.ensures.onward

pub store-requires-clause-stands : goal.store-requires-clause-stands
store-requires-clause-stands g c h ag =
    (header_stays _ _ _ _ _ _ c.in_ok-at.at _ _ _ (c.in_ok-at.ensures.ok h) (c.in_ok-fields.ensures.tells h ag)).1

pub returns-clause-tells : goal.returns-clause-tells
returns-clause-tells g c h ag =
    let n = g.V.View.count c.args.view.now in
    let s : State = stood h (g.V.View.overlay c.args.view.now) in
    let t : State = stood h (g.V.View.overlay c.make.new.view) in
    let u : State = stood h (g.V.View.overlay c.make_parts.new.view) in
    let v : State = stood h (g.V.View.overlay c.store.new.view) in
    let at = c.in_ok-at.at in
    let two = c.in_ok-store.ensures.onward.agreed h ag in
    let one = c.in_ok-fields.ensures.onward.agreed h two in
    let parts : MakesParts n c.args.node t u c.args.kind at c.args.values.now c.in_ok-fields.fields =
    subst (λ (m : ℕ). MakesParts m c.args.node t u c.args.kind at c.args.values.now c.in_ok-fields.fields)
    c.in_ok-at.ensures.onward.steady.count (c.in_ok-fields.ensures.tells h two) in
    created n c.args.node s t u v c.args.graph.now.at c.args.kind c.args.values.now at _ c.in_ok-fields.fields
    c.fits.ensures c.fits-2.ensures c.requires.values c.in_ok-at.ensures.place.home (c.in_ok-at.ensures.fresh h one)
    (c.in_ok-at.ensures.ok h) parts
    (put_as u v at _ (header_bytes c.args.graph.now.at c.in_ok-fields.fields) (c.in_ok-store.ensures.ok h)
    (c.as_slice-2.ensures ∙ c.in_ok-bytes.ensures))
