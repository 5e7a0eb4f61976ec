use Rattle.std.proofs.Common.{◌≡◌, [], None, sym, ap, subst, ◌∙◌}
use Rattle.object_view.specs.Agreement.{Overlay, State, stood}
use Rattle.object_view.specs.Parts.{Moves, with_bytes}
use Rattle.object_view.proofs.Moving.{onward_then}
use Rattle.object_view.proofs.Views.{tells_from, tells_map}
use Rattle.type_schema.specs.declared.objects.Header.{Header}
use Rattle.vertex_store.specs.Changes.{IsBare, objects_of}
use Rattle.vertex_store.proofs.Changing.{body_left, out_left, into_left, destroyed}
use Rattle.vertex_store.proofs.Handing.{tells_given}
use Rattle.vertex_store.proofs.Making.{served_later}
use Rattle.vertex_store.proofs.vertices.destroy.Goals as goal

pub returns-in_err-fields-clause-tells : goal.returns-in_err-fields-clause-tells
returns-in_err-fields-clause-tells g c h graph fields values ag bare =
    tells_given c.from_residual.result _ _ fields c.from_residual.ensures.1
    (c.in_err-fields.ensures.tells h graph fields ag bare.vertex)

pub returns-in_err-take-clause-onward : goal.returns-in_err-take-clause-onward
returns-in_err-take-clause-onward g c =
    onward_then _ _ _ _ _ _ _ _ c.in_ok-fields.ensures.onward c.in_err-take.ensures.onward

pub returns-in_err-take_at-clause-onward : goal.returns-in_err-take_at-clause-onward
returns-in_err-take_at-clause-onward g c =
    onward_then _ _ _ _ _ _ _ _
    (onward_then _ _ _ _ _ _ _ _ c.in_ok-fields.ensures.onward c.in_ok-take.ensures.onward)
    c.in_err-take_at.ensures.onward

pub returns-in_err-take_empty-clause-onward : goal.returns-in_err-take_empty-clause-onward
returns-in_err-take_empty-clause-onward g c =
    onward_then _ _ _ _ _ _ _ _
    (onward_then _ _ _ _ _ _ _ _
    (onward_then _ _ _ _ _ _ _ _ c.in_ok-fields.ensures.onward c.in_ok-take.ensures.onward)
    c.in_ok-take_at.ensures.onward) c.in_err-take_empty.ensures.onward

pub returns-clause-onward : goal.returns-clause-onward
returns-clause-onward g c =
    onward_then _ _ _ _ _ _ _ _
    (onward_then _ _ _ _ _ _ _ _
    (onward_then _ _ _ _ _ _ _ _
    (onward_then _ _ _ _ _ _ _ _ c.in_ok-fields.ensures.onward c.in_ok-take.ensures.onward)
    c.in_ok-take_at.ensures.onward) c.in_ok-take_empty.ensures.onward) c.take_empty-2.ensures.onward

pub returns-in_err-take_at-clause-tells : goal.returns-in_err-take_at-clause-tells
returns-in_err-take_at-clause-tells g c h graph fields values ag bare =
    let n = g.V.View.count c.args.view.now in
    let s : State = stood h (g.V.View.overlay c.args.view.now) in
    let at = c.args.header in
    let f : Header = c.in_ok-fields.fields in
    let one = c.in_err-take_at.ensures.onward.agreed h ag in
    let found : f ≡ fields = c.in_ok-fields.ensures.tells h graph fields
    (c.in_ok-take.ensures.onward.agreed h one) bare.vertex in
    let b : IsBare n s at graph f values = subst (λ (x : Header). IsBare n s at graph x values) (sym found) bare in
    let steady = (onward_then _ _ _ _ _ _ _ _ c.in_ok-fields.ensures.onward c.in_ok-take.ensures.onward).steady in
    tells_from c.from_residual-in_err-take_at.result _ _ _ c.from_residual-in_err-take_at.ensures.1
    (c.in_err-take_at.ensures.tells h ag
    (served_later _ _ _ _ f.body at steady.reaches steady.count b.vertex.body_near c.requires.served)
    (body_left n s _ at graph f values b (c.in_ok-take.ensures.ok h ∙
    ap (λ (o : Overlay). with_bytes at None (stood h o)) c.in_ok-fields.ensures.overlay)))

pub returns-in_err-take_empty-clause-tells : goal.returns-in_err-take_empty-clause-tells
returns-in_err-take_empty-clause-tells g c h graph fields values ag bare =
    let n = g.V.View.count c.args.view.now in
    let s : State = stood h (g.V.View.overlay c.args.view.now) in
    let t : State = stood h (g.V.View.overlay c.take.new.view) in
    let u : State = stood h (g.V.View.overlay c.take_at.new.view) in
    let at = c.args.header in
    let f : Header = c.in_ok-fields.fields in
    let two = c.in_err-take_empty.ensures.onward.agreed h ag in
    let one = c.in_ok-take_at.ensures.onward.agreed h two in
    let found : f ≡ fields = c.in_ok-fields.ensures.tells h graph fields
    (c.in_ok-take.ensures.onward.agreed h one) bare.vertex in
    let b : IsBare n s at graph f values = subst (λ (x : Header). IsBare n s at graph x values) (sym found) bare in
    let before = onward_then _ _ _ _ _ _ _ _ c.in_ok-fields.ensures.onward c.in_ok-take.ensures.onward in
    let after = onward_then _ _ _ _ _ _ _ _ before c.in_ok-take_at.ensures.onward in
    let first : t ≡ with_bytes at None s = c.in_ok-take.ensures.ok h ∙
    ap (λ (o : Overlay). with_bytes at None (stood h o)) c.in_ok-fields.ensures.overlay in
    let second : u ≡ with_bytes f.body None t = c.in_ok-take_at.ensures.tells h two
    (served_later _ _ _ _ f.body at before.steady.reaches before.steady.count b.vertex.body_near c.requires.served)
    (body_left n s t at graph f values b first) in
    tells_from c.from_residual-in_err-take_empty.result _ _ _ c.from_residual-in_err-take_empty.ensures.1
    (c.in_err-take_empty.ensures.tells h ag
    (served_later _ _ _ _ f.out at after.steady.reaches after.steady.count b.vertex.out_near c.requires.served)
    b.vertex.self (out_left n s t u at graph f values b first second))

pub returns-clause-tells : goal.returns-clause-tells
returns-clause-tells g c h graph fields values ag bare =
    let n = g.V.View.count c.args.view.now in
    let s : State = stood h (g.V.View.overlay c.args.view.now) in
    let t : State = stood h (g.V.View.overlay c.take.new.view) in
    let u : State = stood h (g.V.View.overlay c.take_at.new.view) in
    let v : State = stood h (g.V.View.overlay c.take_empty.new.view) in
    let w : State = stood h (g.V.View.overlay c.take_empty-2.new.view) in
    let at = c.args.header in
    let f : Header = c.in_ok-fields.fields in
    let three = c.take_empty-2.ensures.onward.agreed h ag in
    let two = c.in_ok-take_empty.ensures.onward.agreed h three in
    let one = c.in_ok-take_at.ensures.onward.agreed h two in
    let found : f ≡ fields = c.in_ok-fields.ensures.tells h graph fields
    (c.in_ok-take.ensures.onward.agreed h one) bare.vertex in
    let b : IsBare n s at graph f values = subst (λ (x : Header). IsBare n s at graph x values) (sym found) bare in
    let before = onward_then _ _ _ _ _ _ _ _ c.in_ok-fields.ensures.onward c.in_ok-take.ensures.onward in
    let between = onward_then _ _ _ _ _ _ _ _ before c.in_ok-take_at.ensures.onward in
    let after = onward_then _ _ _ _ _ _ _ _ between c.in_ok-take_empty.ensures.onward in
    let first : t ≡ with_bytes at None s = c.in_ok-take.ensures.ok h ∙
    ap (λ (o : Overlay). with_bytes at None (stood h o)) c.in_ok-fields.ensures.overlay in
    let second : u ≡ with_bytes f.body None t = c.in_ok-take_at.ensures.tells h two
    (served_later _ _ _ _ f.body at before.steady.reaches before.steady.count b.vertex.body_near c.requires.served)
    (body_left n s t at graph f values b first) in
    let third : v ≡ with_bytes f.out None u = c.in_ok-take_empty.ensures.tells h three
    (served_later _ _ _ _ f.out at between.steady.reaches between.steady.count b.vertex.out_near c.requires.served)
    b.vertex.self (out_left n s t u at graph f values b first second) in
    tells_map c.take_empty-2.result (λ _. w ≡ with_bytes f.into None v) _
    (λ _ fourth. subst (λ (x : Header). Moves s w (objects_of at x) []) found
    (destroyed s t u v w at f first second third fourth))
    (c.take_empty-2.ensures.tells h ag
    (served_later _ _ _ _ f.into at after.steady.reaches after.steady.count b.vertex.into_near c.requires.served)
    b.vertex.self (into_left n s t u v at graph f values b first second third))
