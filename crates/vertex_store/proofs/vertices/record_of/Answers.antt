use Rattle.std.proofs.Common.{◌≡◌, sym, subst}
use Rattle.object_view.specs.Agreement.{Overlay, stood}
use Rattle.object_view.proofs.Moving.{onward_then}
use Rattle.type_schema.specs.declared.objects.Header.{Header}
use Rattle.type_schema.specs.Structures.{IsVertex, IsBody}
use Rattle.vertex_store.proofs.Handing.{gives_from}
use Rattle.vertex_store.proofs.Making.{served_later}
use Rattle.vertex_store.proofs.vertices.record_of.Goals as goal

pub returns-in_err-fields-clause-tells : goal.returns-in_err-fields-clause-tells
returns-in_err-fields-clause-tells g c h graph fields values ag vertex body =
    gives_from c.from_residual.result _ _ fields c.from_residual.ensures.1
    (c.in_err-fields.ensures.tells h graph fields ag vertex)

pub returns-clause-tells : goal.returns-clause-tells
returns-clause-tells g c h graph fields values ag vertex body =
    let n = g.V.View.count c.args.view.now in
    let s = stood h (g.V.View.overlay c.args.view.now) in
    let found : c.in_ok-fields.fields ≡ fields =
    c.in_ok-fields.ensures.tells h graph fields (c.body_at.ensures.onward.agreed h ag) vertex in
    let v : IsVertex n s c.args.header graph c.in_ok-fields.fields =
    subst (λ (f : Header). IsVertex n s c.args.header graph f) (sym found) vertex in
    let b : IsBody s 8 c.in_ok-fields.fields.body c.args.header values =
    subst (λ (f : Header). IsBody s 8 f.body c.args.header values) (sym found) body in
    c.body_at.ensures.tells h values ag
    (served_later (g.V.View.reaches c.args.view.now) (g.V.View.reaches c.fields_at.new.view) n
    (g.V.View.count c.fields_at.new.view) c.in_ok-fields.fields.body c.args.header
    c.in_ok-fields.ensures.onward.steady.reaches c.in_ok-fields.ensures.onward.steady.count v.body_near
    c.requires.served)
    (subst (λ (o : Overlay). IsBody (stood h o) 8 c.in_ok-fields.fields.body c.args.header values)
    (sym c.in_ok-fields.ensures.overlay) b)

pub returns-clause-onward : goal.returns-clause-onward
returns-clause-onward g c = onward_then _ _ _ _ _ _ _ _ c.in_ok-fields.ensures.onward c.body_at.ensures.onward
