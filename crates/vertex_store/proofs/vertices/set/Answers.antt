use Rattle.std.proofs.Common.{◌≡◌, ℕ, List, Some, sym, ap, subst, ◌∙◌}
use Rattle.object_view.specs.Agreement.{Overlay, is_made, stood}
use Rattle.object_view.specs.Calls.{written_at}
use Rattle.object_view.proofs.Moving.{onward_then}
use Rattle.object_view.proofs.Views.{some_not_none, stored_result, tells_look}
use Rattle.object_view.proofs.Writing.{write_stood}
use Rattle.type_schema.specs.declared.objects.Header.{Header}
use Rattle.type_schema.specs.Objects.{body_bytes}
use Rattle.type_schema.specs.Structures.{IsVertex, IsBody}
use Rattle.vertex_store.proofs.Changing.{was_set}
use Rattle.vertex_store.proofs.Handing.{on_ok, tells_given}
use Rattle.vertex_store.proofs.Making.{served_later}
use Rattle.vertex_store.proofs.vertices.set.Goals as goal

pub returns-in_err-fields-clause-tells : goal.returns-in_err-fields-clause-tells
returns-in_err-fields-clause-tells g c h graph fields old ag vertex body =
    tells_given c.from_residual.result _ _ fields c.from_residual.ensures.1
    (c.in_err-fields.ensures.tells h graph fields ag vertex)

pub returns-in_err-look-clause-tells : goal.returns-in_err-look-clause-tells
returns-in_err-look-clause-tells g c h graph fields old ag vertex body =
    let n = g.V.View.count c.args.view.now in
    let s = stood h (g.V.View.overlay c.args.view.now) in
    let found : c.in_ok-fields.fields ≡ fields =
    c.in_ok-fields.ensures.tells h graph fields (c.in_err-look.ensures.onward.agreed h ag) vertex in
    let v : IsVertex n s c.args.header graph c.in_ok-fields.fields =
    subst (λ (f : Header). IsVertex n s c.args.header graph f) (sym found) vertex in
    let b : IsBody s 8 c.in_ok-fields.fields.body c.args.header old =
    subst (λ (f : Header). IsBody s 8 f.body c.args.header old) (sym found) body in
    tells_look c.from_residual-in_err-look.result c.in_ok-fields.fields.body _ _ _ _
    c.from_residual-in_err-look.ensures.1 (c.in_err-look.ensures.tells h ag)
    (served_later (g.V.View.reaches c.args.view.now) (g.V.View.reaches c.fields_at.new.view) n
    (g.V.View.count c.fields_at.new.view) c.in_ok-fields.fields.body c.args.header
    c.in_ok-fields.ensures.onward.steady.reaches c.in_ok-fields.ensures.onward.steady.count v.body_near
    c.requires.served)
    (some_not_none _ (body_bytes 8 c.args.header old)
    (ap (λ (o : Overlay). stood h o c.in_ok-fields.fields.body) c.in_ok-fields.ensures.overlay ∙ b.bytes))

pub returns-in_err-look-clause-onward : goal.returns-in_err-look-clause-onward
returns-in_err-look-clause-onward g c =
    onward_then _ _ _ _ _ _ _ _ c.in_ok-fields.ensures.onward c.in_err-look.ensures.onward

pub returns-in_err-bytes-clause-onward : goal.returns-in_err-bytes-clause-onward
returns-in_err-bytes-clause-onward g c =
    onward_then _ _ _ _ _ _ _ _ c.in_ok-fields.ensures.onward c.in_ok-look.ensures.onward

pub returns-clause-onward : goal.returns-clause-onward
returns-clause-onward g c =
    onward_then _ _ _ _ _ _ _ _
    (onward_then _ _ _ _ _ _ _ _ c.in_ok-fields.ensures.onward c.in_ok-look.ensures.onward)
    c.rewrite.ensures.onward

pub returns-clause-written : goal.returns-clause-written
returns-clause-written g c h graph fields ag vertex =
    let o : Overlay = g.V.View.overlay c.args.view.now in
    let at = c.in_ok-fields.fields.body in
    let found : c.in_ok-fields.fields ≡ fields =
    c.in_ok-fields.ensures.tells h graph fields
    (c.in_ok-look.ensures.onward.agreed h (c.rewrite.ensures.onward.agreed h ag)) vertex in
    let same : g.V.View.overlay c.look.new.view ≡ o = c.in_ok-look.ensures.overlay ∙ c.in_ok-fields.ensures.overlay in
    let bytes : c.as_slice.result.now ≡ body_bytes 8 c.args.header c.args.values.now =
    c.as_slice.ensures ∙ c.in_ok-bytes.ensures in
    on_ok c.rewrite.result _ _ (λ w.
    w ∙ ap (λ (p : Overlay). written_at at (is_made (p at)) (Some c.as_slice.result.now) p) same ∙
    ap (λ (b : List ℕ). written_at at (is_made (o at)) (Some b) o) bytes ∙
    ap (λ (f : Header). written_at f.body (is_made (o f.body))
    (Some (body_bytes 8 c.args.header c.args.values.now)) o) found)
    c.rewrite.ensures.written

pub returns-clause-tells : goal.returns-clause-tells
returns-clause-tells g c h graph fields old ag vertex body =
    stored_result c.rewrite.result _ _ c.rewrite.ensures.fault
    (returns-clause-written g c h graph fields ag vertex)
    (λ w. was_set _ _ _ c.args.header graph fields old c.args.values.now vertex body c.requires.values
    (write_stood h _ _ fields.body _ _ w))
