use Rattle.std.proofs.Common.{◌≡◌, Some, None, sym, ap, subst, ◌∙◌}
use Rattle.a1_base.specs.Fronts.{FailsToRead}
use Rattle.a1_base.specs.declared.fronts.ReadFault.{ReadFault}
use Rattle.a1_base.specs.declared.place.Addr.{Addr}
use Rattle.object_view.proofs.Layouts.{some_is}
use Rattle.object_view.proofs.Views.{gives_look}
use Rattle.type_schema.specs.Objects.{body_bytes, body_of}
use Rattle.type_schema.specs.Schemas.{Record}
use Rattle.vertex_store.proofs.Spelled.{body_read, found_unlike}
use Rattle.vertex_store.proofs.parts.body_at.Goals as goal

pub returns-in_err-bytes-clause-tells : goal.returns-in_err-bytes-clause-tells
returns-in_err-bytes-clause-tells g c h values ag served body =
    gives_look c.from_residual.result c.args.at _ _ _ _ _ c.from_residual.ensures.1 (c.in_err-bytes.ensures.tells h ag)
    served body.bytes

pub returns-then-ne-clause-tells : goal.returns-then-ne-clause-tells
returns-then-ne-clause-tells g c h values ag served body =
    let bytes : c.as_slice.result.now ≡ body_bytes 8 c.args.owner values =
    c.as_slice.ensures ∙ some_is _ _ (sym ((c.in_ok-bytes.ensures.tells h ag).1) ∙ body.bytes) in
    let read : body_of 8 c.as_slice.result.now ≡ Some (c.args.owner, values) =
    body_read c.as_slice.result.now c.args.owner values body.owner_fits body.fit bytes in
    let found : body_of 8 c.as_slice.result.now ≡ Some (c.in-Ok.found, c.in-Ok.values) = c.in-Ok.ensures in
    found_unlike c.in-Ok.found c.args.owner c.ne.result c.ne.ensures c.if-ne.true
    (ap (λ (x : Addr × Record). x.0) (some_is _ _ (sym found ∙ read)))

pub returns-in-Ok-clause-tells : goal.returns-in-Ok-clause-tells
returns-in-Ok-clause-tells g c h values ag served body =
    let bytes : c.as_slice.result.now ≡ body_bytes 8 c.args.owner values =
    c.as_slice.ensures ∙ some_is _ _ (sym ((c.in_ok-bytes.ensures.tells h ag).1) ∙ body.bytes) in
    let read : body_of 8 c.as_slice.result.now ≡ Some (c.args.owner, values) =
    body_read c.as_slice.result.now c.args.owner values body.owner_fits body.fit bytes in
    let found : body_of 8 c.as_slice.result.now ≡ Some (c.in-Ok.found, c.in-Ok.values) = c.in-Ok.ensures in
    ap (λ (x : Addr × Record). x.1) (some_is _ _ (sym found ∙ read))

pub returns-clause-tells : goal.returns-clause-tells
returns-clause-tells g c h values ag served body =
    let bytes : c.as_slice.result.now ≡ body_bytes 8 c.args.owner values =
    c.as_slice.ensures ∙ some_is _ _ (sym ((c.in_ok-bytes.ensures.tells h ag).1) ∙ body.bytes) in
    let read : body_of 8 c.as_slice.result.now ≡ Some (c.args.owner, values) =
    body_read c.as_slice.result.now c.args.owner values body.owner_fits body.fit bytes in
    let none : body_of 8 c.as_slice.result.now ≡ None =
    subst (λ (f : ReadFault). FailsToRead f (body_of 8 c.as_slice.result.now)) c.in-Err-Malformed.field-0-is
    c.in-Err-Malformed.ensures in
    cc
