use Rattle.std.proofs.Common.{◌≡◌, Option, Some, None, sym, ap, ◌∙◌}
use Rattle.a1_base.specs.declared.place.Addr.{Addr}
use Rattle.object_view.proofs.Layouts.{some_is}
use Rattle.object_view.proofs.Views.{gives_look}
use Rattle.type_schema.specs.declared.objects.Header.{Header}
use Rattle.type_schema.specs.Objects.{header_bytes, header_of}
use Rattle.vertex_store.proofs.Spelled.{header_read}
use Rattle.vertex_store.proofs.parts.fields_at.Goals as goal

pub returns-in_err-bytes-clause-tells : goal.returns-in_err-bytes-clause-tells
returns-in_err-bytes-clause-tells g c h graph fields ag vertex =
    gives_look c.from_residual.result c.args.at _ _ _ _ _ c.from_residual.ensures.1 (c.in_err-bytes.ensures.tells h ag)
    c.requires.served vertex.bytes

pub returns-in_default-clause-tells : goal.returns-in_default-clause-tells
returns-in_default-clause-tells g c h graph fields ag vertex =
    let bytes : c.as_slice.result.now ≡ header_bytes graph fields =
    c.as_slice.ensures ∙ some_is _ _ (sym ((c.in_ok-bytes.ensures.tells h ag).1) ∙ vertex.bytes) in
    let read : header_of c.as_slice.result.now ≡ Some (graph, fields) =
    header_read c.as_slice.result.now graph fields vertex.graph_fits vertex.fit bytes in
    let none : ◌≡◌ {A = Option (Addr × Header)} None (header_of c.as_slice.result.now) = c.in_default.ensures in
    cc

pub returns-clause-tells : goal.returns-clause-tells
returns-clause-tells g c h graph fields ag vertex =
    let bytes : c.as_slice.result.now ≡ header_bytes graph fields =
    c.as_slice.ensures ∙ some_is _ _ (sym ((c.in_ok-bytes.ensures.tells h ag).1) ∙ vertex.bytes) in
    let read : header_of c.as_slice.result.now ≡ Some (graph, fields) =
    header_read c.as_slice.result.now graph fields vertex.graph_fits vertex.fit bytes in
    let found : ◌≡◌ {A = Option (Addr × Header)} (Some (c.in-Some.field-0-0, c.in-Some.fields))
    (header_of c.as_slice.result.now) = c.in-Some.ensures in
    ap (λ (x : Addr × Header). x.1) (some_is _ _ (found ∙ read))
