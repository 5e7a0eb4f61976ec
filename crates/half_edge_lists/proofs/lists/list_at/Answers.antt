use Rattle.std.proofs.Common.{◌≡◌, Bool, Option, Some, None, sym, ap, ◌∙◌}
use Rattle.a1_base.specs.declared.place.Addr.{Addr}
use Rattle.object_view.proofs.Layouts.{some_is}
use Rattle.object_view.proofs.Views.{gives_look}
use Rattle.type_schema.specs.declared.objects.Header.{Header}
use Rattle.type_schema.specs.Objects.{header_of}
use Rattle.type_schema.specs.Structures.{list_at}
use Rattle.half_edge_lists.proofs.Halves.{header_read}
use Rattle.half_edge_lists.proofs.lists.list_at.Goals as goal
use Rattle.half_edge_lists.proofs.lists.list_at.Goals.{then-out, else-out}

pub returns-in_err-bytes-clause-tells : goal.returns-in_err-bytes-clause-tells
returns-in_err-bytes-clause-tells g c h graph fields ag v =
    gives_look c.from_residual.result c.args.header _ _ _ _ _ c.from_residual.ensures.1
    (c.in_err-bytes.ensures.tells h ag) c.requires.served v.bytes

pub returns-in_default-clause-tells : goal.returns-in_default-clause-tells
returns-in_default-clause-tells g c h graph fields ag v =
    let read : header_of c.as_slice.result.now ≡ Some (graph, fields) =
    header_read _ _ c.args.header graph fields c.as_slice.result.now v
    ((c.in_ok-bytes.ensures.tells h ag).1 ∙ ap Some (sym c.as_slice.ensures)) in
    let n : ◌≡◌ {A = Option (Addr × Header)} None (Some (graph, fields)) = c.in_default.ensures ∙ read in
    cc

pub returns-clause-tells : goal.returns-clause-tells
returns-clause-tells g c h graph fields ag v =
    let read : header_of c.as_slice.result.now ≡ Some (graph, fields) =
    header_read _ _ c.args.header graph fields c.as_slice.result.now v
    ((c.in_ok-bytes.ensures.tells h ag).1 ∙ ap Some (sym c.as_slice.ensures)) in
    let found : ◌≡◌ {A = Addr × Header} (c.in-Some.field-0-0, c.in-Some.fields) (graph, fields) =
    some_is _ _ (c.in-Some.ensures ∙ read) in
    elim c.if-out.branch [
      | then-out w ↦ w.result-is ∙ ap (λ (p : Addr × Header). p.1.out) found
          ∙ ap (λ (out : Bool). list_at out fields) (sym w.if-out.true)
      | else-out w ↦ w.result-is ∙ ap (λ (p : Addr × Header). p.1.into) found
          ∙ ap (λ (out : Bool). list_at out fields) (sym w.if-out.false)
    ]
