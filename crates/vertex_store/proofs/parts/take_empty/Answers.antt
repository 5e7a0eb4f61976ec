use Rattle.std.proofs.Common.{◌≡◌, ℕ, List, [], length, Some, None, sym, ap, ◌∙◌, arith}
use Rattle.a1_base.specs.declared.place.Addr.{Addr}
use Rattle.object_view.specs.Agreement.{Overlay, stood}
use Rattle.object_view.specs.Parts.{with_bytes}
use Rattle.object_view.proofs.Layouts.{some_is}
use Rattle.object_view.proofs.Moving.{onward_then}
use Rattle.object_view.proofs.Views.{stored_result, tells_look, some_not_none}
use Rattle.type_schema.specs.Objects.{short_bytes, list_front}
use Rattle.vertex_store.proofs.Spelled.{list_read, found_unlike}
use Rattle.vertex_store.proofs.parts.take_empty.Goals as goal
use Rattle.vertex_store.proofs.parts.take_empty.Goals.{then-ne-via-then-ne, then-ne-via-else-ne+then-form-ne0, then-ne-via-else-ne+else-form-ne0+then-rest-ne0}

pub returns-in_err-bytes-clause-tells : goal.returns-in_err-bytes-clause-tells
returns-in_err-bytes-clause-tells g c h ag served owned here =
    tells_look c.from_residual.result c.args.at _ _ _ _ c.from_residual.ensures.1 (c.in_err-bytes.ensures.tells h ag)
    served (some_not_none _ _ here)

pub returns-in_default-clause-tells : goal.returns-in_default-clause-tells
returns-in_default-clause-tells g c h ag served owned here =
    let bytes : c.as_slice.result.now ≡ short_bytes c.args.owner [] =
    c.as_slice.ensures ∙ some_is _ _ (sym ((c.in_ok-bytes.ensures.tells h ag).1) ∙ here) in
    let read : list_front c.as_slice.result.now ≡ Some ((c.args.owner, 0), []) =
    list_read c.as_slice.result.now c.args.owner owned bytes in
    let none : list_front c.as_slice.result.now ≡ None = c.in_default.ensures in
    cc

pub returns-then-ne-clause-tells : goal.returns-then-ne-clause-tells
returns-then-ne-clause-tells g c h ag served owned here =
    let bytes : c.as_slice.result.now ≡ short_bytes c.args.owner [] =
    c.as_slice.ensures ∙ some_is _ _ (sym ((c.in_ok-bytes.ensures.tells h ag).1) ∙ here) in
    let read : list_front c.as_slice.result.now ≡ Some ((c.args.owner, 0), []) =
    list_read c.as_slice.result.now c.args.owner owned bytes in
    let found : list_front c.as_slice.result.now ≡ Some ((c.in-Some.found, c.in-Some.form), c.in-Some.rest.now) =
    c.in-Some.ensures in
    let same : ◌≡◌ {A = (Addr × ℕ) × List ℕ} ((c.in-Some.found, c.in-Some.form), c.in-Some.rest.now)
    ((c.args.owner, 0), []) = some_is _ _ (sym found ∙ read) in
    let form : c.in-Some.form ≡ 0 = ap (λ (x : (Addr × ℕ) × List ℕ). x.0.1) same in
    let rest : length c.in-Some.rest.now ≡ 0 = ap (λ (x : (Addr × ℕ) × List ℕ). length x.1) same in
    elim c.then-ne.branch [
      | then-ne-via-then-ne w ↦ found_unlike c.in-Some.found c.args.owner c.ne.result c.ne.ensures w.if-ne.true
          (ap (λ (x : (Addr × ℕ) × List ℕ). x.0.0) same)
      | then-ne-via-else-ne+then-form-ne0 w ↦ omega arith
      | then-ne-via-else-ne+else-form-ne0+then-rest-ne0 w ↦ omega arith
    ]

pub returns-clause-tells : goal.returns-clause-tells
returns-clause-tells g c h ag served owned here =
    stored_result c.take.result _ _ c.take.ensures.fault c.take.ensures.ok
    (λ p. p h ∙ ap (λ (o : Overlay). with_bytes c.args.at None (stood h o)) c.in_ok-bytes.ensures.overlay)

pub returns-clause-onward : goal.returns-clause-onward
returns-clause-onward g c = onward_then _ _ _ _ _ _ _ _ c.in_ok-bytes.ensures.onward c.take.ensures.onward
