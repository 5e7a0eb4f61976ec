use Rattle.std.proofs.Common.{◌≡◌, inl, inr, ◌-◌, ℕ, suc, List, length, [], ◌∷◌, sym, ap, subst, ◌∙◌, arith}
use Rattle.object_view.specs.Agreement.{State, stood}
use Rattle.object_view.specs.Layout.{Entry, entries, word_of, node_bytes}
use Rattle.object_btree.specs.Steps.{Lowered}
use Rattle.object_view.proofs.Layouts.{some_is, some_left, none_left, none_more}
use Rattle.object_view.proofs.Moving.{onward_then}
use Rattle.object_view.proofs.Views.{on_served, some_not_none, tells_map}
use Rattle.object_view.proofs.Views.{tells_look}
use Rattle.object_btree.proofs.Anchors.{some_bytes, some_more}
use Rattle.object_btree.proofs.removal.lower.Goals as goal

pub returns-in_err-look-clause-tells : goal.returns-in_err-look-clause-tells
returns-in_err-look-clause-tells g c h es ag r some =
    tells_look c.from_residual.result c.args.anchor _ _ _ _ c.from_residual.ensures.1 (c.in_err-look.ensures.tells h ag)
    (on_served (g.V.View.reaches c.args.view.now) _ c.args.site.node c.args.anchor r.reached c.requires.served)
    r.stands

pub returns-in_err-bytes-clause-tells : goal.returns-in_err-bytes-clause-tells
returns-in_err-bytes-clause-tells g c h es ag r some =
    let on = c.in_ok-look.ensures.onward.steady in
    tells_look c.from_residual-in_err-bytes.result c.args.root _ _ _ _ c.from_residual-in_err-bytes.ensures.1
    (c.in_err-bytes.ensures.tells h ag)
    (rw (on.reaches, on.count)
    (on_served (g.V.View.reaches c.args.view.now) _ c.args.site.node c.args.root r.root_reached c.requires.served))
    (some_not_none _ (node_bytes (word_of c.args.anchor) es) (rw (c.in_ok-look.ensures.overlay) r.bytes))

pub returns-in_err-bytes-clause-onward : goal.returns-in_err-bytes-clause-onward
returns-in_err-bytes-clause-onward g c =
    onward_then _ _ _ _ _ _ _ _ c.in_ok-look.ensures.onward c.in_err-bytes.ensures.onward

pub returns-then-height-eq0-clause-onward : goal.returns-then-height-eq0-clause-onward
returns-then-height-eq0-clause-onward g c =
    onward_then _ _ _ _ _ _ _ _ c.in_ok-look.ensures.onward c.in_ok-bytes.ensures.onward

pub returns-in_default-clause-onward : goal.returns-in_default-clause-onward
returns-in_default-clause-onward g c =
    onward_then _ _ _ _ _ _ _ _ c.in_ok-look.ensures.onward c.in_ok-bytes.ensures.onward

pub returns-in_default-entry_of-clause-onward : goal.returns-in_default-entry_of-clause-onward
returns-in_default-entry_of-clause-onward g c =
    onward_then _ _ _ _ _ _ _ _ c.in_ok-look.ensures.onward c.in_ok-bytes.ensures.onward

pub returns-then-rest-gt0-clause-onward : goal.returns-then-rest-gt0-clause-onward
returns-then-rest-gt0-clause-onward g c =
    onward_then _ _ _ _ _ _ _ _ c.in_ok-look.ensures.onward c.in_ok-bytes.ensures.onward

pub lower_to-requires-clause-stands : goal.lower_to-requires-clause-stands
lower_to-requires-clause-stands g c h ag =
    rw (c.in_ok-bytes.ensures.overlay) (c.in_ok-look.ensures.stands h (c.in_ok-bytes.ensures.onward.agreed h ag))

pub returns-in_default-entry_of-clause-tells : goal.returns-in_default-entry_of-clause-tells
returns-in_default-entry_of-clause-tells g c h es ag r some =
    let at = (c.in_ok-bytes.ensures.tells h ag).1 in
    let b : c.in_ok-bytes.bytes ≡ node_bytes (word_of c.args.anchor) es =
    some_is _ _ (sym at ∙ rw (c.in_ok-look.ensures.overlay) r.bytes) in
    let e : c.in-Some.body.now ≡ entries es = c.in-Some.ensures es
    (c.as_slice.ensures ∙ b ∙ ap (λ (o : ℕ). node_bytes o es) (sym c.requires.owner)) in
    none_left c.in-Some.body.now es r.fits e (some_bytes es c.in-Some.body.now r.some e)
    c.in_default-entry_of.ensures.tells

pub returns-then-rest-gt0-clause-tells : goal.returns-then-rest-gt0-clause-tells
returns-then-rest-gt0-clause-tells g c h es ag r some =
    let at = (c.in_ok-bytes.ensures.tells h ag).1 in
    let b : c.in_ok-bytes.bytes ≡ node_bytes (word_of c.args.anchor) es =
    some_is _ _ (sym at ∙ rw (c.in_ok-look.ensures.overlay) r.bytes) in
    let e : c.in-Some.body.now ≡ entries es = c.in-Some.ensures es
    (c.as_slice.ensures ∙ b ∙ ap (λ (o : ℕ). node_bytes o es) (sym c.requires.owner)) in
    let l = some_left c.in-Some.body.now es _ _ r.fits e (some_bytes es c.in-Some.body.now r.some e)
    c.in-Some-entry_of.ensures.tells in
    let one = some_more c.in-Some-entry_of.rest.now l.more l.spelled (omega (arith, c.if-rest-gt0.true)) in
    let len : length es ≡ suc (length l.more) = ap length l.are in
    inl (omega (arith, one, len), ap (stood h) (c.in_ok-bytes.ensures.overlay ∙ c.in_ok-look.ensures.overlay))

pub returns-clause-onward : goal.returns-clause-onward
returns-clause-onward g c =
    onward_then _ _ _ _ _ _ _ _
    (onward_then _ _ _ _ _ _ _ _ c.in_ok-look.ensures.onward c.in_ok-bytes.ensures.onward)
    c.lower_to.ensures.onward

pub returns-clause-tells : goal.returns-clause-tells
returns-clause-tells g c h es ag r some =
    let at = (c.in_ok-bytes.ensures.tells h (c.lower_to.ensures.onward.agreed h ag)).1 in
    let b : c.in_ok-bytes.bytes ≡ node_bytes (word_of c.args.anchor) es =
    some_is _ _ (sym at ∙ rw (c.in_ok-look.ensures.overlay) r.bytes) in
    let e : c.in-Some.body.now ≡ entries es = c.in-Some.ensures es
    (c.as_slice.ensures ∙ b ∙ ap (λ (o : ℕ). node_bytes o es) (sym c.requires.owner)) in
    let l = some_left c.in-Some.body.now es _ _ r.fits e (some_bytes es c.in-Some.body.now r.some e)
    c.in-Some-entry_of.ensures.tells in
    let none : l.more ≡ [] =
    none_more c.in-Some-entry_of.rest.now l.more l.spelled (omega (arith, c.if-rest-gt0.false)) in
    let one : Entry = record { key = c.in-Some-entry_of.field-0-0.now; word = c.in-Some-entry_of.word } in
    let same : stood h (g.V.View.overlay c.look-2.new.view) ≡ stood h (g.V.View.overlay c.args.view.now) =
    ap (stood h) (c.in_ok-bytes.ensures.overlay ∙ c.in_ok-look.ensures.overlay) in
    tells_map c.lower_to.result _ _ (λ x w. inr (record {
      one = one;
      are = l.are ∙ ap (λ (x : List Entry). one ∷ x) none;
      lowered = subst (λ (x : State). Lowered x (stood h (g.V.View.overlay c.lower_to.new.view)) c.args.anchor
          c.args.root c.args.owner c.in-Some-entry_of.word (c.args.height - 1)) same w;
    })) (c.lower_to.ensures.tells h ag r.other)
