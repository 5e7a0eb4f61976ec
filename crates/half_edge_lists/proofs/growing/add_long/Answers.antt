use Rattle.std.proofs.Common.{◌≡◌, ◌<◌, ◌^◌, ◌+◌, ◌%◌, true, ℕ, List, None, Ok, Err, sym, ap, subst, ◌∙◌}
use Rattle.std.specs.Prelude.{map}
use Rattle.a1_base.specs.declared.place.Addr.{Addr}
use Rattle.object_view.specs.Agreement.{stood, State}
use Rattle.object_view.specs.Keys.{lookup}
use Rattle.object_view.specs.Trees.{IsTree}
use Rattle.object_view.proofs.Moving.{onward_then}
use Rattle.object_btree.specs.Changes.{InsertTells}
use Rattle.object_btree.proofs.Freeing.{served_later}
use Rattle.type_schema.specs.Objects.{half_entry}
use Rattle.type_schema.specs.Structures.{ListBecomes, with_half}
use Rattle.half_edge_lists.proofs.Adding.{half_some, half_none, add_on, add_from, gives_tells, not_some, insert_as, add_tall, long_added}
use Rattle.half_edge_lists.proofs.Entering.{near_served}
use Rattle.half_edge_lists.proofs.growing.add_long.Goals as goal

pub returns-then-not-serves-clause-tells : goal.returns-then-not-serves-clause-tells
returns-then-not-serves-clause-tells g c heap halves places ag f long ea ec =
    let yes : g.V.View.reaches c.args.view.now (c.args.anchor.region % g.V.View.count c.args.view.now) ≡ true =
    near_served (g.V.View.reaches c.args.view.now) (g.V.View.count c.args.view.now) c.args.anchor long.anchor c.args.at (sym ea) long.near c.requires.served in
    let no = c.if-not-serves.true in
    let told = c.serves.ensures in
    cc

pub returns-in_err-get-clause-tells : goal.returns-in_err-get-clause-tells
returns-in_err-get-clause-tells g c heap halves places ag f long ea ec =
    let nodes : ℕ = g.V.View.count c.args.view.now in
    let s : State = stood heap (g.V.View.overlay c.args.view.now) in
    add_from nodes s (stood heap (g.V.View.overlay c.get.new.view)) c.args.at c.args.owner halves places c.args.h
    c.from_residual.result _ _ c.from_residual.ensures.1
    (gives_tells _ _ (λ (x : ℕ). ℕ) (c.in_err-get.ensures.tells heap c.args.at (map half_entry halves) long.below ag
    (subst (λ (x : Addr). IsTree nodes s x c.args.at (map half_entry halves) long.below) ea long.tree)))

pub returns-then-is_some-clause-tells : goal.returns-then-is_some-clause-tells
returns-then-is_some-clause-tells g c heap halves places ag f long ea ec =
    let nodes : ℕ = g.V.View.count c.args.view.now in
    let s : State = stood heap (g.V.View.overlay c.args.view.now) in
    let found : c.in_ok-get.field-0 ≡ lookup c.args.key.now (map half_entry halves) =
    c.in_ok-get.ensures.tells heap c.args.at (map half_entry halves) long.below ag
    (subst (λ (x : Addr). IsTree nodes s x c.args.at (map half_entry halves) long.below) ea long.tree) in (
      half_some c.args.h.kind c.args.h.far halves c.in_ok-get.field-0
          (subst (λ (k : List ℕ). c.in_ok-get.field-0 ≡ lookup k (map half_entry halves)) c.requires.key found)
          (sym c.if-is_some.ensures),
      ap (stood heap) c.in_ok-get.ensures.overlay,
    )

pub returns-in_err-insert-clause-tells : goal.returns-in_err-insert-clause-tells
returns-in_err-insert-clause-tells g c heap halves places ag f long ea ec =
    let nodes : ℕ = g.V.View.count c.args.view.now in
    let s : State = stood heap (g.V.View.overlay c.args.view.now) in
    let v : State = stood heap (g.V.View.overlay c.get.new.view) in
    let u : State = stood heap (g.V.View.overlay c.insert.new.view) in
    let tree : IsTree nodes s c.args.anchor c.args.at (map half_entry halves) long.below =
    subst (λ (x : Addr). IsTree nodes s x c.args.at (map half_entry halves) long.below) ea long.tree in
    let i : InsertTells nodes s u c.args.anchor c.args.at (map half_entry halves) long.below c.args.key.now
    c.body_word.result (Err c.in_err-insert.field-0.0) =
    insert_as (g.V.View.count c.get.new.view) nodes s v u c.args.anchor c.args.at (map half_entry halves) long.below
    c.args.key.now c.body_word.result (Err c.in_err-insert.field-0.0) c.in_ok-get.ensures.onward.steady.count
    (ap (stood heap) c.in_ok-get.ensures.overlay)
    (c.in_err-insert.ensures.tells heap c.args.at (map half_entry halves) long.below ag) tree in
    add_on nodes s u c.args.at c.args.owner halves places c.args.h c.from_residual-in_err-insert.result
    c.in_err-insert.field-0.0 c.from_residual-in_err-insert.ensures.1
    (add_tall nodes s u u c.args.at c.args.owner halves places c.args.h c.args.anchor c.args.key.now c.body_word.result
    c.in_err-insert.field-0.0 long ea c.requires.key i)

pub returns-in_err-insert-clause-onward : goal.returns-in_err-insert-clause-onward
returns-in_err-insert-clause-onward g c =
    onward_then _ _ _ _ _ _ _ _ c.in_ok-get.ensures.onward c.in_err-insert.ensures.onward

pub returns-in_err-bytes-clause-onward : goal.returns-in_err-bytes-clause-onward
returns-in_err-bytes-clause-onward g c =
    onward_then _ _ _ _ _ _ _ _ c.in_ok-get.ensures.onward c.in_ok-insert.ensures.onward

pub returns-in_err-rewrite-clause-tells : goal.returns-in_err-rewrite-clause-tells
returns-in_err-rewrite-clause-tells g c heap halves places ag f long ea ec =
    let nodes : ℕ = g.V.View.count c.args.view.now in
    let s : State = stood heap (g.V.View.overlay c.args.view.now) in
    let v : State = stood heap (g.V.View.overlay c.get.new.view) in
    let u : State = stood heap (g.V.View.overlay c.insert.new.view) in
    let t : State = stood heap (g.V.View.overlay c.rewrite.new.view) in
    let two = c.in_err-rewrite.ensures.onward.agreed heap ag in
    let one = c.in_ok-insert.ensures.onward.agreed heap two in
    let tree : IsTree nodes s c.args.anchor c.args.at (map half_entry halves) long.below =
    subst (λ (x : Addr). IsTree nodes s x c.args.at (map half_entry halves) long.below) ea long.tree in
    let fresh : lookup c.args.key.now (map half_entry halves) ≡ None =
    sym (c.in_ok-get.ensures.tells heap c.args.at (map half_entry halves) long.below one tree)
    ∙ not_some c.in_ok-get.field-0 (sym c.is_some.ensures ∙ c.if-is_some.false) in
    let i : InsertTells nodes s u c.args.anchor c.args.at (map half_entry halves) long.below c.args.key.now
    c.body_word.result (Ok c.in_ok-insert.field-0) =
    insert_as (g.V.View.count c.get.new.view) nodes s v u c.args.anchor c.args.at (map half_entry halves) long.below
    c.args.key.now c.body_word.result (Ok c.in_ok-insert.field-0) c.in_ok-get.ensures.onward.steady.count
    (ap (stood heap) c.in_ok-get.ensures.overlay)
    (c.in_ok-insert.ensures.tells heap c.args.at (map half_entry halves) long.below two) tree in
    add_from nodes s t c.args.at c.args.owner halves places c.args.h c.from_residual-in_err-rewrite.result
    c.in_err-rewrite.field-0.0 (λ (_ : Unit {0}). ListBecomes nodes s t c.args.at c.args.owner places (with_half c.args.h halves))
    c.from_residual-in_err-rewrite.ensures.1
    (long_added nodes s u t c.args.at c.args.owner halves places c.args.h c.args.anchor c.args.key.now
    c.body_word.result c.in-Some.count c.as_slice.result.now c.in_ok-insert.field-0 (Err c.in_err-rewrite.field-0.0) long ea f
    c.body_word.ensures.fits c.requires.key c.body_word.ensures.word fresh i (c.in-Some.ensures.1 ∙ ap (λ (n : ℕ). n + 1) ec)
    (subst (λ (n : ℕ). n < 2 ^ 64) (sym c.in-Some.ensures.1) c.in-Some.ensures.0)
    (c.as_slice.ensures ∙ c.in_ok-bytes.ensures)
    (c.in_err-rewrite.ensures.tells heap ag (served_later _ _ _ _ c.args.at
    (c.in_ok-insert.ensures.onward.steady.reaches ∙ c.in_ok-get.ensures.onward.steady.reaches)
    (c.in_ok-insert.ensures.onward.steady.count ∙ c.in_ok-get.ensures.onward.steady.count) c.requires.served)))

pub returns-in_err-rewrite-clause-onward : goal.returns-in_err-rewrite-clause-onward
returns-in_err-rewrite-clause-onward g c =
    onward_then _ _ _ _ _ _ _ _
    (onward_then _ _ _ _ _ _ _ _ c.in_ok-get.ensures.onward c.in_ok-insert.ensures.onward)
    c.in_err-rewrite.ensures.onward

pub returns-clause-tells : goal.returns-clause-tells
returns-clause-tells g c heap halves places ag f long ea ec =
    let nodes : ℕ = g.V.View.count c.args.view.now in
    let s : State = stood heap (g.V.View.overlay c.args.view.now) in
    let v : State = stood heap (g.V.View.overlay c.get.new.view) in
    let u : State = stood heap (g.V.View.overlay c.insert.new.view) in
    let t : State = stood heap (g.V.View.overlay c.rewrite.new.view) in
    let two = c.in_ok-rewrite.ensures.onward.agreed heap ag in
    let one = c.in_ok-insert.ensures.onward.agreed heap two in
    let tree : IsTree nodes s c.args.anchor c.args.at (map half_entry halves) long.below =
    subst (λ (x : Addr). IsTree nodes s x c.args.at (map half_entry halves) long.below) ea long.tree in
    let fresh : lookup c.args.key.now (map half_entry halves) ≡ None =
    sym (c.in_ok-get.ensures.tells heap c.args.at (map half_entry halves) long.below one tree)
    ∙ not_some c.in_ok-get.field-0 (sym c.is_some.ensures ∙ c.if-is_some.false) in
    let i : InsertTells nodes s u c.args.anchor c.args.at (map half_entry halves) long.below c.args.key.now
    c.body_word.result (Ok c.in_ok-insert.field-0) =
    insert_as (g.V.View.count c.get.new.view) nodes s v u c.args.anchor c.args.at (map half_entry halves) long.below
    c.args.key.now c.body_word.result (Ok c.in_ok-insert.field-0) c.in_ok-get.ensures.onward.steady.count
    (ap (stood heap) c.in_ok-get.ensures.overlay)
    (c.in_ok-insert.ensures.tells heap c.args.at (map half_entry halves) long.below two) tree in (
      half_none c.args.h.kind c.args.h.far halves
          (subst (λ (k : List ℕ). lookup k (map half_entry halves) ≡ None) c.requires.key fresh),
      long_added nodes s u t c.args.at c.args.owner halves places c.args.h c.args.anchor c.args.key.now
          c.body_word.result c.in-Some.count c.as_slice.result.now c.in_ok-insert.field-0 (Ok c.in_ok-rewrite.field-0) long ea f
          c.body_word.ensures.fits c.requires.key c.body_word.ensures.word fresh i (c.in-Some.ensures.1 ∙ ap (λ (n : ℕ). n + 1) ec)
          (subst (λ (n : ℕ). n < 2 ^ 64) (sym c.in-Some.ensures.1) c.in-Some.ensures.0)
          (c.as_slice.ensures ∙ c.in_ok-bytes.ensures)
          (c.in_ok-rewrite.ensures.tells heap ag (served_later _ _ _ _ c.args.at
          (c.in_ok-insert.ensures.onward.steady.reaches ∙ c.in_ok-get.ensures.onward.steady.reaches)
          (c.in_ok-insert.ensures.onward.steady.count ∙ c.in_ok-get.ensures.onward.steady.count) c.requires.served)),
    )

pub returns-clause-onward : goal.returns-clause-onward
returns-clause-onward g c =
    onward_then _ _ _ _ _ _ _ _
    (onward_then _ _ _ _ _ _ _ _ c.in_ok-get.ensures.onward c.in_ok-insert.ensures.onward)
    c.in_ok-rewrite.ensures.onward
