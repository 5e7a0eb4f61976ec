use Rattle.std.proofs.Common.{ℕ, List, Ok, Err, subst, ◌∙◌}
use Rattle.std.specs.Prelude.{map}
use Rattle.a1_base.specs.declared.place.Addr.{Addr}
use Rattle.object_view.specs.Agreement.{stood, State}
use Rattle.object_view.specs.Layout.{word_of}
use Rattle.object_btree.specs.Changes.{InsertTells}
use Rattle.type_schema.specs.Objects.{IndexRow, index_key, index_entry}
use Rattle.secondary_index.specs.Changes.{with_row}
use Rattle.secondary_index.proofs.Rows.{pairs_with, fit_with, rows_stand, enter_err}
use Rattle.secondary_index.proofs.index.enter.Goals as goal

pub returns-in_err-insert-clause-tells : goal.returns-in_err-insert-clause-tells
returns-in_err-insert-clause-tells g c h owner rows places ag index =
    let s : State = stood h (g.V.View.overlay c.args.view.now) in
    let t : State = stood h (g.V.View.overlay c.insert.new.view) in
    let nodes : ℕ = g.V.View.count c.args.view.now in
    let anchor : Addr = c.args.tree.now.anchor in
    let row : IndexRow = record { value = c.args.value.now; key = c.args.key.now; header = c.args.header } in
    enter_err nodes s t anchor owner rows places row c.word_in.result _ _ c.from_residual-in_err-insert.ensures.1
    (subst (λ (k : List ℕ). InsertTells nodes s t anchor owner (map index_entry rows) places k c.word_in.result
    (Err c.in_err-insert.field-0.0)) (c.as_slice.ensures ∙ c.in_ok-entry.ensures.exact)
    (c.in_err-insert.ensures.tells h owner (map index_entry rows) places ag index.tree))

pub returns-clause-tells : goal.returns-clause-tells
returns-clause-tells g c h owner rows places ag index =
    let s : State = stood h (g.V.View.overlay c.args.view.now) in
    let t : State = stood h (g.V.View.overlay c.insert.new.view) in
    let nodes : ℕ = g.V.View.count c.args.view.now in
    let anchor : Addr = c.args.tree.now.anchor in
    let row : IndexRow = record { value = c.args.value.now; key = c.args.key.now; header = c.args.header } in
    let made : InsertTells nodes s t anchor owner (map index_entry rows) places
    (index_key c.args.value.now c.args.key.now) (word_of c.args.header) (Ok c.in_ok-insert.field-0) =
    subst (λ (w : ℕ). InsertTells nodes s t anchor owner (map index_entry rows) places
    (index_key c.args.value.now c.args.key.now) w (Ok c.in_ok-insert.field-0)) c.word_in.ensures.word
    (subst (λ (k : List ℕ). InsertTells nodes s t anchor owner (map index_entry rows) places k c.word_in.result
    (Ok c.in_ok-insert.field-0)) (c.as_slice.ensures ∙ c.in_ok-entry.ensures.exact)
    (c.in_ok-insert.ensures.tells h owner (map index_entry rows) places ag index.tree)) in
    rows_stand nodes s t anchor owner places (with_row row rows) _
    (fit_with row rows (record { value = c.requires.value; key = c.requires.key; header = c.word_in.ensures.fits })
    index.fit) (pairs_with row rows) made.1
