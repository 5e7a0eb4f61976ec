use Rattle.std.proofs.Common.{◌≡◌, ◌≤◌, ◌*◌, ◌+◌, ℕ, [], List, ◌∷◌, length, map, refl, ap, subst, sym, ◌∙◌, arith}
use Rattle.std.proofs.lemmas.List.{length-map}
use Rattle.a1_base.specs.declared.place.Addr.{Addr}
use Rattle.object_view.specs.Agreement.{stood, State}
use Rattle.object_view.specs.Parts.{Moves, Tells}
use Rattle.object_view.proofs.Moving.{onward_then}
use Rattle.object_view.proofs.Views.{tells_from}
use Rattle.object_btree.specs.Remains.{IsRest, Destroys}
use Rattle.object_btree.proofs.Rests.{tree_rest}
use Rattle.type_schema.specs.Objects.{half_entry}
use Rattle.type_schema.specs.Structures.{ListBecomes}
use Rattle.half_edge_lists.specs.Steps.{Formed}
use Rattle.half_edge_lists.proofs.Becoming.{turned_tells}
use Rattle.half_edge_lists.proofs.Entering.{as_before}
use Rattle.half_edge_lists.proofs.Sizes.{few_places, all_gone}
use Rattle.half_edge_lists.proofs.shrinking.turn.Goals as goal

pub returns-in_err-entries-clause-tells : goal.returns-in_err-entries-clause-tells
returns-in_err-entries-clause-tells g c h halves places ag f there apart tree few =
    tells_from c.from_residual.result _ _ _ c.from_residual.ensures.1
    (c.in_err-entries.ensures.tells h c.args.at halves places ag f.rising tree few)

pub returns-in_err-destroy_some-clause-tells : goal.returns-in_err-destroy_some-clause-tells
returns-in_err-destroy_some-clause-tells g c h halves places ag f there apart tree few =
    let nodes : ℕ = g.V.View.count c.args.view.now in
    let s : State = stood h (g.V.View.overlay c.args.view.now) in
    let anchor : Addr = c.args.tree.anchor in
    tells_from c.from_residual-in_err-destroy_some.result _ _ _ c.from_residual-in_err-destroy_some.ensures.1
    (c.in_err-destroy_some.ensures.tells h places ag
    (as_before (λ (n : ℕ) (x : State) (a : Addr). IsRest n x a places) nodes (g.V.View.count c.entries_of.new.view) s
    (stood h (g.V.View.overlay c.entries_of.new.view)) anchor anchor (sym c.in_ok-entries.ensures.onward.steady.count)
    (sym (ap (stood h) c.in_ok-entries.ensures.overlay)) refl
    (tree_rest nodes s anchor c.args.at (map half_entry halves) places tree)))

pub returns-in_err-destroy_some-clause-onward : goal.returns-in_err-destroy_some-clause-onward
returns-in_err-destroy_some-clause-onward g c =
    onward_then _ _ _ _ _ _ _ _ c.in_ok-entries.ensures.onward c.in_err-destroy_some.ensures.onward

pub returns-then-not-branch-clause-tells : goal.returns-then-not-branch-clause-tells
returns-then-not-branch-clause-tells g c h halves places ag f there apart tree few =
    let nodes : ℕ = g.V.View.count c.args.view.now in
    let m : ℕ = g.V.View.count c.entries_of.new.view in
    let s : State = stood h (g.V.View.overlay c.args.view.now) in
    let v : State = stood h (g.V.View.overlay c.entries_of.new.view) in
    let anchor : Addr = c.args.tree.anchor in
    let gone = c.in_ok-destroy_some.ensures.tells h places ag
    (as_before (λ (n : ℕ) (x : State) (a : Addr). IsRest n x a places) nodes m s v anchor anchor
    (sym c.in_ok-entries.ensures.onward.steady.count) (sym (ap (stood h) c.in_ok-entries.ensures.overlay)) refl
    (tree_rest nodes s anchor c.args.at (map half_entry halves) places tree)) in
    let size : 15 * length places ≤ length (map half_entry halves) + 30 =
    few_places nodes s anchor c.args.at (map half_entry halves) places tree in
    all_gone m v (stood h (g.V.View.overlay c.destroy_some.new.view)) anchor places c.in_ok-destroy_some.field-0
    (omega (arith, size, few, length-map halves half_entry)) gone c.if-not-branch.true

pub returns-then-not-branch-clause-onward : goal.returns-then-not-branch-clause-onward
returns-then-not-branch-clause-onward g c =
    onward_then _ _ _ _ _ _ _ _ c.in_ok-entries.ensures.onward c.in_ok-destroy_some.ensures.onward

pub returns-clause-tells : goal.returns-clause-tells
returns-clause-tells g c h halves places ag f there apart tree few =
    let nodes : ℕ = g.V.View.count c.args.view.now in
    let m : ℕ = g.V.View.count c.entries_of.new.view in
    let s : State = stood h (g.V.View.overlay c.args.view.now) in
    let v : State = stood h (g.V.View.overlay c.entries_of.new.view) in
    let u : State = stood h (g.V.View.overlay c.destroy_some.new.view) in
    let t : State = stood h (g.V.View.overlay c.put_entries.new.view) in
    let anchor : Addr = c.args.tree.anchor in
    let two = c.put_entries.ensures.onward.agreed h ag in
    let one = c.in_ok-destroy_some.ensures.onward.agreed h two in
    let gone : Destroys m v u anchor places 1000 c.in_ok-destroy_some.field-0 =
    c.in_ok-destroy_some.ensures.tells h places two
    (as_before (λ (n : ℕ) (x : State) (a : Addr). IsRest n x a places) nodes m s v anchor anchor
    (sym c.in_ok-entries.ensures.onward.steady.count) (sym (ap (stood h) c.in_ok-entries.ensures.overlay)) refl
    (tree_rest nodes s anchor c.args.at (map half_entry halves) places tree)) in
    let moves : Moves s u places [] = subst (λ (x : State). Moves x u places [])
    (ap (stood h) c.in_ok-entries.ensures.overlay)
    (subst (λ (x : List Addr). Moves v u places x) (gone.ended c.if-not-branch.false) gone.moves) in
    let count : g.V.View.count c.destroy_some.new.view ≡ nodes =
    c.in_ok-destroy_some.ensures.onward.steady.count ∙ c.in_ok-entries.ensures.onward.steady.count in
    turned_tells nodes s u t c.args.at c.args.owner halves places c.put_entries.result moves apart there
    (λ full. subst (λ (n : ℕ). Tells c.put_entries.result
    (λ _. ListBecomes n u t c.args.at c.args.owner (c.args.at ∷ []) halves)) count
    (c.put_entries.ensures.tells h halves ag (subst (λ (n : ℕ). Formed n c.args.at c.args.owner halves) (sym count) f) full
    (omega (arith, few))
    (c.as_slice.ensures ∙ c.in_ok-entries.ensures.tells h c.args.at halves places one f.rising tree few)))

pub returns-clause-onward : goal.returns-clause-onward
returns-clause-onward g c =
    onward_then _ _ _ _ _ _ _ _
    (onward_then _ _ _ _ _ _ _ _ c.in_ok-entries.ensures.onward c.in_ok-destroy_some.ensures.onward)
    c.put_entries.ensures.onward
