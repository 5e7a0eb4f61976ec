use Rattle.std.proofs.Common.{◌≡◌, ℕ, Some, sym, ap, ◌∙◌}
use Rattle.a1_base.specs.declared.place.Addr.{Addr}
use Rattle.object_view.specs.Agreement.{stood, State, Overlay}
use Rattle.object_view.proofs.Moving.{onward_then}
use Rattle.object_view.proofs.Views.{look_err}
use Rattle.object_btree.proofs.Freeing.{served_later}
use Rattle.type_schema.specs.Structures.{IsList, list_at}
use Rattle.half_edge_lists.specs.Changes.{AddTells}
use Rattle.half_edge_lists.proofs.Adding.{add_from, gives_tells}
use Rattle.half_edge_lists.proofs.Halves.{list_there}
use Rattle.half_edge_lists.proofs.Entering.{near_served, as_before}
use Rattle.half_edge_lists.proofs.growing.add.Goals as goal

pub returns-in_err-at-clause-tells : goal.returns-in_err-at-clause-tells
returns-in_err-at-clause-tells g c heap graph fields halves places ag v list =
    add_from (g.V.View.count c.args.view.now) (stood heap (g.V.View.overlay c.args.view.now))
    (stood heap (g.V.View.overlay c.list_at.new.view)) (list_at c.args.out fields) c.args.header halves places c.args.h.now
    c.from_residual.result _ (λ (x : ℕ). ℕ) c.from_residual.ensures.1
    (gives_tells _ _ (λ (x : ℕ). ℕ) (c.in_err-at.ensures.tells heap graph fields ag v))

pub returns-in_err-bytes-clause-tells : goal.returns-in_err-bytes-clause-tells
returns-in_err-bytes-clause-tells g c heap graph fields halves places ag v list =
    let nodes : ℕ = g.V.View.count c.args.view.now in
    let s : State = stood heap (g.V.View.overlay c.args.view.now) in
    let at : c.in_ok-at.at ≡ list_at c.args.out fields =
    c.in_ok-at.ensures.tells heap graph fields (c.in_err-bytes.ensures.onward.agreed heap ag) v in
    let there = list_there nodes s (list_at c.args.out fields) c.args.header halves places list in
    add_from nodes s (stood heap (g.V.View.overlay c.look.new.view)) (list_at c.args.out fields) c.args.header halves places
    c.args.h.now c.from_residual-in_err-bytes.result _ (λ (x : ℕ). ℕ) c.from_residual-in_err-bytes.ensures.1
    (look_err c.in_ok-at.at _ _ _ there.0 (λ (x : ℕ). ℕ) (c.in_err-bytes.ensures.tells heap ag)
    (served_later _ _ _ _ c.in_ok-at.at c.in_ok-at.ensures.onward.steady.reaches c.in_ok-at.ensures.onward.steady.count
    (near_served (g.V.View.reaches c.args.view.now) nodes c.in_ok-at.at (list_at c.args.out fields) c.args.header at list.near c.requires.served))
    (ap (λ (o : Overlay). stood heap o c.in_ok-at.at) c.in_ok-at.ensures.overlay ∙ ap s at ∙ there.1))

pub returns-in_err-bytes-clause-onward : goal.returns-in_err-bytes-clause-onward
returns-in_err-bytes-clause-onward g c =
    onward_then _ _ _ _ _ _ _ _ c.in_ok-at.ensures.onward c.in_err-bytes.ensures.onward

pub returns-in_err-key-clause-onward : goal.returns-in_err-key-clause-onward
returns-in_err-key-clause-onward g c =
    onward_then _ _ _ _ _ _ _ _ c.in_ok-at.ensures.onward c.in_ok-bytes.ensures.onward

pub returns-clause-tells : goal.returns-clause-tells
returns-clause-tells g c heap graph fields halves places ag v list =
    let nodes : ℕ = g.V.View.count c.args.view.now in
    let s : State = stood heap (g.V.View.overlay c.args.view.now) in
    let t : State = stood heap (g.V.View.overlay c.add_in.new.view) in
    let two = c.add_in.ensures.onward.agreed heap ag in
    let at : c.in_ok-at.at ≡ list_at c.args.out fields =
    c.in_ok-at.ensures.tells heap graph fields (c.in_ok-bytes.ensures.onward.agreed heap two) v in
    let here : s (list_at c.args.out fields) ≡ Some c.as_slice.result.now =
    ap s (sym at) ∙ sym (ap (λ (o : Overlay). stood heap o c.in_ok-at.at) c.in_ok-at.ensures.overlay)
    ∙ (c.in_ok-bytes.ensures.tells heap two).1 ∙ ap Some (sym c.as_slice.ensures) in
    as_before (λ (n : ℕ) (x : State) (a : Addr). x a ≡ Some c.as_slice.result.now
    → IsList n x a c.args.header halves places
    → AddTells n x t a c.args.header halves places c.args.h.now c.add_in.result)
    (g.V.View.count c.look.new.view) nodes (stood heap (g.V.View.overlay c.look.new.view)) s c.in_ok-at.at
    (list_at c.args.out fields) (c.in_ok-bytes.ensures.onward.steady.count ∙ c.in_ok-at.ensures.onward.steady.count)
    (ap (stood heap) (c.in_ok-bytes.ensures.overlay ∙ c.in_ok-at.ensures.overlay)) at
    (c.add_in.ensures.tells heap halves places ag) here list

pub returns-clause-onward : goal.returns-clause-onward
returns-clause-onward g c =
    onward_then _ _ _ _ _ _ _ _
    (onward_then _ _ _ _ _ _ _ _ c.in_ok-at.ensures.onward c.in_ok-bytes.ensures.onward) c.add_in.ensures.onward
