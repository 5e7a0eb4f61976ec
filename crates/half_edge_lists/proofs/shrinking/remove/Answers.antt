use Rattle.std.proofs.Common.{◌≡◌, ℕ, Some, Err, sym, ap, ◌∙◌}
use Rattle.std.specs.Prelude.{option_map}
use Rattle.a1_base.specs.declared.place.Addr.{Addr}
use Rattle.object_view.specs.Agreement.{stood, State, Overlay}
use Rattle.object_view.specs.Parts.{Tells}
use Rattle.object_view.proofs.Moving.{onward_then}
use Rattle.object_view.proofs.Views.{tells_look, tells_from, some_not_none}
use Rattle.object_btree.proofs.Freeing.{served_later}
use Rattle.type_schema.specs.Structures.{IsList, list_at, half_of}
use Rattle.half_edge_lists.specs.Steps.{ListTaken}
use Rattle.half_edge_lists.proofs.Adding.{gives_tells}
use Rattle.half_edge_lists.proofs.Halves.{list_there}
use Rattle.half_edge_lists.proofs.Entering.{near_served, as_before}
use Rattle.half_edge_lists.proofs.shrinking.remove.Goals as goal

pub returns-in_err-at-clause-tells : goal.returns-in_err-at-clause-tells
returns-in_err-at-clause-tells g c h graph fields halves places ag v list =
    tells_from c.from_residual.result _ _ (λ (x : ℕ). ℕ) c.from_residual.ensures.1
    (gives_tells _ _ (λ (x : ℕ). ℕ) (c.in_err-at.ensures.tells h graph fields ag v))

pub returns-in_err-bytes-clause-tells : goal.returns-in_err-bytes-clause-tells
returns-in_err-bytes-clause-tells g c h graph fields halves places ag v list =
    let nodes : ℕ = g.V.View.count c.args.view.now in
    let s : State = stood h (g.V.View.overlay c.args.view.now) in
    let at : c.in_ok-at.at ≡ list_at c.args.out fields =
    c.in_ok-at.ensures.tells h graph fields (c.in_err-bytes.ensures.onward.agreed h ag) v in
    let there = list_there nodes s (list_at c.args.out fields) c.args.header halves places list in
    tells_look c.from_residual-in_err-bytes.result c.in_ok-at.at _ _ _ _ c.from_residual-in_err-bytes.ensures.1
    (c.in_err-bytes.ensures.tells h ag)
    (served_later _ _ _ _ c.in_ok-at.at c.in_ok-at.ensures.onward.steady.reaches c.in_ok-at.ensures.onward.steady.count
    (near_served (g.V.View.reaches c.args.view.now) nodes c.in_ok-at.at (list_at c.args.out fields) c.args.header at
    list.near c.requires.served))
    (some_not_none _ there.0 (ap (λ (o : Overlay). stood h o c.in_ok-at.at) c.in_ok-at.ensures.overlay ∙ ap s at
    ∙ there.1))

pub returns-in_err-bytes-clause-onward : goal.returns-in_err-bytes-clause-onward
returns-in_err-bytes-clause-onward g c =
    onward_then _ _ _ _ _ _ _ _ c.in_ok-at.ensures.onward c.in_err-bytes.ensures.onward

pub returns-in_err-key-clause-onward : goal.returns-in_err-key-clause-onward
returns-in_err-key-clause-onward g c =
    onward_then _ _ _ _ _ _ _ _ c.in_ok-at.ensures.onward c.in_ok-bytes.ensures.onward

pub returns-in_err-word-clause-tells : goal.returns-in_err-word-clause-tells
returns-in_err-word-clause-tells g c h graph fields halves places ag v list =
    let nodes : ℕ = g.V.View.count c.args.view.now in
    let s : State = stood h (g.V.View.overlay c.args.view.now) in
    let t : State = stood h (g.V.View.overlay c.remove_in.new.view) in
    let two = c.in_err-word.ensures.onward.agreed h ag in
    let at : c.in_ok-at.at ≡ list_at c.args.out fields =
    c.in_ok-at.ensures.tells h graph fields (c.in_ok-bytes.ensures.onward.agreed h two) v in
    let here : s (list_at c.args.out fields) ≡ Some c.as_slice.result.now =
    ap s (sym at) ∙ sym (ap (λ (o : Overlay). stood h o c.in_ok-at.at) c.in_ok-at.ensures.overlay)
    ∙ (c.in_ok-bytes.ensures.tells h two).1 ∙ ap Some (sym c.as_slice.ensures) in
    tells_from c.from_residual-in_err-word.result _ _ _ c.from_residual-in_err-word.ensures.1
    (as_before (λ (n : ℕ) (x : State) (a : Addr). x a ≡ Some c.as_slice.result.now
    → IsList n x a c.args.header halves places
    → Tells (Err c.in_err-word.field-0.0) (ListTaken n x t a c.args.header c.args.kind c.args.far halves places))
    (g.V.View.count c.look.new.view) nodes (stood h (g.V.View.overlay c.look.new.view)) s c.in_ok-at.at
    (list_at c.args.out fields) (c.in_ok-bytes.ensures.onward.steady.count ∙ c.in_ok-at.ensures.onward.steady.count)
    (ap (stood h) (c.in_ok-bytes.ensures.overlay ∙ c.in_ok-at.ensures.overlay)) at
    (λ there l. c.in_err-word.ensures.tells h c.args.kind c.args.far halves places ag there l
    (c.as_slice-2.ensures ∙ c.in_ok-key.ensures)) here list)

pub returns-in_err-word-clause-onward : goal.returns-in_err-word-clause-onward
returns-in_err-word-clause-onward g c =
    onward_then _ _ _ _ _ _ _ _
    (onward_then _ _ _ _ _ _ _ _ c.in_ok-at.ensures.onward c.in_ok-bytes.ensures.onward) c.in_err-word.ensures.onward

pub returns-clause-tells : goal.returns-clause-tells
returns-clause-tells g c h graph fields halves places ag v list =
    let nodes : ℕ = g.V.View.count c.args.view.now in
    let s : State = stood h (g.V.View.overlay c.args.view.now) in
    let t : State = stood h (g.V.View.overlay c.remove_in.new.view) in
    let two = c.in_ok-word.ensures.onward.agreed h ag in
    let at : c.in_ok-at.at ≡ list_at c.args.out fields =
    c.in_ok-at.ensures.tells h graph fields (c.in_ok-bytes.ensures.onward.agreed h two) v in
    let here : s (list_at c.args.out fields) ≡ Some c.as_slice.result.now =
    ap s (sym at) ∙ sym (ap (λ (o : Overlay). stood h o c.in_ok-at.at) c.in_ok-at.ensures.overlay)
    ∙ (c.in_ok-bytes.ensures.tells h two).1 ∙ ap Some (sym c.as_slice.ensures) in
    let taken : ListTaken nodes s t (list_at c.args.out fields) c.args.header c.args.kind c.args.far halves places
    c.in_ok-word.word =
    as_before (λ (n : ℕ) (x : State) (a : Addr). x a ≡ Some c.as_slice.result.now
    → IsList n x a c.args.header halves places
    → ListTaken n x t a c.args.header c.args.kind c.args.far halves places c.in_ok-word.word)
    (g.V.View.count c.look.new.view) nodes (stood h (g.V.View.overlay c.look.new.view)) s c.in_ok-at.at
    (list_at c.args.out fields) (c.in_ok-bytes.ensures.onward.steady.count ∙ c.in_ok-at.ensures.onward.steady.count)
    (ap (stood h) (c.in_ok-bytes.ensures.overlay ∙ c.in_ok-at.ensures.overlay)) at
    (λ there l. c.in_ok-word.ensures.tells h c.args.kind c.args.far halves places ag there l
    (c.as_slice-2.ensures ∙ c.in_ok-key.ensures)) here list in
    (c.half_with.ensures ∙ ap (option_map (half_of c.args.kind c.args.far)) taken.old_is, taken.becomes)

pub returns-clause-onward : goal.returns-clause-onward
returns-clause-onward g c =
    onward_then _ _ _ _ _ _ _ _
    (onward_then _ _ _ _ _ _ _ _ c.in_ok-at.ensures.onward c.in_ok-bytes.ensures.onward) c.in_ok-word.ensures.onward
