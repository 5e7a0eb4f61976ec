use Rattle.std.proofs.Common.{◌≡◌, ℕ, Some, refl, sym, ap, subst, ◌∙◌}
use Rattle.object_view.specs.Agreement.{State, stood}
use Rattle.object_view.proofs.Moving.{onward_then}
use Rattle.object_view.proofs.Views.{gives_look}
use Rattle.type_schema.specs.Structures.{IsList}
use Rattle.half_edge_lists.specs.declared.lists.Form.{Form}
use Rattle.half_edge_lists.specs.declared.lists.Form.TheVariants as form
use Rattle.half_edge_lists.specs.Forms.{FormTells}
use Rattle.half_edge_lists.proofs.Halves.{list_there, halves_fit, list_later}
use Rattle.half_edge_lists.proofs.finding.word_at.Goals as goal

pub returns-in_err-bytes-clause-tells : goal.returns-in_err-bytes-clause-tells
returns-in_err-bytes-clause-tells g c h halves places ag l =
    gives_look c.from_residual.result c.args.at _ _ _ _ _ c.from_residual.ensures.1
    (c.in_err-bytes.ensures.tells h ag) (ap (g.V.View.reaches c.args.view.now) l.near ∙ c.requires.served)
    ((list_there _ _ c.args.at c.args.owner halves places l).1)

pub returns-in-None-clause-tells : goal.returns-in-None-clause-tells
returns-in-None-clause-tells g c h halves places ag l =
    c.in-None.ensures (g.V.View.count c.args.view.now) (stood h (g.V.View.overlay c.args.view.now)) c.args.at halves places
    ((c.in_ok-bytes.ensures.tells h ag).1 ∙ ap Some (sym c.as_slice.ensures)) l

pub returns-in-Some-Short-clause-tells : goal.returns-in-Some-Short-clause-tells
returns-in-Some-Short-clause-tells g c h halves places ag l =
    let n : ℕ = g.V.View.count c.args.view.now in
    let s : State = stood h (g.V.View.overlay c.args.view.now) in
    let short : FormTells n s c.args.at c.args.owner halves places (Some (form.Short c.in-Some-Short.body)) =
    subst (λ (f : Form). FormTells n s c.args.at c.args.owner halves places (Some f)) c.in-Some-Short.field-0-is
    (c.in-Some-Short.ensures n s c.args.at halves places
    ((c.in_ok-bytes.ensures.tells h ag).1 ∙ ap Some (sym c.as_slice.ensures)) l) in
    c.word_in.ensures _ (halves_fit halves l.fit) short.1

pub returns-clause-tells : goal.returns-clause-tells
returns-clause-tells g c h halves places ag l =
    let n : ℕ = g.V.View.count c.look.new.view in
    let s : State = stood h (g.V.View.overlay c.look.new.view) in
    let same : s ≡ stood h (g.V.View.overlay c.args.view.now) = ap (stood h) c.in_ok-bytes.ensures.overlay in
    let later : IsList n s c.args.at c.args.owner halves places =
    list_later _ _ _ s c.args.at c.args.at c.args.owner halves places c.in_ok-bytes.ensures.onward.steady.count same refl
    l in
    let there : s c.args.at ≡ Some c.as_slice.result.now =
    ap (λ (t : State). t c.args.at) same
    ∙ (c.in_ok-bytes.ensures.tells h (c.word_below.ensures.onward.agreed h ag)).1 ∙ ap Some (sym c.as_slice.ensures) in
    let long : FormTells n s c.args.at c.args.owner halves places
    (Some (form.Long c.in-Some-Long.field-0-0 c.in-Some-Long.anchor)) =
    subst (λ (f : Form). FormTells n s c.args.at c.args.owner halves places (Some f)) c.in-Some-Long.field-0-is
    (c.in-Some-Long.ensures n s c.args.at halves places there later) in
    c.word_below.ensures.tells h c.args.owner halves places ag long.0 long.1

pub returns-clause-onward : goal.returns-clause-onward
returns-clause-onward g c = onward_then _ _ _ _ _ _ _ _ c.in_ok-bytes.ensures.onward c.word_below.ensures.onward
