use Rattle.std.proofs.Common.{◌≡◌, inl, inr, ℕ, Bool, List, Option, Some, refl, sym, ap, subst, ◌∙◌}
use Rattle.std.specs.Prelude.{option_map}
use Rattle.a1_base.specs.declared.place.Addr.{Addr}
use Rattle.object_view.specs.Agreement.{Seen, State, stood}
use Rattle.object_view.specs.Parts.{ReadsOnly}
use Rattle.object_view.proofs.Moving.{onward_then}
use Rattle.object_view.proofs.Reading.{reads_weaker, reads_then}
use Rattle.object_view.proofs.Views.{look_err, tells_from}
use Rattle.object_btree.specs.Levels.{RangeReads}
use Rattle.type_schema.specs.declared.objects.Half.{Half}
use Rattle.type_schema.specs.Structures.{IsList, IsLong}
use Rattle.half_edge_lists.specs.Changes.{WalkReads, least_key, last_key}
use Rattle.half_edge_lists.specs.declared.lists.Form.{Form}
use Rattle.half_edge_lists.specs.declared.lists.Form.TheVariants as form
use Rattle.half_edge_lists.specs.Forms.{FormTells}
use Rattle.half_edge_lists.proofs.Halves.{list_there, list_later}
use Rattle.half_edge_lists.proofs.Walks.{reads_later}
use Rattle.half_edge_lists.proofs.walking.walk_at.Goals as goal

look_reads : (n : ℕ) (s : State) (owner at : Addr) (halves : List Half) (places : List Addr) (from : Option Half)
    (limit : ℕ) (old new : List Seen) → ReadsOnly (λ b. b ≡ at) old new
    → ReadsOnly (WalkReads n s owner at halves places from limit) old new
look_reads n s owner at halves places from limit old new r =
    reads_weaker (λ b. b ≡ at) (WalkReads n s owner at halves places from limit) old new (λ a e. inr (inl e)) r

tree_reads : (n : ℕ) (s : State) (owner at : Addr) (halves : List Half) (places : List Addr) (from : Option Half)
    (limit : ℕ) (old new : List Seen) (long : IsLong n s at owner halves places)
    → ReadsOnly (RangeReads long.anchor long.tree.height long.tree.root (least_key from) last_key limit) old new
    → ReadsOnly (WalkReads n s owner at halves places from limit) old new
tree_reads n s owner at halves places from limit old new long r =
    reads_weaker (RangeReads long.anchor long.tree.height long.tree.root (least_key from) last_key limit)
    (WalkReads n s owner at halves places from limit) old new (λ a e. inr (inr (long, e))) r

pub returns-in_err-bytes-clause-tells : goal.returns-in_err-bytes-clause-tells
returns-in_err-bytes-clause-tells g c h halves places ag l =
    tells_from c.from_residual.result _ _ _ c.from_residual.ensures.1
    (look_err {A = Bool} c.args.at c.in_err-bytes.field-0.0 _ _ _ (λ x. Bool) (c.in_err-bytes.ensures.tells h ag)
    (ap (g.V.View.reaches c.args.view.now) l.near ∙ c.requires.served)
    ((list_there _ _ c.args.at c.args.owner halves places l).1))

pub returns-in_err-bytes-clause-reads : goal.returns-in_err-bytes-clause-reads
returns-in_err-bytes-clause-reads g c h halves places ag l =
    look_reads _ _ c.args.owner c.args.at halves places _ c.args.limit _ _ c.in_err-bytes.ensures.reads

pub returns-in-None-clause-tells : goal.returns-in-None-clause-tells
returns-in-None-clause-tells g c h halves places ag l =
    c.in-None.ensures (g.V.View.count c.args.view.now) (stood h (g.V.View.overlay c.args.view.now)) c.args.at halves places
    ((c.in_ok-bytes.ensures.tells h ag).1 ∙ ap Some (sym c.as_slice.ensures)) l

pub returns-in-None-clause-reads : goal.returns-in-None-clause-reads
returns-in-None-clause-reads g c h halves places ag l =
    look_reads _ _ c.args.owner c.args.at halves places _ c.args.limit _ _ c.in_ok-bytes.ensures.reads

pub returns-in-Some-Short-clause-tells : goal.returns-in-Some-Short-clause-tells
returns-in-Some-Short-clause-tells g c h halves places ag l =
    let n : ℕ = g.V.View.count c.args.view.now in
    let s : State = stood h (g.V.View.overlay c.args.view.now) in
    let short : FormTells n s c.args.at c.args.owner halves places (Some (form.Short c.in-Some-Short.body)) =
    subst (λ (f : Form). FormTells n s c.args.at c.args.owner halves places (Some f)) c.in-Some-Short.field-0-is
    (c.in-Some-Short.ensures n s c.args.at halves places
    ((c.in_ok-bytes.ensures.tells h ag).1 ∙ ap Some (sym c.as_slice.ensures)) l) in
    c.walk_in.ensures halves l.fit short.1

pub returns-in-Some-Short-clause-reads : goal.returns-in-Some-Short-clause-reads
returns-in-Some-Short-clause-reads g c h halves places ag l =
    look_reads _ _ c.args.owner c.args.at halves places _ c.args.limit _ _ c.in_ok-bytes.ensures.reads

pub returns-clause-tells : goal.returns-clause-tells
returns-clause-tells g c h halves places ag l =
    let n : ℕ = g.V.View.count c.look.new.view in
    let s : State = stood h (g.V.View.overlay c.look.new.view) in
    let same : s ≡ stood h (g.V.View.overlay c.args.view.now) = ap (stood h) c.in_ok-bytes.ensures.overlay in
    let later : IsList n s c.args.at c.args.owner halves places =
    list_later _ _ _ s c.args.at c.args.at c.args.owner halves places c.in_ok-bytes.ensures.onward.steady.count same refl
    l in
    let there : s c.args.at ≡ Some c.as_slice.result.now =
    ap (λ (t : State). t c.args.at) same
    ∙ (c.in_ok-bytes.ensures.tells h (c.walk_below.ensures.onward.agreed h ag)).1 ∙ ap Some (sym c.as_slice.ensures) in
    let long : FormTells n s c.args.at c.args.owner halves places
    (Some (form.Long c.in-Some-Long.field-0-0 c.in-Some-Long.anchor)) =
    subst (λ (f : Form). FormTells n s c.args.at c.args.owner halves places (Some f)) c.in-Some-Long.field-0-is
    (c.in-Some-Long.ensures n s c.args.at halves places there later) in
    c.walk_below.ensures.tells h c.args.owner halves places ag l.fit l.rising long.0 long.1

pub returns-clause-reads : goal.returns-clause-reads
returns-clause-reads g c h halves places ag l =
    let n : ℕ = g.V.View.count c.look.new.view in
    let s : State = stood h (g.V.View.overlay c.look.new.view) in
    let from : Option Half = option_map (λ f. f.now) c.args.from in
    let same : s ≡ stood h (g.V.View.overlay c.args.view.now) = ap (stood h) c.in_ok-bytes.ensures.overlay in
    let later : IsList n s c.args.at c.args.owner halves places =
    list_later _ _ _ s c.args.at c.args.at c.args.owner halves places c.in_ok-bytes.ensures.onward.steady.count same refl
    l in
    let there : s c.args.at ≡ Some c.as_slice.result.now =
    ap (λ (t : State). t c.args.at) same
    ∙ (c.in_ok-bytes.ensures.tells h (c.walk_below.ensures.onward.agreed h ag)).1 ∙ ap Some (sym c.as_slice.ensures) in
    let long : FormTells n s c.args.at c.args.owner halves places
    (Some (form.Long c.in-Some-Long.field-0-0 c.in-Some-Long.anchor)) =
    subst (λ (f : Form). FormTells n s c.args.at c.args.owner halves places (Some f)) c.in-Some-Long.field-0-is
    (c.in-Some-Long.ensures n s c.args.at halves places there later) in
    reads_then _ (g.V.View.trace c.args.view.now) (g.V.View.trace c.look.new.view) _
    (look_reads _ _ c.args.owner c.args.at halves places from c.args.limit _ _ c.in_ok-bytes.ensures.reads)
    (reads_later _ n _ s c.args.owner c.args.at c.args.at halves places from c.args.limit _ _
    c.in_ok-bytes.ensures.onward.steady.count same refl
    (tree_reads n s c.args.owner c.args.at halves places from c.args.limit _ _ long.0
    (c.walk_below.ensures.reads h c.args.owner halves places ag long.0 long.1)))

pub returns-clause-onward : goal.returns-clause-onward
returns-clause-onward g c = onward_then _ _ _ _ _ _ _ _ c.in_ok-bytes.ensures.onward c.walk_below.ensures.onward
