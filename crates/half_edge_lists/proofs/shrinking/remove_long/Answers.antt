use Rattle.std.proofs.Common.{◌≡◌, ◌%◌, ◌-◌, ℕ, true, None, ◌∷◌, Ok, Err, length, map, subst, sym, arith}
use Rattle.a1_base.specs.Lists.{IsAmong}
use Rattle.a1_base.specs.declared.place.Addr.{Addr}
use Rattle.object_view.specs.Agreement.{stood, State}
use Rattle.object_view.specs.Parts.{Tells}
use Rattle.object_view.specs.Trees.{IsTree}
use Rattle.object_view.proofs.Moving.{onward_then}
use Rattle.object_view.proofs.Views.{tells_from}
use Rattle.type_schema.specs.Objects.{IsAddr, half_entry}
use Rattle.type_schema.specs.Structures.{ListBecomes}
use Rattle.half_edge_lists.specs.Steps.{Formed}
use Rattle.half_edge_lists.proofs.Entering.{near_served}
use Rattle.half_edge_lists.proofs.Removing.{long_stays, long_taken}
use Rattle.half_edge_lists.proofs.shrinking.remove_long.Goals as goal

pub returns-then-not-serves-clause-tells : goal.returns-then-not-serves-clause-tells
returns-then-not-serves-clause-tells g c h kind far halves places ag f long ea ec key =
    let yes : g.V.View.reaches c.args.view.now (c.args.anchor.region % g.V.View.count c.args.view.now) ≡ true =
    near_served (g.V.View.reaches c.args.view.now) (g.V.View.count c.args.view.now) c.args.anchor long.anchor c.args.at
    (sym ea) long.near c.requires.served in
    let other = c.if-not-serves.true in
    let told = c.serves.ensures in
    cc

pub returns-in_err-found-clause-tells : goal.returns-in_err-found-clause-tells
returns-in_err-found-clause-tells g c h kind far halves places ag f long ea ec key =
    tells_from c.from_residual.result _ _ _ c.from_residual.ensures.1
    (c.in_err-found.ensures.tells h c.args.at (map half_entry halves) long.below ag
    (subst (λ (x : Addr). IsTree (g.V.View.count c.args.view.now) (stood h (g.V.View.overlay c.args.view.now)) x c.args.at
    (map half_entry halves) long.below) ea long.tree))

pub returns-then-is_none-clause-tells : goal.returns-then-is_none-clause-tells
returns-then-is_none-clause-tells g c h kind far halves places ag f long ea ec key =
    let nodes : ℕ = g.V.View.count c.args.view.now in
    let s : State = stood h (g.V.View.overlay c.args.view.now) in
    let u : State = stood h (g.V.View.overlay c.remove.new.view) in
    long_stays nodes s u c.args.at c.args.owner kind far halves places c.args.anchor c.args.key.now c.in_ok-found.found long
    ea f key (c.in_ok-found.ensures.tells h c.args.at (map half_entry halves) long.below ag
    (subst (λ (x : Addr). IsTree nodes s x c.args.at (map half_entry halves) long.below) ea long.tree))
    c.if-is_none.ensures

pub returns-in_err-settle-clause-tells : goal.returns-in_err-settle-clause-tells
returns-in_err-settle-clause-tells g c h kind far halves places ag f long ea ec key =
    let nodes : ℕ = g.V.View.count c.args.view.now in
    let m : ℕ = g.V.View.count c.remove.new.view in
    let s : State = stood h (g.V.View.overlay c.args.view.now) in
    let u : State = stood h (g.V.View.overlay c.remove.new.view) in
    let t : State = stood h (g.V.View.overlay c.settle.new.view) in
    let at : Addr = c.args.at in
    let anchor : Addr = c.args.anchor in
    let count : m ≡ nodes = c.in_ok-found.ensures.onward.steady.count in
    let tree : IsTree nodes s anchor at (map half_entry halves) long.below =
    subst (λ (x : Addr). IsTree nodes s x at (map half_entry halves) long.below) ea long.tree in
    let many = long.many in
    let left : c.saturating_sub-left.result ≡ c.args.count - 1 = c.saturating_sub-left.ensures in
    tells_from c.from_residual-in_err-settle.result _ _ _ c.from_residual-in_err-settle.ensures.1
    (long_taken nodes s u t at c.args.owner kind far halves places anchor c.args.key.now c.in_ok-found.found
    c.saturating_sub-left.result (Err c.in_err-settle.field-0.0) long ea f key (c.in_ok-found.ensures.tells h at (map half_entry halves) long.below
    (c.in_err-settle.ensures.onward.agreed h ag) tree) c.if-is_none.ensures (omega (arith, left, many, ec))
    (λ hs qs. subst (λ (n : ℕ). Formed n at c.args.owner hs → (u at ≡ None → ⊥) → (IsAmong at qs → ⊥)
    → IsTree n u anchor at (map half_entry hs) qs → IsAddr anchor → anchor.region % n ≡ at.region % n
    → c.saturating_sub-left.result ≡ length hs → Tells {A = Unit {0}} (Err c.in_err-settle.field-0.0) (λ _. ListBecomes n u t at c.args.owner (at ∷ qs) hs)) count
    (c.in_err-settle.ensures.tells h hs qs ag)))

pub returns-in_err-settle-clause-onward : goal.returns-in_err-settle-clause-onward
returns-in_err-settle-clause-onward g c =
    onward_then _ _ _ _ _ _ _ _ c.in_ok-found.ensures.onward c.in_err-settle.ensures.onward

pub returns-clause-tells : goal.returns-clause-tells
returns-clause-tells g c h kind far halves places ag f long ea ec key =
    let nodes : ℕ = g.V.View.count c.args.view.now in
    let m : ℕ = g.V.View.count c.remove.new.view in
    let s : State = stood h (g.V.View.overlay c.args.view.now) in
    let u : State = stood h (g.V.View.overlay c.remove.new.view) in
    let t : State = stood h (g.V.View.overlay c.settle.new.view) in
    let at : Addr = c.args.at in
    let anchor : Addr = c.args.anchor in
    let count : m ≡ nodes = c.in_ok-found.ensures.onward.steady.count in
    let tree : IsTree nodes s anchor at (map half_entry halves) long.below =
    subst (λ (x : Addr). IsTree nodes s x at (map half_entry halves) long.below) ea long.tree in
    let many = long.many in
    let left : c.saturating_sub-left.result ≡ c.args.count - 1 = c.saturating_sub-left.ensures in
    long_taken nodes s u t at c.args.owner kind far halves places anchor c.args.key.now c.in_ok-found.found
    c.saturating_sub-left.result (Ok c.in_ok-settle.field-0) long ea f key (c.in_ok-found.ensures.tells h at (map half_entry halves) long.below
    (c.in_ok-settle.ensures.onward.agreed h ag) tree) c.if-is_none.ensures (omega (arith, left, many, ec))
    (λ hs qs. subst (λ (n : ℕ). Formed n at c.args.owner hs → (u at ≡ None → ⊥) → (IsAmong at qs → ⊥)
    → IsTree n u anchor at (map half_entry hs) qs → IsAddr anchor → anchor.region % n ≡ at.region % n
    → c.saturating_sub-left.result ≡ length hs → Tells {A = Unit {0}} (Ok c.in_ok-settle.field-0) (λ _. ListBecomes n u t at c.args.owner (at ∷ qs) hs)) count
    (c.in_ok-settle.ensures.tells h hs qs ag))

pub returns-clause-onward : goal.returns-clause-onward
returns-clause-onward g c =
    onward_then _ _ _ _ _ _ _ _ c.in_ok-found.ensures.onward c.in_ok-settle.ensures.onward
