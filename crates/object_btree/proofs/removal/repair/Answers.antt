use Rattle.std.proofs.Common.{◌≡◌, ◌≤◌, ◌++◌, List, length, ℕ, [], ◌∷◌, sym, ap, subst, ◌∙◌, arith}
use Rattle.object_view.specs.Agreement.{stood}
use Rattle.object_view.specs.Layout.{Entry, IsEntry, entries}
use Rattle.object_view.specs.Trees.{is_on}
use Rattle.object_view.proofs.Layouts.{none_left, some_left, Left}
use Rattle.object_btree.proofs.Paths.{all_left, all_right}
use Rattle.object_btree.proofs.Repairs.{JoinTells, join_as}
use Rattle.object_btree.proofs.removal.repair.Goals as goal

cons_head : (a b : Entry) (xs ys : List Entry) → a ∷ xs ≡ b ∷ ys → a ≡ b
cons_head a b xs ys h = cc

cons_rest : (a b : Entry) (xs ys : List Entry) → a ∷ xs ≡ b ∷ ys → xs ≡ ys
cons_rest a b xs ys h = cc

pub returns-in_default-entry_of-clause-right : goal.returns-in_default-entry_of-clause-right
returns-in_default-entry_of-clause-right g c h low e f high xs ys ag fl fh ef eb few p =
    none_left _ (f ∷ high) fh eb c.if-back-gt0.true c.in_default-entry_of.ensures.tells

pub returns-then-back-gt0-clause-right : goal.returns-then-back-gt0-clause-right
returns-then-back-gt0-clause-right g c h low e f high xs ys ag fl fh ef eb few p =
    let l : Left (f ∷ high) (record { key = c.in-Some-entry_of.field-0-0.now; word = c.in-Some-entry_of.next })
    c.in-Some-entry_of.rest.now =
    some_left _ (f ∷ high) (record { key = c.in-Some-entry_of.field-0-0.now; word = c.in-Some-entry_of.next }) _ fh eb
    c.if-back-gt0.true c.in-Some-entry_of.ensures.tells in
    let fi : f ≡ record { key = c.in-Some-entry_of.field-0-0.now; word = c.in-Some-entry_of.next } =
    cons_head _ _ high l.more l.are in
    let hi : high ≡ l.more = cons_rest _ _ high l.more l.are in
    let last = c.in-Some.ensures low e fl ef in
    let fe : IsEntry e = (all_right IsEntry low (e ∷ []) fl).0 in
    let w : JoinTells (is_on (g.V.View.count c.args.view.now) c.args.site.node)
    (stood h (g.V.View.overlay c.args.view.now)) (stood h (g.V.View.overlay c.join.new.view)) c.args.site.owner
    c.args.at low high xs ys c.join.result c.in-Some.key.now c.in-Some.word c.in-Some-entry_of.next =
    λ q. c.join.ensures.tells h low high xs ys ag (all_left IsEntry low (e ∷ []) fl) fh.1 last.0
    (l.spelled ∙ ap entries (sym hi)) (subst (λ (k : List ℕ). length k ≤ 1100) (sym last.1) fe.key) few q in
    join_as (is_on (g.V.View.count c.args.view.now) c.args.site.node) (stood h (g.V.View.overlay c.args.view.now))
    (stood h (g.V.View.overlay c.join.new.view)) c.args.site.owner c.args.at low high xs ys c.join.result
    c.in-Some.key.now e.key c.in-Some.word e.word c.in-Some-entry_of.next f.word last.1 last.2
    (ap (λ (x : Entry). x.word) (sym fi)) w p

pub returns-clause-left : goal.returns-clause-left
returns-clause-left g c h low e f xs ys ag fl fh ef eb few p =
    let first = c.in-Some.ensures (low ++ e ∷ []) f fl ef in
    let last = c.in-Some-last_of.ensures low e fh first.0 in
    let fe : IsEntry e = (all_right IsEntry low (e ∷ []) fh).0 in
    let w : JoinTells (is_on (g.V.View.count c.args.view.now) c.args.site.node)
    (stood h (g.V.View.overlay c.args.view.now)) (stood h (g.V.View.overlay c.join-2.new.view)) c.args.site.owner
    c.args.at low [] xs ys c.join-2.result c.in-Some-last_of.key.now c.in-Some-last_of.before c.in-Some.word =
    λ q. c.join-2.ensures.tells h low [] xs ys ag (all_left IsEntry low (e ∷ []) fh) tt last.0 eb
    (subst (λ (k : List ℕ). length k ≤ 1100) (sym last.1) fe.key) (omega (arith, few)) q in
    join_as (is_on (g.V.View.count c.args.view.now) c.args.site.node) (stood h (g.V.View.overlay c.args.view.now))
    (stood h (g.V.View.overlay c.join-2.new.view)) c.args.site.owner c.args.at low [] xs ys c.join-2.result
    c.in-Some-last_of.key.now e.key c.in-Some-last_of.before e.word c.in-Some.word f.word last.1 last.2 first.2 w p
