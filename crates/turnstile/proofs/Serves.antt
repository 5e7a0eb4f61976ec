-- The end of a turn brings the slot home, serves the next ticket, and keeps the rule.
use Rattle.std.proofs.Common.{sum_by, ◌≡◌, ◌≢◌, ℕ, ◌+◌, ◌%◌, ◌^◌, List, [], ◌∷◌, length, get_or, set, sym, refl, ap, ◌∙◌, subst, inl, ⊎_elim, arith}
use mathlib.Core.Option as maybe
use mathlib.Core.Option.{some, none}
use Rattle.std.specs.Prelude.{Option, Some}
use Rattle.atomic_table.specs.Table.{State, Me, gives, Allows}
use Rattle.a1_base.proofs.Sums.{sum_set}
use Rattle.turnstile.specs.declared.view.View.{View}
use Rattle.turnstile.specs.declared.view.Stage.{Stage}
use Rattle.turnstile.specs.declared.view.Stage.TheVariants.{Idle, Inside}
use Rattle.turnstile.specs.Turns.{word_of, HasTicket, tickets, view, ViewFits, Kept, Gone}
use Rattle.a1_base.proofs.Views.{each_set}
use Rattle.turnstile.proofs.Lists.{apart_set}
use Rattle.turnstile.proofs.Idles.{idle_fits}
use Rattle.turnstile.proofs.Looks.{serving_is}
use Rattle.turnstile.proofs.Draws.{next_word}
use Rattle.turnstile.proofs.Counts.{alone_inside}

module _ {T E : Type 0} (stands : T → List E → Type 0) (number : E → ℕ) (passes : ℕ) (start : E) where
  abbrev K : State (Option T) (View E) → Type 0
  K = Kept stands number passes start

  ends : (slots id n : ℕ) (v : View E) (y : T) → v.stage ≡ Inside n → stands y v.seen
      → Allows K slots id (v, (0, Some y) ∷ []) 1 (λ x. (x + 1) % 2 ^ 64) (λ x m'. Gone (v, (0, Some y) ∷ []) m')
  ends slots id n v y inside st s k deep at small =
      let w : View E = view Idle v.numbers v.seen in
      let f : View E → ℕ = λ z. tickets z.stage in
      let g : View E → ℕ = λ z. length z.numbers in
      let sum : sum_by f (set s.views id w) + f v ≡ sum_by f s.views + f w = sum_set f s.views id v w at in
      let sum' : sum_by g (set s.views id w) + g v ≡ sum_by g s.views + g w = sum_set g s.views id v w at in
      let one : f v ≡ 1 = ap tickets inside in
      let mine = k.fits id v at in
      let now : n ≡ k.served = (mine.inside n inside).0 in
      let whole : k.log ≡ v.seen = (mine.inside n inside).1 in
      let ticket : HasTicket v.stage n = subst (λ (z : Stage). HasTicket z n) (sym inside) refl in
      let out = k.out in
      let alone = alone_inside stands number passes start s k id n v at inside in (
        w,
        gives,
        tt,
        record {
          log = k.log;
          drawn = k.drawn;
          served = k.served + 1;
          words = ap (λ (z : List ℕ). set z 1 ((get_or s.words 1 0 + 1) % 2 ^ 64)) k.words
              ∙ ap (λ (z : ℕ). word_of k.drawn ∷ z ∷ word_of (length k.log) ∷ []) (ap (λ (z : ℕ). (z + 1) % 2 ^ 64) (serving_is stands number passes start s k) ∙ next_word k.served);
          out = omega arith;
          few = k.few;
          held = let h = k.held in omega arith;
          begins = k.begins;
          zeros = k.zeros;
          no_more = k.no_more;
          fits = each_set (ViewFits number passes k.log k.drawn (k.served + 1)) s.views id w
              (λ j u ne e. let o = k.fits j u e in let a = k.apart j id u v ne e at in record {
                seen = o.seen;
                heard = o.heard;
                heard_own = o.heard_own;
                own = o.own;
                zero = o.zero;
                range = o.range;
                once = o.once;
                ticket = λ m t. let p = o.ticket m t in
                    let other : m ≢ n = λ (z : m ≡ n). a.tickets n (subst (HasTicket u.stage) z t) ticket in
                    ((let q = p.0 in omega arith), p.1, p.2);
                inside = λ m is. absurd (alone j u ne e m is);
              })
              (idle_fits number passes k.log k.drawn (k.served + 1) _ _ mine.seen mine.own mine.zero mine.range mine.once);
          apart = apart_set s.views id w k.apart
              (λ j u ne e. let a = k.apart id j v u (λ (z : id ≡ j). ne (sym z)) at e in record {
                numbers = a.numbers;
                tickets = λ m p q. absurd p;
              });
          slot = ⊎_elim
              (λ t. absurd (t.3 id v n at inside))
              (λ t. inl (
                y,
                ap (λ (h : List (maybe.Option (Option T))). set h 0 (some (Some y))) t.0,
                subst (stands y) (sym whole) st,
                (λ i u m e is. each_set (λ (z : View E). (m : ℕ) → z.stage ≡ Inside m → ⊥) s.views id w alone (λ m is. cc) i u e m is),
              ))
              k.slot;
        },
        refl,
      )

  pub serves : (slots id n : ℕ) (me : Me (Option T) (View E)) (y : T) → me.0.stage ≡ Inside n → me.1 ≡ (0, Some y) ∷ [] → stands y me.0.seen
      → Allows K slots id me 1 (λ x. (x + 1) % 2 ^ 64) (λ x m'. Gone me m')
  serves slots id n me y inside hand st =
      subst (λ (c : List (ℕ × Option T)). Allows K slots id (me.0, c) 1 (λ x. (x + 1) % 2 ^ 64) (λ x m'. Gone (me.0, c) m'))
      (sym hand) (ends slots id n me.0 y inside st)
