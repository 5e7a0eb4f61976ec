-- A look at the ticket that is served keeps the rule. Where the turn has come, it takes the slot.
use Rattle.std.proofs.Common.{sum_by, ◌≡◌, ◌≢◌, ℕ, ◌+◌, ◌^◌, ◌<◌, ◌≤◌, List, [], ◌∷◌, length, get_or, set, sym, refl, ap, ◌∙◌, subst, inr, ⊎_elim, arith}
use mathlib.Core.Option as maybe
use mathlib.Core.Option.{some, none, some-injective}
use mathlib.Core.Logic.{dite}
use native.Mathlib.Decide.{ℕ_discrete}
use lib.ListN.{get_elem?}
use Rattle.a1_base.proofs.Sums.{sum_set, sum_le}
use Rattle.std.specs.Prelude.{Option, Some}
use Rattle.atomic_table.specs.Table.{State, Me, keeps, takes, stepped, carried_after, Allows}
use Rattle.atomic_table.proofs.Lists.{set_again, one_turn}
use Rattle.turnstile.specs.declared.view.View.{View}
use Rattle.turnstile.specs.declared.view.Stage.{Stage}
use Rattle.turnstile.specs.declared.view.Stage.TheVariants.{Waits, Inside}
use Rattle.turnstile.specs.Turns.{word_of, HasTicket, tickets, view, ViewFits, Kept, LookedAt}
use Rattle.a1_base.proofs.Views.{each_set}
use Rattle.turnstile.proofs.Lists.{apart_set, tickets_le, here_set}
use Rattle.turnstile.proofs.Histories.{begins_none, begins_itself}

module _ {T E : Type 0} (stands : T → List E → Type 0) (number : E → ℕ) (passes : ℕ) (start : E) where
  abbrev K : State (Option T) (View E) → Type 0
  K = Kept stands number passes start

  -- fewer than 2^32 tickets are out
  pub near : (s : State (Option T) (View E)) (k : K s) → k.drawn < k.served + 2 ^ 32
  near s k =
      let le = sum_le (λ (v : View E). tickets v.stage) (λ (v : View E). length v.numbers) s.views (λ i v e. tickets_le v (λ n t. ((k.fits i v e).ticket n t).2)) in
      let out = k.out in let held = k.held in let few = k.few in omega arith

  pub serving_is : (s : State (Option T) (View E)) (k : K s) → get_or s.words 1 0 ≡ word_of k.served
  serving_is s k = ap (λ (z : List ℕ). get_or z 1 0) k.words

  pub same_words : (s : State (Option T) (View E)) (k : K s) → set s.words 1 (get_or s.words 1 0) ≡ s.words
  same_words s k = ap (λ (z : List ℕ). set z 1 (get_or s.words 1 0)) k.words
      ∙ (ap (λ (z : ℕ). word_of k.drawn ∷ z ∷ word_of (length k.log) ∷ []) (serving_is s k) ∙ sym k.words)

  unmoved : (s : State (Option T) (View E)) (id : ℕ) (me : Me (Option T) (View E)) → K s → get_elem? s.views id ≡ some me.0 → K (stepped s 1 (get_or s.words 1 0) id me.1 me.0 keeps)
  unmoved s id me k at =
      subst (λ (z : List ℕ × List (View E)). K record { words = z.0; homes = s.homes; views = z.1 })
      (λ i. (sym (same_words s k) i, sym (set_again s.views id me.0 at) i)) k

  -- who has the ticket that is served, and waits, finds the slot at home
  nobody_else : (s : State (Option T) (View E)) (k : K s) (id d : ℕ) (v : View E) → get_elem? s.views id ≡ some v → v.stage ≡ Waits d → k.served ≡ d
      → (i n : ℕ) (u : View E) → get_elem? s.views i ≡ some u → u.stage ≡ Inside n → ⊥
  nobody_else s k id d v at waits now i n u e is =
      let same : n ≡ d = ((k.fits i u e).inside n is).0 ∙ now in
      dite (ℕ_discrete i id)
      (λ (here : i ≡ id).
      let uv : u ≡ v = some-injective u v (sym e ∙ (ap (get_elem? s.views) here ∙ at)) in
      let clash : Inside n ≡ Waits d = sym is ∙ (ap (λ (z : View E). z.stage) uv ∙ waits) in
      cc)
      (λ (other : i ≢ id).
      (k.apart i id u v other e at).tickets d
      (subst (λ (z : Stage). HasTicket z d) (sym is) same)
      (subst (λ (z : Stage). HasTicket z d) (sym waits) refl))

  pub looks : (slots id d : ℕ) (me : Me (Option T) (View E)) → me.0.stage ≡ Waits d → me.1 ≡ []
      → Allows K slots id me 1 (λ n. n) (λ n m'. LookedAt stands number d me n m')
  looks slots id d me waits empty s k deep at small = dite (ℕ_discrete (get_or s.words 1 0) (word_of d))
      (λ (hit : get_or s.words 1 0 ≡ word_of d).
      let v : View E = me.0 in
      let mine = k.fits id v at in
      let old = mine.ticket d (subst (λ (z : Stage). HasTicket z d) (sym waits) refl) in
      let close : k.drawn < k.served + 2 ^ 32 = near s k in
      let lower : k.served ≤ d = old.0 in
      let upper : d < k.served + 2 ^ 64 = (let o = old.1 in omega arith) in
      let now : k.served ≡ d = one_turn k.served d (2 ^ 64) lower upper (sym (serving_is s k) ∙ hit) in
      ⊎_elim
      (λ t.
      let y : T = t.0 in
      let w : View E = view (Inside d) v.numbers k.log in
      let f : View E → ℕ = λ z. tickets z.stage in
      let g : View E → ℕ = λ z. length z.numbers in
      let sum : sum_by f (set s.views id w) + f v ≡ sum_by f s.views + f w = sum_set f s.views id v w at in
      let sum' : sum_by g (set s.views id w) + g v ≡ sum_by g s.views + g w = sum_set g s.views id v w at in
      let one : f v ≡ 1 = ap tickets waits in
      let out = k.out in (
        w,
        takes 0 (Some y),
        ap (λ (h : List (maybe.Option (Option T))). get_elem? h 0) t.1,
        record {
          log = k.log;
          drawn = k.drawn;
          served = k.served;
          words = same_words s k ∙ k.words;
          out = omega arith;
          few = k.few;
          held = let h = k.held in omega arith;
          begins = k.begins;
          zeros = k.zeros;
          no_more = k.no_more;
          fits = each_set (ViewFits number passes k.log k.drawn k.served) s.views id w (λ j u ne e. k.fits j u e)
              record {
                seen = begins_itself k.log;
                heard = begins_none _;
                heard_own = λ x h. absurd h;
                own = λ j h. refl;
                zero = λ some. refl;
                range = mine.range;
                once = mine.once;
                ticket = λ n p. mine.ticket n (subst (λ (z : Stage). HasTicket z n) (sym waits) p);
                inside = λ n e. let same : d ≡ n = cc in (sym same ∙ sym now, refl);
              };
          apart = apart_set s.views id w k.apart
              (λ j u ne e. let a = k.apart id j v u (λ (z : id ≡ j). ne (sym z)) at e in record {
                numbers = a.numbers;
                tickets = λ n p q. a.tickets n (subst (λ (z : Stage). HasTicket z n) (sym waits) p) q;
              });
          slot = inr (ap (λ (h : List (maybe.Option (Option T))). set h 0 none) t.1, (id, w, d, here_set s.views id v w at, refl));
        },
        (
          (λ _. (y, ap (λ (c : List (ℕ × Option T)). (w, (0, Some y) ∷ c)) empty, t.2, mine.seen, mine.own)),
          (λ not. absurd (not hit)),
        ),
      ))
      (λ t. absurd (nobody_else s k id d v at waits now t.1.0 t.1.2 t.1.1 t.1.3 t.1.4))
      k.slot)
      (λ (miss : get_or s.words 1 0 ≢ word_of d). (me.0, keeps, tt, unmoved s id me k at, ((λ hit. absurd (miss hit)), λ _. refl)))

  same_ticket : (d e n : ℕ) (m m' : Me (Option T) (View E)) → d ≡ e → LookedAt stands number d m n m' → LookedAt stands number e m n m'
  same_ticket d e n m m' same h = subst (λ (z : ℕ). LookedAt stands number z m n m') same h

  pub looks_any : (slots id d : ℕ) (me : Me (Option T) (View E)) → me.0.stage ≡ Waits d → me.1 ≡ []
      → Allows K slots id me 1 (λ n. n) (λ n m'. (e : ℕ) → me.0.stage ≡ Waits e → LookedAt stands number e me n m')
  looks_any slots id d me waits empty s k deep at small =
      let r = looks slots id d me waits empty s k deep at small in
      (r.0, r.1, r.2, r.3, λ e is. same_ticket d e (get_or s.words 1 0) me (r.0, carried_after me.1 r.1) (same_d d e me.0.stage waits is) r.4) where
        same_d : (d e : ℕ) (st : Stage) → st ≡ Waits d → st ≡ Waits e → d ≡ e
        same_d d e st p q = cc
