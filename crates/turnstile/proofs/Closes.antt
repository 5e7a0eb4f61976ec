-- What the end shows to the pass that has all numbers.
use Rattle.std.proofs.Common.{◌≡◌, ◌≢◌, ℕ, zero, suc, ◌<◌, ◌≤◌, List, [], ◌∷◌, ◌++◌, length, sym, refl, ap, ◌∙◌, subst, ⊎_elim, arith}
use mathlib.Core.Option as maybe
use mathlib.Core.Option.{some, some-injective}
use mathlib.Core.Logic.{dite}
use native.Mathlib.Decide.{ℕ_discrete, dec_le}
use lib.ListN.{get_elem?}
use Rattle.std.specs.Prelude.{Option, Some}
use Rattle.atomic_table.specs.Table.{State, Final, Seen}
use Rattle.turnstile.specs.declared.view.View.{View}
use Rattle.turnstile.specs.declared.view.Stage.{Stage}
use Rattle.turnstile.specs.declared.view.Stage.TheVariants.{Idle, Inside}
use Rattle.turnstile.specs.Turns.{HasTicket, ViewFits, ClosesWith, Kept}
use Rattle.turnstile.specs.Entries.{HasAll}
use Rattle.a1_base.specs.Lists.{entries_of}
use Rattle.turnstile.proofs.Histories.{has_first, of_append, whole}

nothing_first : {E : Type 0} (xs ys : List E) → xs ++ ys ≡ [] → xs ≡ []
nothing_first [] ys e = refl
nothing_first (x ∷ xs) ys e = cc

module _ {T E : Type 0} (stands : T → List E → Type 0) (number : E → ℕ) (passes : ℕ) (start : E) where
  abbrev K : State (Option T) (View E) → Type 0
  K = Kept stands number passes start

  clash : (id : ℕ) (v : View E) (s : State (Option T) (View E)) (k : K s) → get_elem? s.views id ≡ some v → v.stage ≡ Idle → HasAll passes v.numbers
      → (i n : ℕ) (u : View E) → get_elem? s.views i ≡ some u → u.stage ≡ Inside n → ⊥
  clash id v s k at idle all i n u e is = dite (ℕ_discrete i id)
      (λ (here : i ≡ id).
      let uv : u ≡ v = some-injective u v (sym e ∙ (ap (get_elem? s.views) here ∙ at)) in
      let both : Inside n ≡ Idle = sym is ∙ (ap (λ (z : View E). z.stage) uv ∙ idle) in
      cc)
      (λ (other : i ≢ id).
      let fit = k.fits i u e in
      let some_number = (fit.ticket n (subst (λ (z : Stage). HasTicket z n) (sym is) refl)).2 in
      let x = has_first u.numbers some_number in
      let r = fit.range x.0 x.1 in
      (k.apart i id u v other e at).numbers x.0 x.1 (all x.0 r.0 r.1))

  -- the log is what was seen
  seen_all : (log : List E) (drawn served : ℕ) (v : View E) → ViewFits number passes log drawn served v → ((x : ℕ) → passes < x → entries_of number x log ≡ [])
      → HasAll passes v.numbers → 0 < length v.numbers → log ≡ v.seen
  seen_all log drawn served v mine no_more all held = whole number log v.seen mine.seen own where
    own : (x : ℕ) → entries_of number x log ≡ entries_of number x v.seen
    own zero = mine.zero held
    own (suc x) = dite (dec_le (suc x) passes)
        (λ (le : suc x ≤ passes). mine.own (suc x) (all (suc x) (omega arith) le))
        (λ (not : suc x ≤ passes → ⊥).
        let none : entries_of number (suc x) log ≡ [] = no_more (suc x) (omega arith) in
        let parts : entries_of number (suc x) v.seen ++ entries_of number (suc x) mine.seen.0 ≡ [] = sym (of_append number (suc x) v.seen mine.seen.0) ∙ (sym (ap (entries_of number (suc x)) mine.seen.1) ∙ none) in
        none ∙ sym (nothing_first (entries_of number (suc x) v.seen) (entries_of number (suc x) mine.seen.0) parts))

  pub closes : (id : ℕ) (v : View E) (ws : List ℕ) (xs : List (Option T)) → v.stage ≡ Idle → 0 < length v.numbers → HasAll passes v.numbers → Final (Seen K id v) ws xs
      → (y : T) × (get_elem? xs 0 ≡ some (Some y)) × ClosesWith stands number start y v.seen
  closes id v ws xs idle some_number all end =
      let s = end.0 in let k = end.1.0 in let at = end.1.1 in
      let same : k.log ≡ v.seen = seen_all k.log k.drawn k.served v (k.fits id v at) k.no_more all some_number in
      ⊎_elim
      (λ t. (
        t.0,
        end.4 0 (Some t.0) (ap (λ (h : List (maybe.Option (Option T))). get_elem? h 0) t.1),
        (subst (stands t.0) same t.2, ap (entries_of number 0) (sym same) ∙ k.zeros),
      ))
      (λ t. absurd (clash id v s k at idle all t.1.0 t.1.2 t.1.1 t.1.3 t.1.4))
      k.slot

  -- what was taken out at the end
  pub closes_with : (id : ℕ) (v : View E) (ws : List ℕ) (xs : List (Option T)) (x : Option T) → v.stage ≡ Idle → 0 < length v.numbers → HasAll passes v.numbers → Final (Seen K id v) ws xs → get_elem? xs 0 ≡ some x
      → (y : T) × (x ≡ Some y) × ClosesWith stands number start y v.seen
  closes_with id v ws xs x idle some_number all end at =
      let r = closes id v ws xs idle some_number all end in
      (r.0, some-injective x (Some r.0) (sym at ∙ r.1), r.2)

  pub closes_at : (x : Option T) (y z : T) (seen : List E) → x ≡ Some y → x ≡ Some z → ClosesWith stands number start y seen → ClosesWith stands number start z seen
  closes_at x y z seen p q h = let same : y ≡ z = (let e : Some y ≡ Some z = sym p ∙ q in cc) in subst (λ (u : T). ClosesWith stands number start u seen) same h
