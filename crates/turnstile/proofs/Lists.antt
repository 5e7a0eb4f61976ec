-- What the rule says of the views after one has changed, and with one more.
use Rattle.std.proofs.Common.{◌≡◌, ◌≢◌, ◌⊎◌, ℕ, zero, suc, ◌<◌, ◌≤◌, List, [], ◌∷◌, ◌++◌, length, set, sym, refl, ap, ◌∙◌, subst, inl, inr, ⊎_elim, arith}
use mathlib.Core.Option.{some, some-injective, some-ne-none}
use lib.ListN.{get_elem?}
use Rattle.atomic_table.proofs.Lists.{at_set, set_else}
use Rattle.a1_base.proofs.Views.{each_set}
use Rattle.turnstile.specs.declared.view.View.{View}
use Rattle.turnstile.specs.declared.view.Stage.{Stage}
use Rattle.turnstile.specs.declared.view.Stage.TheVariants.{Idle, Waits, Inside}
use Rattle.turnstile.specs.Turns.{HasTicket, tickets, Apart, NobodyInside, SomebodyInside}

pub here_set : {A : Type 0} (l : List A) (i : ℕ) (v w : A) → get_elem? l i ≡ some v → get_elem? (set l i w) i ≡ some w
here_set [] i v w e = absurd (some-ne-none v (sym e))
here_set (x ∷ xs) zero v w e = refl
here_set (x ∷ xs) (suc i) v w e = here_set xs i v w e

module _ {E : Type 0} where
  pub apart_flip : (v w : View E) → Apart v w → Apart w v
  apart_flip v w a = record { numbers = λ k p q. a.numbers k q p; tickets = λ n p q. a.tickets n q p }

  pub apart_set : (views : List (View E)) (id : ℕ) (w : View E)
      → ((i j : ℕ) (v u : View E) → i ≢ j → get_elem? views i ≡ some v → get_elem? views j ≡ some u → Apart v u)
      → ((j : ℕ) (u : View E) → j ≢ id → get_elem? views j ≡ some u → Apart w u)
      → (i j : ℕ) (v u : View E) → i ≢ j → get_elem? (set views id w) i ≡ some v → get_elem? (set views id w) j ≡ some u → Apart v u
  apart_set views id w old mine i j v u ne e f = ⊎_elim
      (λ t. ⊎_elim
      (λ r. absurd (ne (t.0 ∙ sym r.0)))
      (λ r. subst (λ (z : View E). Apart z u) t.1 (mine j u r.0 r.1))
      (at_set views id j w u f))
      (λ t. ⊎_elim
      (λ r. subst (λ (z : View E). Apart v z) r.1 (apart_flip w v (mine i v t.0 t.1)))
      (λ r. old i j v u ne t.1 r.1)
      (at_set views id j w u f))
      (at_set views id i w v e)

  pub nobody_set : (views : List (View E)) (id : ℕ) (w : View E) → NobodyInside views → ((n : ℕ) → w.stage ≡ Inside n → ⊥) → NobodyInside (set views id w)
  nobody_set views id w nobody mine i v n e = each_set (λ (z : View E). (m : ℕ) → z.stage ≡ Inside m → ⊥) views id w (λ j u ne e m. nobody j u m e) mine i v e n

  pub somebody_set : (views : List (View E)) (id : ℕ) (v w : View E) → get_elem? views id ≡ some v → ((n : ℕ) → v.stage ≡ Inside n → ⊥) → SomebodyInside views → SomebodyInside (set views id w)
  somebody_set views id v w at not (i, u, n, e, is) =
      let other : i ≢ id = λ (same : i ≡ id). not n (ap (λ (z : View E). z.stage) (some-injective v u (sym at ∙ (ap (get_elem? views) (sym same) ∙ e))) ∙ is) in
      (i, u, n, set_else views id i w other ∙ e, is)

  -- who has a ticket has a number
  pub tickets_le : (v : View E) → ((n : ℕ) → HasTicket v.stage n → 0 < length v.numbers) → tickets v.stage ≤ length v.numbers
  tickets_le v h = by_stage v.stage h where
    by_stage : (s : Stage) → ((n : ℕ) → HasTicket s n → 0 < length v.numbers) → tickets s ≤ length v.numbers
    by_stage Idle h = omega arith
    by_stage (Waits m) h = let p = h m refl in omega arith
    by_stage (Inside m) h = let p = h m refl in omega arith

pub at_end : {A : Type 0} (l : List A) (a b : A) (j : ℕ) → get_elem? (l ++ a ∷ []) j ≡ some b → ((j ≢ length l) × (get_elem? l j ≡ some b)) ⊎ ((j ≡ length l) × (a ≡ b))
at_end [] a b zero e = inr (refl, some-injective a b e)
at_end [] a b (suc j) e = absurd (some-ne-none b (sym e))
at_end (x ∷ xs) a b zero e = inl ((λ h. omega arith), e)
at_end (x ∷ xs) a b (suc j) e = ⊎_elim (λ t. let n = t.0 in inl ((λ h. n (omega arith)), t.1)) (λ t. inr (ap suc t.0, t.1)) (at_end xs a b j e)

pub set_swap : {A : Type 0} (l : List A) (i j : ℕ) (a b : A) → i ≢ j → set (set l i a) j b ≡ set (set l j b) i a
set_swap [] i j a b ne = refl
set_swap (x ∷ xs) zero zero a b ne = absurd (ne refl)
set_swap (x ∷ xs) zero (suc j) a b ne = refl
set_swap (x ∷ xs) (suc i) zero a b ne = refl
set_swap (x ∷ xs) (suc i) (suc j) a b ne = ap (λ (z : List _). x ∷ z) (set_swap xs i j a b (λ e. ne (ap suc e)))

module _ {E : Type 0} where
  pub apart_end : (views : List (View E)) (w : View E)
      → ((i j : ℕ) (v u : View E) → i ≢ j → get_elem? views i ≡ some v → get_elem? views j ≡ some u → Apart v u)
      → ((j : ℕ) (u : View E) → get_elem? views j ≡ some u → Apart w u)
      → (i j : ℕ) (v u : View E) → i ≢ j → get_elem? (views ++ w ∷ []) i ≡ some v → get_elem? (views ++ w ∷ []) j ≡ some u → Apart v u
  apart_end views w old mine i j v u ne e f = ⊎_elim
      (λ t. ⊎_elim
      (λ r. old i j v u ne t.1 r.1)
      (λ r. subst (λ (z : View E). Apart v z) r.1 (apart_flip w v (mine i v t.1)))
      (at_end views w u j f))
      (λ t. ⊎_elim
      (λ r. subst (λ (z : View E). Apart z u) t.1 (mine j u r.1))
      (λ r. absurd (ne (t.0 ∙ sym r.0)))
      (at_end views w u j f))
      (at_end views w v i e)
