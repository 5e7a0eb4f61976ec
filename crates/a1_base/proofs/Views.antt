-- What holds of each of several views, after one has changed and with one more.
use Rattle.std.proofs.Common.{◌≡◌, ◌≢◌, ℕ, zero, suc, List, [], ◌∷◌, ◌++◌, set, sym, subst, arith}
use mathlib.Core.Option.{some, some-injective, some-ne-none}
use lib.ListN.{get_elem?}

module _ {A : Type 0} (P : A → Type 0) where
  -- what holds of each other view and of the new one holds of all
  pub each_set : (views : List A) (id : ℕ) (w : A) → ((j : ℕ) (u : A) → j ≢ id → get_elem? views j ≡ some u → P u) → P w
      → (j : ℕ) (u : A) → get_elem? (set views id w) j ≡ some u → P u
  each_set [] id w others mine j u e = absurd (some-ne-none u (sym e))
  each_set (x ∷ xs) zero w others mine zero u e = subst P (some-injective w u e) mine
  each_set (x ∷ xs) zero w others mine (suc j) u e = others (suc j) u (λ h. omega arith) e
  each_set (x ∷ xs) (suc i) w others mine zero u e = others zero u (λ h. omega arith) e
  each_set (x ∷ xs) (suc i) w others mine (suc j) u e = each_set xs i w (λ k v n. others (suc k) v (λ h. n (omega arith))) mine j u e

  -- what holds of each view and of one behind them holds of all
  pub each_end : (views : List A) (w : A) → ((j : ℕ) (u : A) → get_elem? views j ≡ some u → P u) → P w
      → (j : ℕ) (u : A) → get_elem? (views ++ w ∷ []) j ≡ some u → P u
  each_end [] w others mine zero u e = subst P (some-injective w u e) mine
  each_end [] w others mine (suc j) u e = absurd (some-ne-none u (sym e))
  each_end (x ∷ xs) w others mine zero u e = others zero u e
  each_end (x ∷ xs) w others mine (suc j) u e = each_end xs w (λ k v. others (suc k) v) mine j u e

  -- the only view
  pub each_alone : (w : A) → P w → (j : ℕ) (u : A) → get_elem? (w ∷ []) j ≡ some u → P u
  each_alone w mine = each_end [] w (λ j u e. absurd (some-ne-none u (sym e))) mine
