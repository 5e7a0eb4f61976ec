-- Sums over the views.
use Rattle.std.proofs.Common.{sum_by, ◌≡◌, ℕ, zero, suc, List, [], ◌∷◌, set, sym, refl, ap, arith}
use mathlib.Core.Option.{some, some-injective, some-ne-none}
use lib.ListN.{get_elem?}
use Rattle.std.proofs.lemmas.List.Sums.{sum_by-cons}
use Rattle.a1_base.proofs.Sums.{sum_set, sum_has}

pub sum_same : {A : Type 0} (f : A → ℕ) (l : List A) (i : ℕ) (v w : A) → get_elem? l i ≡ some v → f w ≡ f v → sum_by f (set l i w) ≡ sum_by f l
sum_same f l i v w e same = let r = sum_set f l i v w e in omega arith

module _ {A : Type 0} (f g : A → ℕ) where
  -- who has nothing by g has nothing by f
  abbrev Idle : List A → Type 0
  Idle l = (i : ℕ) (v : A) → get_elem? l i ≡ some v → g v ≡ 0 → f v ≡ 0

  sum_none : (l : List A) → Idle l → sum_by g l ≡ 0 → sum_by f l ≡ 0
  sum_none [] h none = refl
  sum_none (x ∷ xs) h none =
      let whole = sum_by-cons f x xs in let whole' = sum_by-cons g x xs in
      let here = h zero x refl (omega arith) in
      let r = sum_none xs (λ i v e. h (suc i) v e) (omega arith) in
      omega arith

  -- one has all by g, and so all by f
  pub sum_only : (l : List A) (i : ℕ) (v : A) → Idle l → get_elem? l i ≡ some v → sum_by g l ≡ g v → sum_by f l ≡ f v
  sum_only [] i v h e all = absurd (some-ne-none v (sym e))
  sum_only (x ∷ xs) zero v h e all =
      let whole = sum_by-cons f x xs in let whole' = sum_by-cons g x xs in
      let is : f x ≡ f v = ap f (some-injective x v e) in
      let is' : g x ≡ g v = ap g (some-injective x v e) in
      let r = sum_none xs (λ i v e. h (suc i) v e) (omega arith) in
      omega arith
  sum_only (x ∷ xs) (suc i) v h e all =
      let whole = sum_by-cons f x xs in let whole' = sum_by-cons g x xs in
      let has = sum_has g xs i v e in
      let here = h zero x refl (omega arith) in
      let r = sum_only xs i v (λ i v e. h (suc i) v e) e (omega arith) in
      omega arith
