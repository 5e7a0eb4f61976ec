-- Sums over a list, after an element has changed and with one more.
use Rattle.std.proofs.Common.{◌≡◌, ℕ, zero, suc, ◌+◌, ◌≤◌, List, [], ◌∷◌, ◌++◌, set, sym, refl, ap, arith}
use Rattle.std.specs.List.{sum_by}
use Rattle.std.proofs.lemmas.List.Sums.{sum_by-cons, sum_by-append}
use mathlib.Core.Option.{some, some-injective, some-ne-none}
use lib.ListN.{get_elem?}

module _ {A : Type 0} (f : A → ℕ) where
  -- the sum with another element at a place, and that element's old share, are the old sum and its new share
  pub sum_set : (l : List A) (i : ℕ) (v w : A) → get_elem? l i ≡ some v → sum_by f (set l i w) + f v ≡ sum_by f l + f w
  sum_set [] i v w e = absurd (some-ne-none v (sym e))
  sum_set (x ∷ xs) zero v w e =
      let is : f x ≡ f v = ap f (some-injective x v e) in
      let before = sum_by-cons f x xs in let after = sum_by-cons f w xs in omega arith
  sum_set (x ∷ xs) (suc i) v w e =
      let r = sum_set xs i v w e in
      let before = sum_by-cons f x xs in let after = sum_by-cons f x (set xs i w) in omega arith

  -- the sum of one element is its share
  pub sum_one : (x : A) → sum_by f (x ∷ []) ≡ f x
  sum_one x = let whole = sum_by-cons f x [] in omega arith

  -- one element more at the end adds its share
  pub sum_more : (l : List A) (v : A) → sum_by f (l ++ v ∷ []) ≡ sum_by f l + f v
  sum_more l v = let r = sum_by-append f l (v ∷ []) in let one = sum_one v in omega arith

  -- no element's share is above the sum
  pub sum_has : (l : List A) (i : ℕ) (v : A) → get_elem? l i ≡ some v → f v ≤ sum_by f l
  sum_has [] i v e = absurd (some-ne-none v (sym e))
  sum_has (x ∷ xs) zero v e = let is : f x ≡ f v = ap f (some-injective x v e) in let whole = sum_by-cons f x xs in omega arith
  sum_has (x ∷ xs) (suc i) v e = let r = sum_has xs i v e in let whole = sum_by-cons f x xs in omega arith

-- shares that are at most others, element by element, sum to at most as much
pub sum_le : {A : Type 0} (f g : A → ℕ) (l : List A) → ((i : ℕ) (v : A) → get_elem? l i ≡ some v → f v ≤ g v) → sum_by f l ≤ sum_by g l
sum_le f g [] h = omega arith
sum_le f g (x ∷ xs) h =
    let here = h zero x refl in let r = sum_le f g xs (λ i v e. h (suc i) v e) in
    let left = sum_by-cons f x xs in let right = sum_by-cons g x xs in omega arith
