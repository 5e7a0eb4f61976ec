-- Tests of lists.
use Rattle.std.proofs.Common.{◌≡◌, List, [], ◌∷◌, Bool, true, false, cond, ◌&&◌, ◌||◌, filter, refl, ap, ◌∙◌}
use Rattle.std.specs.List.{list_any}

pub any_same : {X : Type 0} (p q : X → Bool) → ((x : X) → p x ≡ q x) → (xs : List X) → list_any p xs ≡ list_any q xs
any_same p q same xs = ap (λ f. list_any f xs) (λ i x. same x i)

-- four tests that are to hold, the first three together or the last two
pub regrouped : (a b c d : Bool) → ((a && (b && c)) && d) ≡ (a && (b && (c && d)))
regrouped true true c d = refl
regrouped true false c d = refl
regrouped false b c d = refl

pub first_two : (a b c : Bool) → (a && (b && c)) ≡ ((a && b) && c)
first_two true b c = refl
first_two false b c = refl

pub and_first : (a b : Bool) → (a && b) ≡ true → a ≡ true
and_first true b e = refl
and_first false b e = e

pub and_second : (a b : Bool) → (a && b) ≡ true → b ≡ true
and_second true b e = e
and_second false b e = cc

-- a test finds something in a filter where it finds something of those that pass
pub any_at : {X : Type 0} (a b p : X → Bool) (xs : List X) → list_any p (filter (λ x. a x && b x) xs) ≡ list_any (λ x. a x && (b x && p x)) xs
any_at a b p [] = refl
any_at a b p (x ∷ xs) = by (a x) (b x) ∙ ap (λ c. (a x && (b x && p x)) || c) (any_at a b p xs) where
  by : (c d : Bool) → list_any p (cond (c && d) (x ∷ filter (λ x. a x && b x) xs) (filter (λ x. a x && b x) xs)) ≡ ((c && (d && p x)) || list_any p (filter (λ x. a x && b x) xs))
  by true true = refl
  by true false = refl
  by false d = refl

-- of a filter those that pass a test which the filter's own follows from
pub filter_within : {X : Type 0} (p q : X → Bool) → ((x : X) → p x ≡ true → q x ≡ true) → (xs : List X) → filter p (filter q xs) ≡ filter p xs
filter_within p q from [] = refl
filter_within p q from (x ∷ xs) = by (q x) refl (p x) refl (filter_within p q from xs) where
  by : (b : Bool) → q x ≡ b → (c : Bool) → p x ≡ c → filter p (filter q xs) ≡ filter p xs
      → filter p (cond b (x ∷ filter q xs) (filter q xs)) ≡ cond c (x ∷ filter p xs) (filter p xs)
  by true g true h ih = ap (λ z. cond z (x ∷ filter p (filter q xs)) (filter p (filter q xs))) h ∙ ap (λ z. x ∷ z) ih
  by true g false h ih = ap (λ z. cond z (x ∷ filter p (filter q xs)) (filter p (filter q xs))) h ∙ ih
  by false g true h ih = let there = from x h in cc
  by false g false h ih = ih
