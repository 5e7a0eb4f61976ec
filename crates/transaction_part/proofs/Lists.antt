-- Lists by what stands in them, and by the places where it stands.
use Rattle.std.proofs.Common.{◌≡◌, ◌≢◌, ◌⊎◌, ℕ, zero, suc, ◌+◌, ◌<◌, ◌≤◌, List, [], ◌∷◌, ◌++◌, Some, length, map, slice_get, slice_set, sym, refl, ap, ◌∙◌, subst, inl, inr, arith}
use Rattle.std.proofs.lemmas.Option.{none-some, same_Some, slice_get_within}
use Rattle.std.specs.List.{AllByRecursion}
use mathlib.Core.Logic.{dite}
use native.Mathlib.Decide.{ℕ_discrete}
use Rattle.a1_base.specs.Lists.{IsAmong}

module _ {X : Type 0} where
  -- what is among a list stands at a place of it
  pub place_of : (xs : List X) (x : X) → IsAmong x xs → (i : ℕ) × (slice_get xs i ≡ Some x)
  place_of [] x there = absurd there
  place_of (y ∷ ys) x there = elim there [
    | inl same ↦ (0, ap (λ (z : X). Some z) same)
    | inr more ↦ let p = place_of ys x more in (suc p.0, p.1)
  ]

  -- and what stands at a place is among it
  pub among_at : (xs : List X) (i : ℕ) (x : X) → slice_get xs i ≡ Some x → IsAmong x xs
  among_at [] i x h = absurd (none-some x h)
  among_at (y ∷ ys) zero x h = inl (same_Some y x h)
  among_at (y ∷ ys) (suc i) x h = inr (among_at ys i x h)

  -- what holds of each that stands at a place before n
  abbrev pub Before : (X → Type 0) → List X → ℕ → Type 0
  Before P xs n = (i : ℕ) (x : X) → i < n → slice_get xs i ≡ Some x → P x

  pub before_none : (P : X → Type 0) (xs : List X) → Before P xs 0
  before_none P xs i x below stands = absurd (omega arith)

  -- one more
  pub before_next : (P : X → Type 0) (xs : List X) (n : ℕ) (x : X) → slice_get xs n ≡ Some x → P x → Before P xs n → Before P xs (n + 1)
  before_next P xs n x stands p all i y below at = dite (ℕ_discrete i n)
      (λ (e : i ≡ n). subst P (same_Some x y (sym stands ∙ subst (λ (j : ℕ). slice_get xs j ≡ Some y) e at)) p)
      (λ (ne : i ≢ n). let low : i < n = omega arith in all i y low at)

  -- behind the last place it holds of all
  pub before_all : (P : X → Type 0) (xs : List X) (n : ℕ) → length xs ≤ n → Before P xs n → (x : X) → IsAmong x xs → P x
  before_all P xs n past all x there =
      let at = place_of xs x there in
      let within : at.0 < length xs = slice_get_within xs at.0 x at.1 in
      let below : at.0 < n = omega arith in
      all at.0 x below at.1

  -- what stands in a list stands in each longer one
  pub among_front : (xs ys : List X) (x : X) → IsAmong x xs → IsAmong x (xs ++ ys)
  among_front [] ys x there = absurd there
  among_front (y ∷ xs) ys x there = elim there [ inl e ↦ inl e | inr more ↦ inr (among_front xs ys x more) ]

  -- and the item more at its end
  pub among_end : (xs : List X) (x : X) → IsAmong x (xs ++ x ∷ [])
  among_end [] x = inl refl
  among_end (y ∷ xs) x = inr (among_end xs x)

  -- what stands in a list with one item more stood there before, or is that item
  pub among_last : (xs : List X) (x y : X) → IsAmong y (xs ++ x ∷ []) → IsAmong y xs ⊎ (x ≡ y)
  among_last [] x y there = elim there [ inl e ↦ inr e | inr more ↦ absurd more ]
  among_last (z ∷ xs) x y there = elim there [
    | inl e ↦ inl (inl e)
    | inr more ↦ elim (among_last xs x y more) [ inl before ↦ inl (inr before) | inr e ↦ inr e ]
  ]

  -- what holds of each item in turn holds of each that stands there, and back
  pub each_among : (P : X → Type 0) (xs : List X) (x : X) → AllByRecursion P xs → IsAmong x xs → P x
  each_among P [] x all there = absurd there
  each_among P (y ∷ xs) x all there = elim there [ inl e ↦ subst P e all.0 | inr more ↦ each_among P xs x all.1 more ]

  pub all_among : (P : X → Type 0) (xs : List X) → ((x : X) → IsAmong x xs → P x) → AllByRecursion P xs
  all_among P [] each = tt
  all_among P (y ∷ xs) each = (each y (inl refl), all_among P xs (λ x there. each x (inr there)))

  -- an item in whose place one stands that f cannot tell from it
  pub map_set : {B : Type 0} (f : X → B) (xs : List X) (i : ℕ) (x y : X) → slice_get xs i ≡ Some x → f y ≡ f x
      → map f (slice_set xs i y) ≡ map f xs
  map_set f [] i x y is same = absurd (none-some x is)
  map_set {B} f (z ∷ xs) zero x y is same = ap (λ (b : B). b ∷ map f xs) (same ∙ ap f (sym (same_Some z x is)))
  map_set f (z ∷ xs) (suc i) x y is same = ap (λ bs. f z ∷ bs) (map_set f xs i x y is same)

  among_map : {B : Type 0} (f : X → B) (xs : List X) (b : B) → IsAmong b (map f xs) → (x : X) × IsAmong x xs × (f x ≡ b)
  among_map f [] b there = absurd there
  among_map f (z ∷ xs) b there = elim there [
    | inl e ↦ (z, inl refl, e)
    | inr more ↦ let m = among_map f xs b more in (m.0, inr m.1, m.2)
  ]

  map_among : {B : Type 0} (f : X → B) (xs : List X) (x : X) → IsAmong x xs → IsAmong (f x) (map f xs)
  map_among f [] x there = absurd there
  map_among f (z ∷ xs) x there = elim there [ inl e ↦ inl (ap f e) | inr more ↦ inr (map_among f xs x more) ]

  -- in lists that f cannot tell apart, items stand that f cannot tell apart
  pub among_same : {B : Type 0} (f : X → B) (xs ys : List X) (x : X) → map f xs ≡ map f ys → IsAmong x xs
      → (y : X) × IsAmong y ys × (f y ≡ f x)
  among_same {B} f xs ys x same there = among_map f ys (f x) (subst (λ (bs : List B). IsAmong (f x) bs) same (map_among f xs x there))
