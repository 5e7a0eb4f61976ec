-- Lists by the places of their items.
use Rattle.std.proofs.Common.{◌≡◌, ◌≢◌, ◌⊎◌, ℕ, zero, suc, ◌<◌, List, [], ◌∷◌, ◌++◌, Some, length, slice_get, slice_set, refl, sym, ap, subst, inl, inr, arith}
use Rattle.std.specs.List.{AllByRecursion}
use Rattle.std.proofs.lemmas.Option.{none-some, same_Some}
use Rattle.a1_base.specs.declared.place.Addr.{Addr}
use Rattle.write_set.specs.Writes.{Lacks}
use Rattle.write_set.specs.declared.set.Write.{Write}

module _ {A : Type 0} where
  -- what holds of each item holds of the one at a place
  pub all_at : (P : A → Type 0) (xs : List A) (i : ℕ) (x : A) → AllByRecursion P xs → slice_get xs i ≡ Some x → P x
  all_at P [] i x all h = absurd (none-some x h)
  all_at P (y ∷ ys) zero x all h = subst P (same_Some y x h) all.0
  all_at P (y ∷ ys) (suc i) x all h = all_at P ys i x all.1 h

  -- what holds of the item at each place holds of each item
  pub all_from : (P : A → Type 0) (xs : List A) → ((i : ℕ) (x : A) → slice_get xs i ≡ Some x → P x) → AllByRecursion P xs
  all_from P [] h = tt
  all_from P (y ∷ ys) h = (h 0 y refl, all_from P ys (λ i. h (suc i)))

  -- after a write at a place, its item stands there
  pub at_set : (xs : List A) (i : ℕ) (x : A) → i < length xs → slice_get (slice_set xs i x) i ≡ Some x
  at_set [] i x h = absurd (omega arith)
  at_set (y ∷ ys) zero x h = refl
  at_set (y ∷ ys) (suc i) x h = at_set ys i x (omega arith)

  -- after a write at a place, all others have their items
  pub at_set_other : (xs : List A) (i j : ℕ) (x : A) → j ≢ i → slice_get (slice_set xs i x) j ≡ slice_get xs j
  at_set_other [] i j x apart = refl
  at_set_other (y ∷ ys) zero zero x apart = absurd (apart refl)
  at_set_other (y ∷ ys) zero (suc j) x apart = refl
  at_set_other (y ∷ ys) (suc i) zero x apart = refl
  at_set_other (y ∷ ys) (suc i) (suc j) x apart = at_set_other ys i j x (λ e. apart (ap suc e))

  -- what stands in a list with one item more stood there before, or is that item at the end
  pub at_pushed : (xs : List A) (x : A) (i : ℕ) (y : A) → slice_get (xs ++ x ∷ []) i ≡ Some y → (slice_get xs i ≡ Some y) ⊎ ((i ≡ length xs) × (y ≡ x))
  at_pushed [] x zero y h = inr (refl, sym (same_Some x y h))
  at_pushed [] x (suc i) y h = absurd (none-some y h)
  at_pushed (z ∷ zs) x zero y h = inl h
  at_pushed (z ∷ zs) x (suc i) y h =
      elim (at_pushed zs x i y h) [ inl before ↦ inl before | inr last ↦ inr (ap suc last.0, last.1) ]

  -- what stood in a list stands there after one item more
  pub pushed_before : (xs : List A) (x : A) (i : ℕ) (y : A) → slice_get xs i ≡ Some y → slice_get (xs ++ x ∷ []) i ≡ Some y
  pushed_before [] x i y h = absurd (none-some y h)
  pushed_before (z ∷ zs) x zero y h = h
  pushed_before (z ∷ zs) x (suc i) y h = pushed_before zs x i y h

  -- the item more stands at the end
  pub pushed_last : (xs : List A) (x : A) → slice_get (xs ++ x ∷ []) (length xs) ≡ Some x
  pushed_last [] x = refl
  pushed_last (z ∷ zs) x = pushed_last zs x

-- no write of a lacking address stands anywhere
pub lacks_at : (ws : List Write) (a : Addr) (i : ℕ) (w : Write) → Lacks ws a → slice_get ws i ≡ Some w → w.at ≡ a → ⊥
lacks_at ws a = all_at (λ (w : Write). w.at ≢ a) ws

-- an address that no write has is lacking
pub lacks_all : (ws : List Write) (a : Addr) → ((i : ℕ) (w : Write) → slice_get ws i ≡ Some w → w.at ≡ a → ⊥) → Lacks ws a
lacks_all ws a = all_from (λ (w : Write). w.at ≢ a) ws
