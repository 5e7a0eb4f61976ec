-- What a seat has in hand.
use Rattle.std.proofs.Common.{◌≡◌, ℕ, true, List, [], ◌∷◌, sym, refl, ap, ◌∙◌, subst}
use Rattle.std.specs.Prelude.{Option, Some, None}
use Rattle.atomic_table.specs.Table.{Me, rest}
use Rattle.turnstile.specs.declared.view.View.{View}
use Rattle.turnstile.specs.declared.view.Stage.{Stage}
use Rattle.turnstile.specs.declared.view.Stage.TheVariants.{Idle, Waits, Inside}
use Rattle.turnstile.specs.Turns.{is_inside, IsDone}

pub hand_rest : {S : Type 0} (c : List (ℕ × S)) (x : S) → c ≡ (0, x) ∷ [] → c ≡ (0, x) ∷ rest c
hand_rest {S} c x is = is ∙ ap (λ (z : List (ℕ × S)). (0, x) ∷ z) (sym (ap rest is))

pub inside_is : (s : Stage) → is_inside s ≡ true → (n : ℕ) × (s ≡ Inside n)
inside_is Idle e = cc
inside_is (Waits m) e = cc
inside_is (Inside m) e = (m, refl)

module _ {T E : Type 0} (stands : T → List E → Type 0) where
  -- a turn whose value is in hand again
  pub done : (v : View E) (c : List (ℕ × Option T)) (m : Me (Option T) (View E)) (y : T)
      → is_inside v.stage ≡ true → c ≡ (0, None) ∷ [] → m ≡ (v, (0, Some y) ∷ rest c) → stands y v.seen
      → IsDone stands m
  done v c m y inside hand is st =
      let n = inside_is v.stage inside in
      let is' : m ≡ (v, (0, Some y) ∷ []) = is ∙ ap (λ (z : List (ℕ × Option T)). (v, (0, Some y) ∷ z)) (ap rest hand) in
      subst (IsDone stands) (sym is') (n.0, y, n.1, refl, st)
