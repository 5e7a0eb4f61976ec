-- What the reading of one kind of value gives.
use Rattle.std.proofs.Common.{◌≡◌, ℕ, List, [], ◌∷◌, ◌++◌, Option, Some, None, refl, ap, subst, ◌∙◌}
use Rattle.std.specs.Prelude.{option_map}
use Rattle.std.proofs.lemmas.Option.{same_Some}
use Rattle.a1_base.specs.Fronts.{IsBytes, Front, made, Exact}
use Rattle.a1_base.proofs.Exact.{bytes_front, bytes_behind, mapped_some}
use Rattle.a1_value.specs.declared.value.Value.{Value}

-- a kind in front of what is made into a value
pub kind_takes : {A : Type 0} (p : Front A) (s : A → List ℕ) (P : A → Type 0) → Exact p s P → (spelling : Value → List ℕ) (IsA : Value → Type 0) (kind : ℕ) (f : A → Value)
    → ((a : A) → P a → IsBytes (s a) → IsA (f a) × (kind ∷ s a ≡ spelling (f a)))
    → (bytes : List ℕ) (v : Value × List ℕ) → IsBytes (kind ∷ bytes) → made f p bytes ≡ Some v → IsA v.0 × (kind ∷ bytes ≡ spelling v.0 ++ v.1)
kind_takes {A} p s P exact spelling IsA kind f is bytes v fits e = mapped_some (λ (a : A × List ℕ). (f a.0, a.1)) (p bytes) v e (λ a read same.
    let fit : IsBytes bytes = bytes_behind (kind ∷ []) bytes fits in
    let one = exact.takes bytes a fit read in
    let two = is a.0 one.0 (bytes_front (s a.0) a.1 (subst IsBytes one.1 fit)) in
    subst (λ (y : Value × List ℕ). IsA y.0 × (kind ∷ bytes ≡ spelling y.0 ++ y.1)) same (two.0, ap (λ z. kind ∷ z) one.1 ∙ ap (λ z. z ++ a.1) two.1))
