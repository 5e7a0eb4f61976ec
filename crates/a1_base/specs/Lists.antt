-- Words about lists that std lacks.
use Rattle.std.specs.Prelude.{◌≡◌, ◌⊎◌, ℕ, ◌==◌, List, [], ◌∷◌, ◌++◌}
use Rattle.std.specs.List.{filter}

-- x stands in the list
abbrev pub IsAmong : {X : Type 0} → X → List X → Type 0
IsAmong x [] = ⊥
IsAmong x (y ∷ ys) = (y ≡ x) ⊎ IsAmong x ys

-- the list begins with these
abbrev pub BeginsWith : {X : Type 0} → List X → List X → Type 0
BeginsWith {X} list front = (rest : List X) × (list ≡ front ++ rest)

-- the entries that bear this number
abbrev pub entries_of : {X : Type 0} → (X → ℕ) → ℕ → List X → List X
entries_of number k entries = filter (λ e. number e == k) entries
