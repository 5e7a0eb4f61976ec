-- The versions of one object, the newest first, and which of them stands at a stamp.
use Rattle.std.specs.Prelude.{ℕ, ◌<◌, nat_le, Bool, cond, List, [], ◌∷◌, Option, Some, None, option_map}
use denote.Ref.{Bor}

-- a stamp, and the bytes that stand there from then on, or nothing
abbrev pub Version : Type 0
Version = ℕ × Option (List ℕ)

-- what contracts see of a chain: its versions, the newest first, and whether a place for one more is reserved
pub record Versions : Type 0 where
  pub versions : List Version
  pub reserved : Bool

-- the newest version at most s
abbrev pub version_at : ℕ → List Version → Option Version
version_at s [] = None
version_at s (v ∷ vs) = cond (nat_le v.0 s) (Some v) (version_at s vs)

-- a stamp with the bytes behind its reference
abbrev pub shown : ℕ × Option (Bor (List ℕ)) → Version
shown r = (r.0, option_map (λ b. b.now) r.1)

-- the stamp of the newest version, and 0 where there is none
abbrev pub newest : List Version → ℕ
newest [] = 0
newest (v ∷ vs) = v.0

-- the newest version at most the floor stays, and those above it
abbrev pub cut : ℕ → List Version → List Version
cut floor [] = []
cut floor (v ∷ vs) = cond (nat_le v.0 floor) (v ∷ []) (v ∷ cut floor vs)

-- stamps strictly fall, and the oldest is above 0
abbrev pub Falls : List Version → Type 0
Falls [] = Unit {0}
Falls (v ∷ vs) = (newest vs < v.0) × Falls vs
