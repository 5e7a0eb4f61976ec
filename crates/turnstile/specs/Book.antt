-- What the book of the tests holds: marks, each with its writer and its place among that writer's marks.
use Rattle.std.specs.Prelude.{◌≡◌, ℕ, zero, suc, ◌<◌, ◌≤◌, List, [], ◌∷◌, ◌++◌, Option, Some, None}
use Rattle.turnstile.specs.Entries.{up_to}
use Rattle.a1_base.specs.Lists.{IsAmong, entries_of}

abbrev pub Mark : Type 0
Mark = ℕ × ℕ

abbrev pub writer : Mark → ℕ
writer m = m.0

-- the first n marks of a writer
abbrev pub marks : ℕ → ℕ → List Mark
marks by zero = []
marks by (suc n) = marks by n ++ (by, n) ∷ []

abbrev pub told : Option Mark → List Mark
told None = []
told (Some m) = m ∷ []

-- so many marks more of that writer were seen
abbrev pub HasWritten : ℕ → ℕ → List Mark → List Mark → Type 0
HasWritten by n before after = entries_of writer by after ≡ entries_of writer by before ++ marks by n

-- so many marks more of each of the writers from 1 on were seen
abbrev pub HaveWritten : ℕ → ℕ → List Mark → List Mark → Type 0
HaveWritten writers n before after = (k : ℕ) → IsAmong k (up_to writers) → HasWritten k n before after

-- of each writer from 1 on there are just its first n marks
abbrev pub HasEach : ℕ → ℕ → List Mark → Type 0
HasEach writers n log = (k : ℕ) → 0 < k → k ≤ writers → entries_of writer k log ≡ marks k n
