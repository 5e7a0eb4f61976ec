-- What the calls on a list of half-edges say.
use Rattle.std.specs.Prelude.{◌≡◌, ◌⊎◌, ℕ, ◌-◌, ◌^◌, Bool, true, false, List, [], ◌∷◌, ◌++◌, length, Option, Some, None, IsSome, Result, Ok, Err, ⊤}
use Rattle.a1_base.specs.declared.place.Addr.{Addr}
use Rattle.object_view.specs.Agreement.{State}
use Rattle.object_view.specs.declared.parts.PartFault.{PartFault}
use Rattle.object_view.specs.declared.parts.PartFault.TheVariants as part
use Rattle.object_btree.specs.Levels.{TooTall, RangeReads}
use Rattle.type_schema.specs.declared.objects.Half.{Half}
use Rattle.type_schema.specs.Objects.{half_key}
use Rattle.type_schema.specs.Structures.{IsLong, half_at, with_half, halves_behind, ListBecomes}

-- the tree of a long list has 16 levels, and no node on the key's way has room: a 17th would be needed; or the number of
-- its half-edges is the last of 64 bits
pub record TallList (nodes : ℕ) (s : State) (at owner : Addr) (h : Half) (halves : List Half) (places : List Addr) : Type 0 where
  pub long : IsLong nodes s at owner halves places
  pub tall : TooTall long.tree.height long.tree.root (half_key h.kind h.far) ⊎ (length halves ≡ 2 ^ 64 - 1)

-- an addition answers false exactly where the kind and the far header are there, and then changes nothing; else the list
-- stands with one more half-edge
abbrev pub AddTells : ℕ → State → State → Addr → Addr → List Half → List Addr → Half → Result Bool PartFault → Type 0
AddTells nodes s t at owner halves places h (Ok false) = IsSome (half_at h.kind h.far halves) × (t ≡ s)
AddTells nodes s t at owner halves places h (Ok true) =
    (half_at h.kind h.far halves ≡ None) × ListBecomes nodes s t at owner places (with_half h halves)
AddTells nodes s t at owner halves places h (Err part.Memory) = ⊤
AddTells nodes s t at owner halves places h (Err (part.Spent n)) = ⊤
AddTells nodes s t at owner halves places h (Err (part.Torn a)) = ⊥
AddTells nodes s t at owner halves places h (Err part.Tall) = TallList nodes s at owner h halves places

-- those behind a half-edge, or all
abbrev pub from_half : Option Half → List Half → List Half
from_half None halves = halves
from_half (Some h) halves = halves_behind h.kind h.far halves

-- the least key behind a half-edge, or behind none
abbrev pub least_key : Option Half → List ℕ
least_key None = []
least_key (Some h) = half_key h.kind h.far ++ 0 ∷ []

-- above every key of a half-edge
abbrev pub last_key : List ℕ
last_key = 255 ∷ 255 ∷ 255 ∷ 255 ∷ 255 ∷ 255 ∷ 255 ∷ 255 ∷ 255 ∷ 255 ∷ 255 ∷ 255 ∷ 255 ∷ []

-- what a walk reads: the header, the list, and of a tree what a range reads
abbrev pub WalkReads : (nodes : ℕ) (s : State) (header at : Addr) (halves : List Half) (places : List Addr) → Option Half
    → ℕ → Addr → Type 0
WalkReads nodes s header at halves places from limit a = (a ≡ header) ⊎ (a ≡ at)
    ⊎ ((long : IsLong nodes s at header halves places)
    × RangeReads long.anchor long.tree.height long.tree.root (least_key from) last_key limit a)
