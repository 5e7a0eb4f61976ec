-- The places of one region, as a flag for each place.
use Rattle.std.specs.Prelude.{◌≡◌, ℕ, ◌<◌, nat_lt, ◌&&◌, Bool, true, false, List, slice_index_or}
use Rattle.object_region.specs.Occupancy.{width}

-- whether the place at this offset of a region is taken
abbrev pub is_taken : List Bool → ℕ → Bool
is_taken flags offset = nat_lt offset width && slice_index_or flags offset false

-- each place is taken
abbrev pub IsFull : List Bool → Type 0
IsFull flags = (k : ℕ) → k < width → is_taken flags k ≡ true

-- the place at this offset is free, and each before it is taken
pub record IsFirstFree (flags : List Bool) (offset : ℕ) : Type 0 where
  pub within : offset < width
  pub free : is_taken flags offset ≡ false
  pub below_taken : (k : ℕ) → k < offset → is_taken flags k ≡ true
