-- What a call of a store does to its list of items.
use Rattle.std.specs.Prelude.{◌≡◌, ◌⊎◌, ℕ, ◌≤◌, ◌<◌, List, [], ◌∷◌, ◌++◌, Option, Some, None, Result, Ok, Err, slice_get, ⊤}
use Rattle.a1_base.specs.declared.limits.TheConstants.{ITEM_LIMIT}
use Rattle.a1_base.specs.Outside.{Rose}
use Rattle.object_store.specs.declared.store.StoreMiss.{StoreMiss}
use Rattle.object_store.specs.declared.store.StoreMiss.TheVariants.{Failed, Memory}

-- an item more at Ok; after a failure it may be there or not; want of memory adds none
abbrev pub PutAdds : Option (List (List ℕ)) → Option (List (List ℕ)) → List ℕ → Result ⊤ StoreMiss → Type 0
PutAdds None new item result = new ≡ None
PutAdds (Some items) new item (Ok done) = new ≡ Some (items ++ item ∷ [])
PutAdds (Some items) new item (Err Failed) = (new ≡ Some items) ⊎ (new ≡ Some (items ++ item ∷ []))
PutAdds (Some items) new item (Err Memory) = new ≡ Some items

-- the item, or none exactly at or past the end; from ITEM_LIMIT on every store has none
abbrev pub GetGives : Option (List (List ℕ)) → ℕ → Result (Option (List ℕ)) StoreMiss → Type 0
GetGives None index (Ok (Some item)) = index < ITEM_LIMIT
GetGives None index (Ok None) = ⊤
GetGives None index (Err e) = ⊤
GetGives (Some items) index (Ok found) = (found ≡ slice_get items index) × (ITEM_LIMIT ≤ index → found ≡ None)
GetGives (Some items) index (Err e) = ⊤

abbrev pub MissesWithCause : ℕ → ℕ → StoreMiss → Type 0
MissesWithCause before now Failed = Rose before now
MissesWithCause before now Memory = ⊤

abbrev pub PutsWithCause : ℕ → ℕ → Result ⊤ StoreMiss → Type 0
PutsWithCause before now (Ok done) = before ≤ now
PutsWithCause before now (Err e) = (before ≤ now) × MissesWithCause before now e

abbrev pub GetsWithCause : ℕ → ℕ → Result (Option (List ℕ)) StoreMiss → Type 0
GetsWithCause before now (Ok found) = before ≤ now
GetsWithCause before now (Err e) = (before ≤ now) × MissesWithCause before now e
