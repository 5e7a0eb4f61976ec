-- What a transaction will write, as a list.
use Rattle.std.specs.Prelude.{◌≡◌, ◌≢◌, ◌⊎◌, ℕ, nat_lt, Bool, false, List, [], ◌∷◌, ◌++◌, Option, Some, None, slice_get, slice_set}
use Rattle.std.specs.List.{AllByRecursion}
use Rattle.std.specs.Map.{values_of}
use Rattle.a1_base.specs.declared.place.Addr.{Addr}
use Rattle.indexmap.specs.IndexMap.{spare}
use Rattle.write_set.specs.declared.set.Write.{Write}
use Rattle.write_set.specs.declared.set.WriteSet.{WriteSet}

-- the writes, in the order of the first writes
abbrev pub writes : WriteSet → List Write
writes s = values_of s.map.entries

-- memory for one write more is there
abbrev pub has_room : WriteSet → Bool
has_room s = nat_lt 0 (spare s.map)

-- the address is not written
abbrev pub Lacks : List Write → Addr → Type 0
Lacks ws a = AllByRecursion (λ (w : Write). w.at ≢ a) ws

-- its write stands at that place
abbrev pub StandsAt : List Write → ℕ → Addr → Type 0
StandsAt ws i a = (w : Write) × (slice_get ws i ≡ Some w) × (w.at ≡ a)

-- no two writes have one address
abbrev pub AreApart : List Write → Type 0
AreApart ws = (i j : ℕ) (v w : Write) → slice_get ws i ≡ Some v → slice_get ws j ≡ Some w → v.at ≡ w.at → i ≡ j

-- the write of the address takes the value, or there is one write more, of an object that was not made
abbrev pub Overwrites : Addr → Option (List ℕ) → List Write → List Write → Type 0
Overwrites a v old new =
    ((i : ℕ) × (w : Write) × (slice_get old i ≡ Some w) × (w.at ≡ a) × (new ≡ slice_set old i (record w { value = v })))
    ⊎ (Lacks old a × (new ≡ old ++ record { at = a; value = v; made = false } ∷ []))

-- the value of the write at that place is taken out
abbrev pub TakesValue : ℕ → Option (List ℕ) → List Write → List Write → Type 0
TakesValue i v old new =
    (w : Write) × (slice_get old i ≡ Some w) × (v ≡ w.value) × (new ≡ slice_set old i (record w { value = None }))
