-- What the store in memory holds, and which of its calls fail.
use Rattle.std.specs.Prelude.{◌≡◌, ℕ, List, Bool, true, false, Result, Ok, Err}
use Rattle.object_store.specs.declared.in_memory.MemStore.{MemStore}
use Rattle.object_store.specs.declared.store.StoreMiss.{StoreMiss}
use Rattle.object_store.specs.declared.store.StoreMiss.TheVariants.{Failed, Memory}

-- the items
abbrev pub items_of : MemStore → List (List ℕ)
items_of s = s.items.items

-- how many calls there were
abbrev pub calls_made : MemStore → ℕ
calls_made s = s.calls

-- the numbers of the calls that fail
abbrev pub failing_calls : MemStore → List ℕ
failing_calls s = s.fails.items

-- how many calls have failed
abbrev pub store_faults : MemStore → ℕ
store_faults s = s.faults

-- the call failed exactly where it was told to
abbrev pub IsMiss : {T : Type 0} → Result T StoreMiss → Bool → Type 0
IsMiss (Ok done) fails = fails ≡ false
IsMiss (Err Failed) fails = fails ≡ true
IsMiss (Err Memory) fails = fails ≡ false
