-- The puts on one address in a whole list of entries, and the value at a stamp.
use Rattle.std.specs.Prelude.{ℕ, cond, List, [], ◌∷◌, map, Option, Some, None, Ok, Err}
use Rattle.a1_base.specs.declared.place.Addr.{Addr}
use Rattle.a1_base.specs.declared.place.TxnId.{TxnId}
use Rattle.object_region.specs.Occupancy.{same_addr}
use Rattle.version_chain.specs.Versions.{Version}
use Rattle.farm_node.specs.declared.entry.Start.{Start}
use Rattle.farm_node.specs.declared.entry.Found.{Found}
use Rattle.farm_node.specs.declared.entry.Entry.{Entry}
use Rattle.farm_node.specs.declared.entry.Entry.TheVariants.{Made, Open, Shut, Read, Alloc, Lock, Check, Put, Unlock, Collect}
use Rattle.farm_node.specs.Cell.{Bytes, same_txn, found_at}

-- what a transaction last gave for the address by its Alloc, or by a Lock that was given, and the read stamp there
pub record Given : Type 0 where
  pub read : ℕ
  pub value : Option Bytes

-- a read stamp and a value
abbrev pub gives : ℕ → Option Bytes → Given
gives read value = record { read = read; value = value }

-- a put: whose it is, the read stamp of its lock, its stamp, and its value
pub record Installed : Type 0 where
  pub by : TxnId
  pub read : ℕ
  pub stamp : ℕ
  pub value : Option Bytes

-- the puts, the latest first, and what each transaction last gave
pub record Story : Type 0 where
  pub puts : List Installed
  pub given : TxnId → Given

abbrev pub with_given : TxnId → Given → Story → Story
with_given t g h = record h { given = λ u. cond (same_txn t u) g (h.given u) }

-- the value of a put is what its transaction last gave
abbrev pub with_put : TxnId → ℕ → Story → Story
with_put t w h =
    record h { puts = record { by = t; read = (h.given t).read; stamp = w; value = (h.given t).value } ∷ h.puts }

-- what an entry adds to the story of a
abbrev pub story_after : Addr → Story → Entry → Story
story_after a h (Made m) = h
story_after a h (Open k c x) = h
story_after a h (Shut k) = h
story_after a h (Read k b s answer) = h
story_after a h (Alloc t r v placed) = cond (same_addr placed.at a) (with_given t (gives r (Some v)) h) h
story_after a h (Lock t b r new (Ok locked)) = cond (same_addr b a) (with_given t (gives r new) h) h
story_after a h (Lock t b r new (Err fault)) = h
story_after a h (Check t b r w answer) = h
story_after a h (Put t b w) = cond (same_addr b a) (with_put t w h) h
story_after a h (Unlock t b) = h
story_after a h (Collect k f removed) = h

-- what entries add to it
abbrev pub story_from : Addr → Story → List Entry → Story
story_from a h [] = h
story_from a h (e ∷ es) = story_from a (story_after a h e) es

-- who put what was loaded: no actor has the number 0
abbrev pub nobody : TxnId
nobody = record { actor = 0; number = 0 }

-- loaded contents count as a put at the stamp of the start
abbrev pub loaded_puts : Addr → ℕ → List (Addr × Bytes) → List Installed
loaded_puts a stamp [] = []
loaded_puts a stamp (x ∷ xs) = cond (same_addr x.0 a)
    (record { by = nobody; read = 0; stamp = stamp; value = Some x.1 } ∷ []) (loaded_puts a stamp xs)

abbrev pub untold : Story
untold = record { puts = []; given = λ t. gives 0 None }

-- the story behind the first entry
abbrev pub story_begun : Addr → Start → Story
story_begun a m = record { puts = loaded_puts a m.stamp m.heap; given = λ t. gives 0 None }

-- the story of an address in a list of entries
abbrev pub story : Addr → List Entry → Story
story a [] = untold
story a (Made m ∷ es) = story_from a (story_begun a m) es
story a (e ∷ es) = untold

-- the puts as versions
abbrev pub version_of : Installed → Version
version_of i = (i.stamp, i.value)

abbrev pub versions_of : List Installed → List Version
versions_of puts = map version_of puts

-- bytes with their stamp, or nothing
abbrev pub stamped_bytes : Found → Option (ℕ × Bytes)
stamped_bytes f = elim f.value as (λ _. Option (ℕ × Bytes)) [ None ↦ None | Some v ↦ Some (f.stamp, v) ]

-- the value at a stamp, whatever was collected: bytes with the stamp of their put, or nothing
abbrev pub value_at : List Entry → Addr → ℕ → Option (ℕ × Bytes)
value_at log a s = stamped_bytes (found_at s (versions_of (story a log).puts))

-- the actor of an entry, and 0 for the first one
abbrev pub number_of : Entry → ℕ
number_of (Made m) = 0
number_of (Open k c x) = k
number_of (Shut k) = k
number_of (Read k a s answer) = k
number_of (Alloc t r v placed) = t.actor
number_of (Lock t a r new answer) = t.actor
number_of (Check t a r w answer) = t.actor
number_of (Put t a w) = t.actor
number_of (Unlock t a) = t.actor
number_of (Collect k f removed) = k
