-- What is at one address: the versions of its object, its bound and its lock, and what events make of them.
use Rattle.std.specs.Prelude.{◌≡◌, ℕ, ◌≤◌, ◌==◌, nat_le, nat_lt, max, cond, Bool, true, false, ◌&&◌, List, [], ◌∷◌, length, Option, Some, None, Result, Ok, Err}
use Rattle.a1_base.specs.declared.place.TxnId.{TxnId}
use Rattle.version_chain.specs.Versions.{Version, Versions, version_at, newest, cut}
use Rattle.farm_node.specs.declared.hold.Hold.{Hold}
use Rattle.farm_node.specs.declared.entry.Found.{Found}
use Rattle.farm_node.specs.declared.entry.Locked.{Locked}
use Rattle.farm_node.specs.declared.entry.CheckFault.{CheckFault}
use Rattle.farm_node.specs.declared.entry.CheckFault.TheVariants.{Held, Changed}

-- a value is a list of bytes
abbrev pub Bytes : Type 0
Bytes = List ℕ

-- the versions, the newest first; the stamp that the next put has to exceed; the lock.
-- An object without a version is one that the holder of its lock made
pub record Cell : Type 0 where
  pub versions : List Version
  pub bound : ℕ
  pub lock : Option Hold

-- whether nobody has the lock
abbrev pub is_open : Option Hold → Bool
is_open None = true
is_open (Some h) = false

abbrev pub is_absent : Option Bytes → Bool
is_absent None = true
is_absent (Some x) = false

abbrev pub is_newest_absent : List Version → Bool
is_newest_absent [] = false
is_newest_absent (v ∷ vs) = is_absent v.1

-- what holds of each cell of a node: its newest version is at most its bound; while it is locked its chain has a place
-- for what the lock will install, and its newest version is a value, since a lock is given for a value alone
pub record IsCell (chain : Versions) (bound : ℕ) (lock : Option Hold) : Type 0 where
  pub below : newest chain.versions ≤ bound
  pub room : is_open lock ≡ false → chain.reserved ≡ true
  pub valued : is_open lock ≡ false → is_newest_absent chain.versions ≡ false

-- whether two transactions are one
abbrev pub same_txn : TxnId → TxnId → Bool
same_txn t u = (t.actor == u.actor) && (t.number == u.number)

-- what stands at a stamp

abbrev pub found_of : Option Version → Found
found_of None = record { stamp = 0; value = None }
found_of (Some v) = record { stamp = v.0; value = v.1 }

-- the newest version at most s; absent, with the stamp 0, where there is none
abbrev pub found_at : ℕ → List Version → Found
found_at s vs = found_of (version_at s vs)

-- a read at s: Held only where the address is locked and no version is above s
abbrev pub read_answer : ℕ → Option Cell → Result Found TxnId
read_answer s None = Ok (found_of None)
read_answer s (Some c) = elim c.lock as (λ _. Result Found TxnId) [
  | None ↦ Ok (found_at s c.versions)
  | Some h ↦ cond (nat_lt s (newest c.versions)) (Ok (found_at s c.versions)) (Err h.by)
]

-- what a read or a check at s leaves: a bound of at least s, or a past of at least s where there is no object

-- what a look at s leaves of an object
abbrev pub raised_to : ℕ → Option Cell → Option Cell
raised_to s None = None
raised_to s (Some c) = Some (record c { bound = max c.bound s })

-- and what it leaves of past
abbrev pub past_raised : ℕ → Option Cell → ℕ → ℕ
past_raised s None past = max past s
past_raised s (Some c) past = past

-- locks

-- a new object, locked by the transaction that makes it
abbrev pub made_by : TxnId → Bytes → ℕ → Cell
made_by t bytes bound = record { versions = []; bound = bound; lock = Some (record { by = t; pending = Some bytes }) }

-- a loaded object: one version at the stamp of the start
abbrev pub loaded_cell : ℕ → Bytes → Cell
loaded_cell stamp bytes = record { versions = (stamp, Some bytes) ∷ []; bound = stamp; lock = None }

-- a lock that is given
abbrev pub locked_by : TxnId → Option Bytes → Option Cell → Option Cell
locked_by t new None = None
locked_by t new (Some c) = Some (record c { lock = Some (record { by = t; pending = new }) })

-- Changed where the newest version is above r, else what the lock or the check gives
abbrev pub unless_changed : {X : Type 0} → ℕ → Cell → X → Result X CheckFault
unless_changed r c x =
    cond (nat_lt r (newest c.versions)) (Err (Changed (found_at r c.versions).stamp (newest c.versions))) (Ok x)

abbrev pub lock_given : ℕ → ℕ → Locked
lock_given seen bound = record { seen = seen; bound = bound }

-- a lock: Held where another holds it, else Changed where the newest version is above r, else given. What the
-- transaction holds from its own Alloc it may lock again
abbrev pub lock_answer : TxnId → ℕ → Option Cell → Result Locked CheckFault
lock_answer t r None = Ok (lock_given 0 0)
lock_answer t r (Some c) = elim c.lock as (λ _. Result Locked CheckFault) [
  | None ↦ unless_changed r c (lock_given (newest c.versions) c.bound)
  | Some h ↦ cond (same_txn h.by t) (Ok (lock_given 0 c.bound)) (Err (Held h.by))
]

-- a check of what the transaction does not hold: Held where another does, else Changed as above, else the same
abbrev pub check_answer : ℕ → Option Cell → Result (Unit {0}) CheckFault
check_answer r None = Ok tt
check_answer r (Some c) = elim c.lock as (λ _. Result (Unit {0}) CheckFault) [
  | None ↦ unless_changed r c tt
  | Some h ↦ Err (Held h.by)
]

abbrev pub pending_of : Option Hold → Option Bytes
pending_of None = None
pending_of (Some h) = h.pending

-- a put at w: the pending value is the newest version, the lock goes, and the bound is w
abbrev pub installed : ℕ → Option Cell → Option Cell
installed w None = None
installed w (Some c) = Some (record { versions = (w, pending_of c.lock) ∷ c.versions; bound = w; lock = None })

-- an unlock: an object that has no version is given back, and past rises to its bound

-- what an unlock leaves
abbrev pub released : Option Cell → Option Cell
released None = None
released (Some c) = elim c.versions as (λ _. Option Cell) [ [] ↦ None | v ∷ vs ↦ Some (record c { lock = None }) ]

-- and of past
abbrev pub past_released : Option Cell → ℕ → ℕ
past_released None past = past
past_released (Some c) past = elim c.versions as (λ _. ℕ) [ [] ↦ max past c.bound | v ∷ vs ↦ past ]

-- a collection at a floor

-- the newest version is absent and at most the floor
abbrev pub is_gone : ℕ → List Version → Bool
is_gone floor [] = false
is_gone floor (v ∷ vs) = nat_le v.0 floor && is_absent v.1

-- an unlocked object whose newest version is absent and at most the floor goes whole
abbrev pub goes : ℕ → Cell → Bool
goes floor c = is_open c.lock && is_gone floor c.versions

-- what a collection at the floor leaves
abbrev pub collected : ℕ → Option Cell → Option Cell
collected floor None = None
collected floor (Some c) = cond (goes floor c) None (Some (record c { versions = cut floor c.versions }))

-- past rises to the bound of what goes
abbrev pub past_collected : ℕ → Option Cell → ℕ → ℕ
past_collected floor None past = past
past_collected floor (Some c) past = cond (goes floor c) (max c.bound past) past

-- how many objects and versions are there

abbrev pub objects_in : Option Cell → ℕ
objects_in None = 0
objects_in (Some c) = 1

abbrev pub versions_in : Option Cell → ℕ
versions_in None = 0
versions_in (Some c) = length c.versions
