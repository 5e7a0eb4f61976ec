-- A node's plain state, which entries are lawful there, what each leaves, and the replay of a list of entries.
use Rattle.std.specs.Prelude.{◌≡◌, ℕ, zero, suc, ◌+◌, ◌-◌, ◌^◌, ◌<◌, ◌≤◌, ◌==◌, max, min, cond, List, [], ◌∷◌, Option, Some, None, Result, Ok, Err, is_some, ◌⊎◌}
use Rattle.a1_base.specs.declared.place.Addr.{Addr}
use Rattle.a1_base.specs.declared.limits.TheConstants.{NODE_LIMIT}
use Rattle.a1_base.specs.Stamps.{IsStamp}
use Rattle.a1_base.specs.declared.place.TxnId.{TxnId}
use Rattle.object_region.specs.Occupancy.{width, same_addr, add_region, Occupancy, IsPlace, LeastFree}
use Rattle.farm_node.specs.declared.hold.Hold.{Hold}
use Rattle.farm_node.specs.declared.entry.Start.{Start}
use Rattle.farm_node.specs.declared.entry.Locked.{Locked}
use Rattle.farm_node.specs.declared.entry.Collected.{Collected}
use Rattle.farm_node.specs.declared.entry.CheckFault.{CheckFault}
use Rattle.farm_node.specs.declared.entry.Entry.{Entry}
use Rattle.farm_node.specs.declared.entry.Entry.TheVariants.{Made, Open, Shut, Read, Alloc, Lock, Check, Put, Unlock, Collect}
use Rattle.farm_node.specs.Cell.{Bytes, Cell, found_at, read_answer, raised_to, past_raised, made_by, loaded_cell, locked_by, lock_answer, check_answer, installed, released, past_released, collected, past_collected, objects_in, versions_in}

-- what is at each address, the regions in which a place was ever taken, by rising number, and the pin of each actor.
-- past bars puts at addresses without an object as bound does at the others; floor is that of the last collection
pub record NodeState : Type 0 where
  pub cells : Addr → Option Cell
  pub regions : List ℕ
  pub pins : ℕ → Option ℕ
  pub past : ℕ
  pub floor : ℕ
  pub node : ℕ
  pub nodes : ℕ
  pub actors : ℕ

-- a place is taken where an object is there
abbrev pub occupancy : NodeState → Occupancy
occupancy p = record { node = p.node; nodes = p.nodes; regions = p.regions; taken = λ a. is_some (p.cells a) }

-- the cells with this one at b
abbrev pub set_cell : Addr → Option Cell → (Addr → Option Cell) → Addr → Option Cell
set_cell b c cells a = cond (same_addr b a) c (cells a)

abbrev pub set_pin : ℕ → Option ℕ → (ℕ → Option ℕ) → ℕ → Option ℕ
set_pin k x pins j = cond (k == j) x (pins j)

-- all places of some regions

abbrev pub places_in : ℕ → ℕ → List Addr → List Addr
places_in region zero more = more
places_in region (suc n) more = record { region = region; offset = n } ∷ places_in region n more

-- of all regions
abbrev pub places : List ℕ → List Addr
places [] = []
places (r ∷ rs) = places_in r width (places rs)

abbrev pub total : (Option Cell → ℕ) → (Addr → Option Cell) → List Addr → ℕ
total count cells [] = 0
total count cells (a ∷ rest) = count (cells a) + total count cells rest

-- how many objects and versions the node has
abbrev pub object_count : NodeState → ℕ
object_count p = total objects_in p.cells (places p.regions)

abbrev pub version_count : NodeState → ℕ
version_count p = total versions_in p.cells (places p.regions)

-- collection

-- the lesser of a pin, where there is one, and a stamp
abbrev pub lesser : Option ℕ → ℕ → ℕ
lesser None least = least
lesser (Some pin) least = min pin least

-- the least of a proposal and the pins of the actors 1 to n
abbrev pub least_pin : ℕ → (ℕ → Option ℕ) → ℕ → ℕ
least_pin f pins zero = f
least_pin f pins (suc n) = lesser (pins (suc n)) (least_pin f pins n)

-- never below the old floor
abbrev pub new_floor : NodeState → ℕ → ℕ
new_floor p f = max p.floor (least_pin f p.pins p.actors)

abbrev pub cells_collected : ℕ → (Addr → Option Cell) → Addr → Option Cell
cells_collected floor cells a = collected floor (cells a)

-- the greatest of past and the bounds of all that goes
abbrev pub past_over : ℕ → (Addr → Option Cell) → List Addr → ℕ → ℕ
past_over floor cells [] past = past
past_over floor cells (a ∷ rest) past = past_collected floor (cells a) (past_over floor cells rest past)

abbrev pub after_collect : ℕ → NodeState → NodeState
after_collect floor p = record p {
  cells = cells_collected floor p.cells;
  past = past_over floor p.cells (places p.regions) p.past;
  floor = floor;
}

-- a count of versions stands still at the end of its type
abbrev pub counted : ℕ → ℕ
counted n = min n (2 ^ 64 - 1)

-- the numbers removed are those before less those after
abbrev pub collect_answer : NodeState → ℕ → Collected
collect_answer p f =
    let floor = new_floor p f in
    let later = after_collect floor p in
    record {
      floor = floor;
      versions = counted (version_count p - version_count later);
      objects = object_count p - object_count later;
    }

-- conditions

-- the actor has a pin, and it is at most s
abbrev pub PinnedBy : NodeState → ℕ → ℕ → Type 0
PinnedBy p k s = (x : ℕ) × (p.pins k ≡ Some x) × (x ≤ s)

-- the transaction has the lock
abbrev pub HeldBy : NodeState → TxnId → Addr → Type 0
HeldBy p t a = (c : Cell) × (h : Hold) × (p.cells a ≡ Some c) × (c.lock ≡ Some h) × (h.by ≡ t)

-- it still has the lock from its own Alloc
abbrev pub HeldNew : NodeState → TxnId → Addr → Type 0
HeldNew p t a = (c : Cell) × (h : Hold) × (p.cells a ≡ Some c) × (c.lock ≡ Some h) × (h.by ≡ t) × (c.versions ≡ [])

-- the address has a value at r
abbrev pub HasValue : NodeState → Addr → ℕ → Type 0
HasValue p a r = (c : Cell) × (v : Bytes) × (p.cells a ≡ Some c) × ((found_at r c.versions).value ≡ Some v)

-- a lock may be asked for where there is a value at r, and the transaction does not hold it or holds it from its own
-- Alloc
abbrev pub MayLock : NodeState → TxnId → Addr → ℕ → Type 0
MayLock p t a r = (HasValue p a r × (HeldBy p t a → ⊥)) ⊎ HeldNew p t a

-- a put has to exceed the bound
abbrev pub MayPut : NodeState → TxnId → Addr → ℕ → Type 0
MayPut p t a w = (c : Cell) × (h : Hold) × (p.cells a ≡ Some c) × (c.lock ≡ Some h) × (h.by ≡ t) × (c.bound < w)

-- a lock may be asked for, and its answer is the one that is due
pub record FitsLock (p : NodeState) (t : TxnId) (a : Addr) (r : ℕ) (answer : Result Locked CheckFault) : Type 0 where
  pub pinned : PinnedBy p t.actor r
  pub stamp : IsStamp r
  pub may : MayLock p t a r
  pub due : answer ≡ lock_answer t r (p.cells a)

-- and so may a check
pub record FitsCheck (p : NodeState) (t : TxnId) (a : Addr) (r w : ℕ) (answer : Result (Unit {0}) CheckFault)
    : Type 0 where
  pub pinned : PinnedBy p t.actor r
  pub stamps : IsStamp r × IsStamp w
  pub not_own : HeldBy p t a → ⊥
  pub due : answer ≡ check_answer r (p.cells a)

-- the entry meets its condition, and its answer is the one that is due
abbrev pub Fits : NodeState → Entry → Type 0
Fits p (Made start) = ⊥
Fits p (Open k c x) = (0 < k) × (k ≤ p.actors) × (p.pins k ≡ None) × IsStamp c × (x ≡ max c p.floor)
Fits p (Shut k) = (x : ℕ) × (p.pins k ≡ Some x)
Fits p (Read k a s answer) = PinnedBy p k s × IsStamp s × (answer ≡ read_answer s (p.cells a))
Fits p (Alloc t r v placed) =
    PinnedBy p t.actor r × IsStamp r × LeastFree (occupancy p) placed.at × (placed.bound ≡ max p.past r)
Fits p (Lock t a r new answer) = FitsLock p t a r answer
Fits p (Check t a r w answer) = FitsCheck p t a r w answer
Fits p (Put t a w) = MayPut p t a w × IsStamp w
Fits p (Unlock t a) = HeldBy p t a
Fits p (Collect k f removed) = (0 < k) × IsStamp f × (removed ≡ collect_answer p f)

-- an address was read, or checked and found the same, at s
abbrev pub looked_at : Addr → ℕ → NodeState → NodeState
looked_at a s p =
    record p { cells = set_cell a (raised_to s (p.cells a)) p.cells; past = past_raised s (p.cells a) p.past }

-- the state that an entry leaves
abbrev pub after : NodeState → Entry → NodeState
after p (Made start) = p
after p (Open k c x) = record p { pins = set_pin k (Some x) p.pins }
after p (Shut k) = record p { pins = set_pin k None p.pins }
after p (Read k a s (Ok found)) = looked_at a s p
after p (Read k a s (Err by)) = p
after p (Alloc t r v placed) = record p {
  cells = set_cell placed.at (Some (made_by t v placed.bound)) p.cells;
  regions = add_region placed.at.region p.regions;
}
after p (Lock t a r new (Ok locked)) = record p { cells = set_cell a (locked_by t new (p.cells a)) p.cells }
after p (Lock t a r new (Err fault)) = p
after p (Check t a r w (Ok same)) = looked_at a w p
after p (Check t a r w (Err fault)) = p
after p (Put t a w) = record p { cells = set_cell a (installed w (p.cells a)) p.cells }
after p (Unlock t a) =
    record p { cells = set_cell a (released (p.cells a)) p.cells; past = past_released (p.cells a) p.past }
after p (Collect k f removed) = after_collect (new_floor p f) p

-- the beginning

-- the loaded objects at their addresses
abbrev pub loaded_cells : ℕ → List (Addr × Bytes) → Addr → Option Cell
loaded_cells stamp [] a = None
loaded_cells stamp (x ∷ xs) a = cond (same_addr x.0 a) (Some (loaded_cell stamp x.1)) (loaded_cells stamp xs a)

abbrev pub loaded_regions : List (Addr × Bytes) → List ℕ
loaded_regions [] = []
loaded_regions (x ∷ xs) = add_region x.0.region (loaded_regions xs)

-- the state that a node begins with
abbrev pub begun : Start → NodeState
begun m = record {
  cells = loaded_cells m.stamp m.heap;
  regions = loaded_regions m.heap;
  pins = λ k. None;
  past = m.stamp;
  floor = m.stamp;
  node = m.node;
  nodes = m.nodes;
  actors = m.actors;
}

-- each loaded place is the node's, and none stands twice
abbrev pub Loads : Start → List (Addr × Bytes) → Type 0
Loads m [] = Unit {0}
Loads m (x ∷ xs) = IsPlace (occupancy (begun m)) x.0 × (loaded_cells m.stamp xs x.0 ≡ None) × Loads m xs

-- a node can begin so
abbrev pub IsStart : Start → Type 0
IsStart m = (m.node < m.nodes) × (m.nodes ≤ NODE_LIMIT) × (0 < m.stamp) × IsStamp m.stamp × Loads m m.heap

-- the replay of a list, and the lists that are lawful

-- the state that entries lead to
abbrev pub replay_from : NodeState → List Entry → NodeState
replay_from p [] = p
replay_from p (e ∷ es) = replay_from (after p e) es

-- each entry meets its condition in the state behind those before it
abbrev pub LawfulFrom : NodeState → List Entry → Type 0
LawfulFrom p [] = Unit {0}
LawfulFrom p (e ∷ es) = Fits p e × LawfulFrom (after p e) es

-- the state of a list that is none of a node
abbrev pub nowhere : NodeState
nowhere =
    record { cells = λ a. None; regions = []; pins = λ k. None; past = 0; floor = 0; node = 0; nodes = 1; actors = 0 }

-- the state that a list leads to
abbrev pub replay : List Entry → NodeState
replay [] = nowhere
replay (Made m ∷ es) = replay_from (begun m) es
replay (e ∷ es) = nowhere

-- it begins with its only Made, and each further entry meets its condition in the replay of those before it
abbrev pub Lawful : List Entry → Type 0
Lawful [] = ⊥
Lawful (Made m ∷ es) = IsStart m × LawfulFrom (begun m) es
Lawful (e ∷ es) = ⊥

-- a state with one lawful entry more
pub record Adds (old : NodeState) (e : Entry) (new : NodeState) : Type 0 where
  pub fits : Fits old e
  pub state : new ≡ after old e
