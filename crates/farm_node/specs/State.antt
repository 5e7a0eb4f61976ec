-- What a node's fields stand for, and what holds of them at all times.
use Rattle.std.specs.Prelude.{◌≡◌, ℕ, ◌+◌, max, Bool, true, false, not, cond, ◌||◌, List, [], ◌∷◌, Option, Some, None, slice_index_or, is_some}
use Rattle.std.specs.BTreeMap.{BTreeMap, get}
use Rattle.a1_base.specs.declared.place.Addr.{Addr}
use Rattle.a1_base.specs.declared.place.TxnId.{TxnId}
use Rattle.object_region.specs.Occupancy.{addr_order, add_region, Occupancy, IsPlace}
use Rattle.version_chain.specs.Versions.{Version}
use Rattle.farm_node.specs.declared.hold.Hold.{Hold}
use Rattle.farm_node.specs.declared.swept.Swept.{Swept}
use Rattle.farm_node.specs.Cell.{Bytes, Cell, same_txn, found_at, is_absent, is_gone, pending_of, loaded_cell, locked_by, goes, collected, past_collected, versions_in}
use Rattle.farm_node.specs.NodeState.{NodeState, set_cell, occupancy}

-- the cell at each address
abbrev pub cells_of : BTreeMap Addr Cell → Addr → Option Cell
cells_of objects a = get addr_order objects a

-- the state of the fields
abbrev pub plain_from : (Addr → Option Cell) → Occupancy → List (Option ℕ) → ℕ → ℕ → ℕ → NodeState
plain_from cells places pins past floor actors = record {
  cells = cells;
  regions = places.regions;
  pins = λ k. slice_index_or pins k None;
  past = past;
  floor = floor;
  node = places.node;
  nodes = places.nodes;
  actors = actors;
}

-- a place is taken where an object is there
abbrev pub AgreesWith : (Addr → Option Cell) → Occupancy → Type 0
AgreesWith cells places = (a : Addr) → places.taken a ≡ is_some (cells a)

-- an object more, by which its region is made
abbrev pub with_cell : Addr → Cell → NodeState → NodeState
with_cell a c p = record p { cells = set_cell a (Some c) p.cells; regions = add_region a.region p.regions }

-- a lock that is given
abbrev pub with_lock : Addr → TxnId → Option Bytes → NodeState → NodeState
with_lock a t new p = record p { cells = set_cell a (locked_by t new (p.cells a)) p.cells }

-- objects loaded one after another, each with one version at the stamp of the start, which is the floor until the
-- first collection
abbrev pub with_objects : NodeState → List (Addr × Bytes) → NodeState
with_objects p [] = p
with_objects p (x ∷ xs) = with_objects (with_cell x.0 (loaded_cell p.floor x.1) p) xs

-- each object has a place of the node that is free when its turn comes, so no place stands twice
abbrev pub CanLoad : NodeState → List (Addr × Bytes) → Type 0
CanLoad p [] = Unit {0}
CanLoad p (x ∷ xs) =
    IsPlace (occupancy p) x.0 × (p.cells x.0 ≡ None) × CanLoad (with_cell x.0 (loaded_cell p.floor x.1) p) xs

-- what the node has of an address
abbrev pub versions_there : Option Cell → List Version
versions_there None = []
versions_there (Some c) = c.versions

-- an object without a version
abbrev pub is_new : Option Cell → Bool
is_new None = false
is_new (Some c) = elim c.versions as (λ _. Bool) [ [] ↦ true | v ∷ vs ↦ false ]

-- a put leaves something to collect once the floor has reached its stamp: an older version, or an absent one
abbrev pub leaves_old : Cell → Bool
leaves_old c = not (is_new (Some c)) || is_absent (pending_of c.lock)

-- the transaction has the lock
abbrev pub has_lock : TxnId → Option Hold → Bool
has_lock t None = false
has_lock t (Some h) = same_txn h.by t

-- and of what is at an address
abbrev pub holds_there : TxnId → Option Cell → Bool
holds_there t None = false
holds_there t (Some c) = has_lock t c.lock

-- there is a value at r
abbrev pub has_value : ℕ → Cell → Bool
has_value r c = is_some (found_at r c.versions).value

-- the transaction may ask for the lock
abbrev pub may_lock : TxnId → ℕ → Option Cell → Bool
may_lock t r None = false
may_lock t r (Some c) = cond (has_lock t c.lock) (is_new (Some c)) (has_value r c)

-- without the object there; past rises to its bound
abbrev pub given_back : Addr → NodeState → NodeState
given_back a p = elim (p.cells a) as (λ _. NodeState) [
  | None ↦ p
  | Some c ↦ record p { cells = set_cell a None p.cells; past = max p.past c.bound }
]

-- collecting at one address

abbrev pub goes_there : ℕ → Option Cell → Bool
goes_there floor None = false
goes_there floor (Some c) = goes floor c

abbrev pub bound_there : Option Cell → ℕ
bound_there None = 0
bound_there (Some c) = c.bound

abbrev pub past_with : Option ℕ → ℕ → ℕ
past_with None past = past
past_with (Some bound) past = max bound past

-- what was removed of what was at an address: how many versions, and the bound of an object that went, as each does
-- whose newest version is absent and at most the floor
pub record SweepsCell (floor : ℕ) (c : Option Cell) (swept : Swept) : Type 0 where
  pub versions : swept.versions + versions_in (collected floor c) ≡ versions_in c
  pub gone : swept.gone ≡ cond (goes_there floor c) (Some (bound_there c)) None
  pub whole : is_gone floor (versions_there c) ≡ goes_there floor c

-- a state in which one address was collected
abbrev pub collected_at : ℕ → Addr → NodeState → NodeState
collected_at floor a p = record p {
  cells = set_cell a (collected floor (p.cells a)) p.cells;
  past = past_collected floor (p.cells a) p.past;
}

-- the next address that waits was collected, or nothing is left to collect
abbrev pub SweepsNext : ℕ → NodeState → Option Swept → NodeState → Type 0
SweepsNext floor p None q = (q ≡ p) × ((a : Addr) → collected floor (p.cells a) ≡ p.cells a)
SweepsNext floor p (Some swept) q = (a : Addr) × (q ≡ collected_at floor a p)
    × (swept.versions + versions_in (q.cells a) ≡ versions_in (p.cells a))
    × (is_some swept.gone ≡ goes_there floor (p.cells a))
