-- What it means that a vertex, a record, a list of half-edges or an index stands in a state, and on which places.
use Rattle.std.specs.Prelude.{◌≡◌, ◌⊎◌, ℕ, zero, ◌%◌, ◌<◌, ◌≤◌, ◌^◌, Bool, true, false, List, [], ◌∷◌, length, map, Option, Some, None, option_map}
use Rattle.std.specs.List.{AllByRecursion}
use Rattle.a1_base.specs.Lists.{IsAmong}
use Rattle.a1_base.specs.declared.place.Addr.{Addr}
use Rattle.a1_base.specs.declared.limits.TheConstants.{SHORT_LIST_LIMIT, SHORT_LIST_AGAIN}
use Rattle.object_view.specs.Agreement.{State}
use Rattle.object_view.specs.Layout.{Entry, addr_of}
use Rattle.object_view.specs.Keys.{compare, by_order, lookup}
use Rattle.object_view.specs.Parts.{Moves}
use Rattle.object_view.specs.Trees.{IsTree, Ways}
use Rattle.type_schema.specs.declared.objects.Header.{Header}
use Rattle.type_schema.specs.declared.objects.Half.{Half}
use Rattle.type_schema.specs.Formed.{IsRecord}
use Rattle.type_schema.specs.Schemas.{Record}
use Rattle.type_schema.specs.Objects.{IsAddr, IsHeader, header_bytes, body_bytes, IsHalf, half_key, half_entry, short_bytes, long_bytes, IndexRow, IsIndexRow, index_entry}

-- two states have the same on these places
abbrev pub SameOn : State → State → List Addr → Type 0
SameOn s t places = (a : Addr) → IsAmong a places → t a ≡ s a

-- ---- vertices and records

-- at the address stands the header of a vertex of this graph; all its objects lie on one node of the heap
pub record IsVertex (nodes : ℕ) (s : State) (at graph : Addr) (fields : Header) : Type 0 where
  pub bytes : s at ≡ Some (header_bytes graph fields)
  pub self : IsAddr at
  pub graph_fits : IsAddr graph
  pub fit : IsHeader fields
  pub body_near : fields.body.region % nodes ≡ at.region % nodes
  pub out_near : fields.out.region % nodes ≡ at.region % nodes
  pub into_near : fields.into.region % nodes ≡ at.region % nodes

-- at the address stands this record, of this kind and owner
pub record IsBody (s : State) (kind : ℕ) (at owner : Addr) (values : Record) : Type 0 where
  pub bytes : s at ≡ Some (body_bytes kind owner values)
  pub owner_fits : IsAddr owner
  pub fit : IsRecord values

-- the list that a header names: of its outgoing or its incoming half-edges
abbrev pub list_at : Bool → Header → Addr
list_at true h = h.out
list_at false h = h.into

-- ---- lists of half-edges

-- by rising key
abbrev pub Rising : List Entry → Type 0
Rising es = Ways zero (Some []) es None

-- one object has the half-edges
pub record IsShort (s : State) (at owner : Addr) (halves : List Half) (places : List Addr) : Type 0 where
  pub bytes : s at ≡ Some (short_bytes owner (map half_entry halves))
  pub few : length halves ≤ SHORT_LIST_LIMIT
  pub places_are : places ≡ at ∷ []

-- one object names a tree that has them
pub record IsLong (nodes : ℕ) (s : State) (at owner : Addr) (halves : List Half) (places : List Addr) : Type 0 where
  pub anchor : Addr
  pub below : List Addr
  pub bytes : s at ≡ Some (long_bytes owner (length halves) anchor)
  pub many : SHORT_LIST_AGAIN < length halves
  pub count : length halves < 2 ^ 64
  pub anchor_fits : IsAddr anchor
  pub near : anchor.region % nodes ≡ at.region % nodes
  pub tree : IsTree nodes s anchor at (map half_entry halves) below
  pub apart : IsAmong at below → ⊥
  pub places_are : places ≡ at ∷ below

-- in the state stands a list of this owner with these half-edges, each kind and far header once, by rising key, on these
-- places, all on the node of its owner
pub record IsList (nodes : ℕ) (s : State) (at owner : Addr) (halves : List Half) (places : List Addr) : Type 0 where
  pub self : IsAddr at
  pub owner_fits : IsAddr owner
  pub near : at.region % nodes ≡ owner.region % nodes
  pub fit : AllByRecursion IsHalf halves
  pub rising : Rising (map half_entry halves)
  pub form : IsShort s at owner halves places ⊎ IsLong nodes s at owner halves places

-- the half-edge of a kind and a far header
abbrev pub half_of : ℕ → Addr → ℕ → Half
half_of kind far word = record { kind = kind; far = far; body = addr_of word }

abbrev pub half_at : ℕ → Addr → List Half → Option Half
half_at kind far halves = option_map (half_of kind far) (lookup (half_key kind far) (map half_entry halves))

-- with one more, at its place
abbrev pub with_half : Half → List Half → List Half
with_half h [] = h ∷ []
with_half h (x ∷ xs) = by_order (compare (half_key x.kind x.far) (half_key h.kind h.far)) (x ∷ with_half h xs) (h ∷ xs)
    (h ∷ x ∷ xs)

-- without that of a kind and a far header
abbrev pub without_half : ℕ → Addr → List Half → List Half
without_half kind far [] = []
without_half kind far (x ∷ xs) = by_order (compare (half_key x.kind x.far) (half_key kind far))
    (x ∷ without_half kind far xs) xs (x ∷ xs)

-- those behind a kind and a far header
abbrev pub halves_behind : ℕ → Addr → List Half → List Half
halves_behind kind far [] = []
halves_behind kind far (x ∷ xs) = by_order (compare (half_key x.kind x.far) (half_key kind far))
    (halves_behind kind far xs) xs (x ∷ xs)

-- from a state to another: the list came to stand with these half-edges, on the old places, less those that were freed,
-- with fresh ones
pub record ListBecomes (nodes : ℕ) (s t : State) (at owner : Addr) (places : List Addr) (halves : List Half) : Type 0 where
  pub now : List Addr
  pub list : IsList nodes t at owner halves now
  pub moves : Moves s t places now

-- ---- indexes

-- in the state stands an index of this anchor and owner with these rows, by rising value and key, on these places
pub record IsIndex (nodes : ℕ) (s : State) (anchor owner : Addr) (rows : List IndexRow) (places : List Addr) : Type 0 where
  pub fit : AllByRecursion IsIndexRow rows
  pub tree : IsTree nodes s anchor owner (map index_entry rows) places
