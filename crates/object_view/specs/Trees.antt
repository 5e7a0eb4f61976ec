-- A tree of objects: an ordered map from keys to words, in nodes of 16 to 32 entries. A tree is first a plain value,
-- whose type goes by its height; a record says that it stands in a state.
use Rattle.std.specs.Prelude.{◌≡◌, ℕ, zero, suc, ◌%◌, ◌<◌, ◌^◌, ◌≤◌, Bool, true, ◌==◌, List, [], ◌∷◌, length, map, Some, None, ⊤}
use Rattle.std.specs.List.{AllByRecursion, flat_map}
use Rattle.a1_base.specs.Lists.{IsAmong}
use Rattle.a1_base.specs.declared.place.Addr.{Addr}
use Rattle.object_view.specs.Agreement.{State}
use Rattle.object_view.specs.Layout.{Entry, IsEntry, addr_of, word_of, node_bytes, anchor_bytes}
use Rattle.object_view.specs.Keys.{Bound, UpTo, Below, Path}
use Rattle.object_view.specs.Parts.{Moves}

-- a subtree below an inner node: its lower bound, its node's address as a word, and what stands in that node
pub record Branch (A : Type 0) : Type 0 where
  pub key : List ℕ
  pub word : ℕ
  pub items : List A

-- what a node of this height lists: pairs in a leaf, branches above
abbrev pub Item : ℕ → Type 0
Item zero = Entry
Item (suc d) = Branch (Item d)

-- an item as the node's entry
abbrev pub spell : (d : ℕ) → Item d → Entry
spell zero e = e
spell (suc d) b = record { key = b.key; word = b.word }

-- the pairs of an item, in order
abbrev pub content : (d : ℕ) → Item d → List Entry
content zero e = e ∷ []
content (suc d) b = flat_map (content d) b.items

-- the addresses of the nodes of an item
abbrev pub homes : (d : ℕ) → Item d → List Addr
homes zero e = []
homes (suc d) b = addr_of b.word ∷ flat_map (homes d) b.items

-- pairs leave gaps, branches none
abbrev pub Gap : ℕ → Bound → Bound → Type 0
Gap zero lo hi = UpTo lo hi
Gap (suc d) lo hi = lo ≡ hi

-- an item takes the keys between two bounds
abbrev pub Spans : (d : ℕ) → Bound → Item d → Bound → Type 0
Spans zero lo e hi = UpTo lo (Some e.key) × Below e.key hi
Spans (suc d) lo b hi = (lo ≡ Some b.key) × Path (Gap d) (Spans d) lo b.items hi

-- at the address, which is one of those that the tree may take, stands a node of this owner with these entries, at
-- least so many and at most 32
pub record Node (reaches : Addr → Bool) (s : State) (owner least : ℕ) (at : Addr) (es : List Entry) : Type 0 where
  pub reached : reaches at ≡ true
  pub bytes : s at ≡ Some (node_bytes owner es)
  pub fits : AllByRecursion IsEntry es
  pub many : least ≤ length es
  pub few : length es ≤ 32

-- a pair has a key of at least one byte; a branch's node stands, 16 to 32 entries in it, and so on below
abbrev pub Stands : (Addr → Bool) → State → ℕ → (d : ℕ) → Item d → Type 0
Stands R s owner zero e = 1 ≤ length e.key
Stands R s owner (suc d) b = Node R s owner 16 (addr_of b.word) (map (spell d) b.items) ×
    AllByRecursion (Stands R s owner d) b.items

-- the same of a list of items
abbrev pub Ways : (d : ℕ) → Bound → List (Item d) → Bound → Type 0
Ways d lo xs hi = Path (Gap d) (Spans d) lo xs hi

abbrev pub contents : (d : ℕ) → List (Item d) → List Entry
contents d xs = flat_map (content d) xs

abbrev pub places : (d : ℕ) → List (Item d) → List Addr
places d xs = flat_map (homes d) xs

abbrev pub Stand : (Addr → Bool) → State → ℕ → (d : ℕ) → List (Item d) → Type 0
Stand R s owner d xs = AllByRecursion (Stands R s owner d) xs

abbrev pub Distinct : List Addr → Type 0
Distinct [] = ⊤
Distinct (a ∷ bs) = (IsAmong a bs → ⊥) × Distinct bs

-- a branch stands between two bounds, with at least so many entries in its own node
pub record Sub (R : Addr → Bool) (s : State) (owner least d : ℕ) (lo : Bound) (b : Branch (Item d))
    (hi : Bound) : Type 0 where
  pub spans : Spans (suc d) lo b hi
  pub node : Node R s owner least (addr_of b.word) (map (spell d) b.items)
  pub stand : Stand R s owner d b.items
  pub distinct : Distinct (homes (suc d) b)

-- the root may have fewer entries
abbrev pub root_least : ℕ → ℕ
root_least zero = 0
root_least (suc d) = 2

-- an anchor, and below it a tree of at most 16 levels
pub record IsRooted (R : Addr → Bool) (s : State) (anchor : Addr) (owner d : ℕ) (b : Branch (Item d)) : Type 0 where
  pub owner_fits : owner < 2 ^ 64
  pub root_fits : b.word < 2 ^ 64
  pub low : d ≤ 15
  pub reached : R anchor ≡ true
  pub bytes : s anchor ≡ Some (anchor_bytes owner b.word d)
  pub sub : Sub R s (word_of anchor) (root_least d) d (Some []) b None
  pub apart : IsAmong anchor (homes (suc d) b) → ⊥

-- the addresses of a node of the heap, of so many nodes
abbrev pub is_on : ℕ → ℕ → Addr → Bool
is_on nodes node a = (a.region % nodes) == node

-- in the state stands the tree of this anchor and owner; these are its pairs by rising key, and these are the places
-- of its anchor and its nodes, all on one node of the heap
pub record IsTree (nodes : ℕ) (s : State) (anchor owner : Addr) (pairs : List Entry) (at : List Addr) : Type 0 where
  pub height : ℕ
  pub root : Branch (Item height)
  pub rooted : IsRooted (is_on nodes (anchor.region % nodes)) s anchor (word_of owner) height root
  pub pairs_are : pairs ≡ contents height root.items
  pub places_are : at ≡ anchor ∷ homes (suc height) root

-- from a state to another: the tree came to stand with these pairs, on the old places, less those that were freed, with
-- fresh ones
pub record Becomes (nodes : ℕ) (s t : State) (anchor owner : Addr) (at : List Addr) (pairs : List Entry) : Type 0 where
  pub now : List Addr
  pub tree : IsTree nodes t anchor owner pairs now
  pub moves : Moves s t at now
