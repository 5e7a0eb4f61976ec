-- What the steps of a call on a tree say.
use Rattle.std.specs.Prelude.{◌≡◌, ◌⊎◌, ℕ, suc, ◌+◌, ◌-◌, ◌<◌, ◌^◌, ◌≤◌, Bool, true, false, List, [], ◌∷◌, ◌++◌, length, map, Option, Some, None, Result, Ok, Err, ⊤}
use Rattle.std.specs.List.{AllByRecursion}
use Rattle.a1_base.specs.Lists.{IsAmong}
use Rattle.a1_base.specs.declared.place.Addr.{Addr}
use Rattle.object_view.specs.Agreement.{State}
use Rattle.object_view.specs.declared.parts.PartFault.{PartFault}
use Rattle.object_view.specs.declared.parts.PartFault.TheVariants as part
use Rattle.object_view.specs.Layout.{Entry, IsEntry, entries, addr_of, word_of, node_bytes, anchor_bytes}
use Rattle.object_view.specs.Keys.{Bound, UpTo}
use Rattle.object_view.specs.Keys.{lookup, inserted, removed}
use Rattle.object_view.specs.Trees.{Branch, Item, spell, homes, contents, places, Ways, Node, Stand, Distinct, IsRooted}
use Rattle.object_btree.specs.Levels.{Ahead, Full, TooTall}
use Rattle.object_btree.specs.declared.nodes.Split.{Split}
use Rattle.object_btree.specs.declared.insertion.Put.{Put}
use Rattle.object_btree.specs.declared.removal.Taken.{Taken}

-- where a key stands among entries: those before it, those from it on, and its word
pub record Place (k : List ℕ) (es : List Entry) (front : List ℕ) (back : List ℕ) (found : Option ℕ) : Type 0 where
  pub low : List Entry
  pub high : List Entry
  pub front_is : front ≡ entries low
  pub back_is : back ≡ entries high
  pub result : (v : ℕ) → inserted k v es ≡ low ++ record { key = k; word = v } ∷ high
  pub gone : removed k es ≡ low ++ high
  pub old : found ≡ lookup k es

-- how far a scan for that has come
pub record Scan (k : List ℕ) (es : List Entry) (bytes rest : List ℕ) : Type 0 where
  pub low : List Entry
  pub left : List Entry
  pub fits : AllByRecursion IsEntry left
  pub rest_is : rest ≡ entries left
  pub bytes_are : bytes ≡ entries low ++ rest
  pub result : (v : ℕ) → inserted k v es ≡ low ++ inserted k v left
  pub gone : removed k es ≡ low ++ removed k left
  pub old : lookup k es ≡ lookup k left

-- the first key is at most k
abbrev pub Begins : List ℕ → List Entry → Type 0
Begins k [] = ⊥
Begins k (e ∷ es) = UpTo (Some e.key) (Some k)

-- the last entry whose key is at most k: front has it and those before it, back those behind it
pub record Route (k : List ℕ) (es : List Entry) (front : List ℕ) (word : ℕ) (back : List ℕ) : Type 0 where
  pub low : List Entry
  pub here : Entry
  pub high : List Entry
  pub are : es ≡ low ++ here ∷ high
  pub word_is : word ≡ here.word
  pub from : UpTo (Some here.key) (Some k)
  pub ahead : Ahead k high
  pub front_is : front ≡ entries (low ++ here ∷ [])
  pub back_is : back ≡ entries high

abbrev pub LastOf : List ℕ → List Entry → Option ℕ → Type 0
LastOf k low None = low ≡ []
LastOf k low (Some w) = (before : List Entry) × (e : Entry) × (low ≡ before ++ e ∷ []) × (w ≡ e.word) × UpTo
    (Some e.key) (Some k)

pub record Passed (k : List ℕ) (es : List Entry) (bytes rest : List ℕ) (found : Option ℕ) : Type 0 where
  pub low : List Entry
  pub left : List Entry
  pub fits : AllByRecursion IsEntry left
  pub are : es ≡ low ++ left
  pub rest_is : rest ≡ entries left
  pub bytes_are : bytes ≡ entries low ++ rest
  pub last : LastOf k low found

-- a node's entries put at its place, or in two halves, the right one at a new place
pub record Halved (R : Addr → Bool) (s t : State) (owner : ℕ) (at : Addr) (es : List Entry) (more : Split) : Type 0
  where
    pub left : List Entry
    pub here : Entry
    pub right : List Entry
    pub over : 32 < length es
    pub are : es ≡ left ++ here ∷ right
    pub key_is : more.key ≡ here.key
    pub left_at : t at ≡ Some (node_bytes owner left)
    pub right_at : t (addr_of more.word) ≡ Some (node_bytes owner (here ∷ right))
    pub left_many : 16 ≤ length left
    pub left_few : length left ≤ 32
    pub right_many : 16 ≤ length (here ∷ right)
    pub right_few : length (here ∷ right) ≤ 32
    pub word_fits : more.word < 2 ^ 64
    pub reached : R (addr_of more.word) ≡ true
    pub fresh : s (addr_of more.word) ≡ None
    pub frame : (b : Addr) → (b ≡ at → ⊥) → (b ≡ addr_of more.word → ⊥) → t b ≡ s b

pub record Whole (s t : State) (owner : ℕ) (at : Addr) (es : List Entry) : Type 0 where
  pub here : t at ≡ Some (node_bytes owner es)
  pub few : length es ≤ 32
  pub frame : (b : Addr) → (b ≡ at → ⊥) → t b ≡ s b

abbrev pub Packed : (Addr → Bool) → State → State → ℕ → Addr → List Entry → Option Split → Type 0
Packed R s t owner at es None = Whole s t owner at es
Packed R s t owner at es (Some more) = Halved R s t owner at es more

-- one branch or two
abbrev pub Shape : (Addr → Bool) → State → ℕ → ℕ → (d : ℕ) → List ℕ → ℕ → Option Split → List (Branch (Item d)) → Type 0
Shape R t owner least d key word None new =
    (items : List (Item d)) × (new ≡ record { key = key; word = word; items = items } ∷ []) × Node R t owner least
    (addr_of word) (map (spell d) items) × Stand R t owner d items
Shape R t owner least d key word (Some m) new =
    (left : List (Item d)) × (right : List (Item d))
    × (new ≡ record { key = key; word = word; items = left } ∷ record { key = m.key; word = m.word; items = right }
    ∷ []) × Stand R t owner (suc d) new × IsEntry (record { key = m.key; word = m.word })

-- a branch gave way to one or two
pub record Grown (R : Addr → Bool) (s t : State) (owner least d : ℕ) (lo hi : Bound) (key : List ℕ) (word : ℕ)
    (old : List Addr) (want : List Entry) (more : Option Split) : Type 0 where
  pub new : List (Branch (Item d))
  pub ways : Ways (suc d) lo new hi
  pub shape : Shape R t owner least d key word more new
  pub content : contents (suc d) new ≡ want
  pub distinct : Distinct (places (suc d) new)
  pub keeps : (a : Addr) → IsAmong a old → IsAmong a (places (suc d) new)
  pub fresh : (a : Addr) → IsAmong a (places (suc d) new) → IsAmong a old ⊎ (s a ≡ None)
  pub frame : (a : Addr) → (IsAmong a (places (suc d) new) → ⊥) → t a ≡ s a

-- what an insertion below a branch says
pub record Inserts (R : Addr → Bool) (s t : State) (owner least d : ℕ) (lo : Bound) (b : Branch (Item d)) (hi : Bound)
    (k : List ℕ) (v : ℕ) (put : Put) : Type 0 where
  pub grown : Grown R s t owner least d lo hi b.key b.word (homes (suc d) b) (inserted k v (contents d b.items))
      put.more
  pub full : (m : Split) → put.more ≡ Some m → Full d k b.items
  pub old : put.old ≡ lookup k (contents d b.items)

-- a tree with these pairs, on those places and on places where nothing stood
pub record TreeGrown (R : Addr → Bool) (s t : State) (anchor : Addr) (owner : ℕ) (old : List Addr)
    (want : List Entry) : Type 0 where
  pub d : ℕ
  pub b : Branch (Item d)
  pub tree : IsRooted R t anchor owner d b
  pub content : contents d b.items ≡ want
  pub keeps : (a : Addr) → IsAmong a old → IsAmong a (homes (suc d) b)
  pub fresh : (a : Addr) → IsAmong a (homes (suc d) b) → IsAmong a old ⊎ (s a ≡ None)
  pub frame : (a : Addr) → (a ≡ anchor → ⊥) → (IsAmong a (homes (suc d) b) → ⊥) → t a ≡ s a

-- what an insertion into a tree says
abbrev pub TreePut : (Addr → Bool) → State → State → Addr → ℕ → (d : ℕ) → Branch (Item d) → List ℕ → ℕ
    → Result (Option ℕ) PartFault → Type 0
TreePut R s t anchor owner d b k v (Ok old) =
    TreeGrown R s t anchor owner (homes (suc d) b) (inserted k v (contents d b.items))
    × (old ≡ lookup k (contents d b.items))
TreePut R s t anchor owner d b k v (Err part.Memory) = ⊤
TreePut R s t anchor owner d b k v (Err (part.Spent n)) = ⊤
TreePut R s t anchor owner d b k v (Err (part.Torn a)) = ⊥
TreePut R s t anchor owner d b k v (Err part.Tall) = TooTall d b k

-- a new root above the two halves of the old one
pub record NewRoot (R : Addr → Bool) (s t : State) (anchor : Addr) (owner root height : ℕ) (key : List ℕ)
    (word : ℕ) : Type 0 where
  pub at : ℕ
  pub fits : at < 2 ^ 64
  pub reached : R (addr_of at) ≡ true
  pub fresh : s (addr_of at) ≡ None
  pub node : t (addr_of at) ≡ Some
      (node_bytes (word_of anchor) (record { key = []; word = root } ∷ record { key = key; word = word } ∷ []))
  pub bytes : t anchor ≡ Some (anchor_bytes owner at (height + 1))
  pub frame : (a : Addr) → (a ≡ anchor → ⊥) → (a ≡ addr_of at → ⊥) → t a ≡ s a

-- a branch after a removal below it; thin: its node may have an entry too few
pub record Shrunk (R : Addr → Bool) (s t : State) (owner least d : ℕ) (lo : Bound) (b : Branch (Item d)) (hi : Bound)
    (want : List Entry) (thin : Bool) : Type 0 where
  pub items : List (Item d)
  pub ways : Ways d lo items hi
  pub node : Node R t owner 0 (addr_of b.word) (map (spell d) items)
  pub loose : least ≤ length (map (spell d) items) + 1
  pub firm : thin ≡ false → least ≤ length (map (spell d) items)
  pub stand : Stand R t owner d items
  pub content : contents d items ≡ want
  pub distinct : Distinct (addr_of b.word ∷ places d items)
  pub within : (a : Addr) → IsAmong a (places d items) → IsAmong a (places d b.items)
  pub frame : (a : Addr) → (IsAmong a (homes (suc d) b) → ⊥) → t a ≡ s a
  pub gone : (a : Addr) → IsAmong a (homes (suc d) b) → (IsAmong a (addr_of b.word ∷ places d items) → ⊥) → t a ≡ None

pub record Removes (R : Addr → Bool) (s t : State) (owner least d : ℕ) (lo : Bound) (b : Branch (Item d)) (hi : Bound)
    (k : List ℕ) (taken : Taken) : Type 0 where
  pub shrunk : Shrunk R s t owner least d lo b hi (removed k (contents d b.items)) taken.thin
  pub old : taken.old ≡ lookup k (contents d b.items)

-- the right one went into the left one
pub record Merged (u t : State) (owner : ℕ) (at a b : Addr) (low : List Entry) (e : Entry) (high both : List Entry)
    (thin : Bool) : Type 0 where
  pub few : length both ≤ 32
  pub left_at : t a ≡ Some (node_bytes owner both)
  pub right_at : t b ≡ None
  pub above_at : t at ≡ Some (node_bytes owner (low ++ e ∷ high))
  pub frame : (x : Addr) → (x ≡ at → ⊥) → (x ≡ a → ⊥) → (x ≡ b → ⊥) → t x ≡ u x
  pub firm : thin ≡ false → 16 ≤ length (low ++ e ∷ high)

-- they shared their entries anew
pub record Shared (u t : State) (owner : ℕ) (at a b : Addr) (word : ℕ) (low : List Entry) (e : Entry)
    (high both : List Entry) (thin : Bool) : Type 0 where
  pub left : List Entry
  pub here : Entry
  pub right : List Entry
  pub are : both ≡ left ++ here ∷ right
  pub left_at : t a ≡ Some (node_bytes owner left)
  pub right_at : t b ≡ Some (node_bytes owner (here ∷ right))
  pub above_at : t at ≡ Some (node_bytes owner (low ++ e ∷ record { key = here.key; word = word } ∷ high))
  pub left_many : 16 ≤ length left
  pub left_few : length left ≤ 32
  pub right_many : 16 ≤ length (here ∷ right)
  pub right_few : length (here ∷ right) ≤ 32
  pub frame : (x : Addr) → (x ≡ at → ⊥) → (x ≡ a → ⊥) → (x ≡ b → ⊥) → t x ≡ u x
  pub firm : thin ≡ false → 16 ≤ length (low ++ e ∷ record { key = here.key; word = word } ∷ high)

-- a leaf without a key
pub record LeafTaken (s t : State) (owner : ℕ) (at : Addr) (k : List ℕ) (es : List Entry) (taken : Taken) : Type 0 where
  pub here : s at ≡ Some (node_bytes owner es) → t at ≡ Some (node_bytes owner (removed k es))
  pub old : taken.old ≡ lookup k es
  pub firm : taken.thin ≡ false → (removed k es ≡ es) ⊎ (16 ≤ length (removed k es))
  pub frame : (b : Addr) → (b ≡ at → ⊥) → t b ≡ s b

pub record MergedAt (u t : State) (owner : ℕ) (at a b : Addr) (es xs : List Entry) (thin : Bool) : Type 0 where
  pub left_at : t a ≡ Some (node_bytes owner xs)
  pub right_at : t b ≡ None
  pub above_at : t at ≡ Some (node_bytes owner es)
  pub frame : (x : Addr) → (x ≡ at → ⊥) → (x ≡ a → ⊥) → (x ≡ b → ⊥) → t x ≡ u x
  pub firm : thin ≡ false → 16 ≤ length es

pub record SharedAt (u t : State) (owner : ℕ) (at a b : Addr) (low : List Entry) (word : ℕ) (high both : List Entry)
    (thin : Bool) : Type 0 where
  pub left : List Entry
  pub here : Entry
  pub right : List Entry
  pub are : both ≡ left ++ here ∷ right
  pub left_at : t a ≡ Some (node_bytes owner left)
  pub right_at : t b ≡ Some (node_bytes owner (here ∷ right))
  pub above_at : t at ≡ Some (node_bytes owner (low ++ record { key = here.key; word = word } ∷ high))
  pub left_many : 16 ≤ length left
  pub left_few : length left ≤ 32
  pub right_many : 16 ≤ length (here ∷ right)
  pub right_few : length (here ∷ right) ≤ 32
  pub frame : (x : Addr) → (x ≡ at → ⊥) → (x ≡ a → ⊥) → (x ≡ b → ⊥) → t x ≡ u x
  pub firm : thin ≡ false → 16 ≤ length (low ++ record { key = here.key; word = word } ∷ high)

-- two neighbours and the node above them, before
pub record PairAt (R : Addr → Bool) (u : State) (owner : ℕ) (at a b : Addr) (xs ys : List Entry) : Type 0 where
  pub left_at : u a ≡ Some (node_bytes owner xs)
  pub right_at : u b ≡ Some (node_bytes owner ys)
  pub above : R at ≡ true
  pub above_at : u at ≡ None → ⊥
  pub left_reached : R a ≡ true
  pub right_reached : R b ≡ true
  pub left_fits : AllByRecursion IsEntry xs
  pub right_fits : AllByRecursion IsEntry ys
  pub many : 31 ≤ length xs + length ys
  pub few : length xs + length ys ≤ 64
  pub other : a ≡ b → ⊥
  pub left_other : a ≡ at → ⊥
  pub right_other : b ≡ at → ⊥

abbrev pub JoinedAt : State → State → ℕ → Addr → Addr → Addr → List Entry → List ℕ → ℕ → ℕ → List Entry → List Entry
    → List Entry → Bool → Type 0
JoinedAt u t owner at a b low key left right high xs ys thin =
    ((length (xs ++ ys) ≤ 32) × MergedAt u t owner at a b (low ++ record { key = key; word = left } ∷ high) (xs ++ ys)
    thin)
    ⊎ SharedAt u t owner at a b (low ++ record { key = key; word = left } ∷ []) right high (xs ++ ys) thin

-- what the anchor and the old root become
pub record Lowered (u t : State) (anchor root : Addr) (owner word height : ℕ) : Type 0 where
  pub bytes : t anchor ≡ Some (anchor_bytes owner word height)
  pub gone : t root ≡ None
  pub frame : (a : Addr) → (a ≡ anchor → ⊥) → (a ≡ root → ⊥) → t a ≡ u a

-- a root's node, with at least one entry, and its anchor
pub record RootAt (R : Addr → Bool) (u : State) (anchor root : Addr) (es : List Entry) : Type 0 where
  pub reached : R anchor ≡ true
  pub stands : u anchor ≡ None → ⊥
  pub root_reached : R root ≡ true
  pub bytes : u root ≡ Some (node_bytes (word_of anchor) es)
  pub fits : AllByRecursion IsEntry es
  pub some : 1 ≤ length es
  pub other : root ≡ anchor → ⊥

-- it stays where it has two, and gives way to its child where it has one
pub record LowerOne (u t : State) (anchor root : Addr) (owner height : ℕ) (es : List Entry) : Type 0 where
  pub one : Entry
  pub are : es ≡ one ∷ []
  pub lowered : Lowered u t anchor root owner one.word (height - 1)

abbrev pub LowerAt : State → State → Addr → Addr → ℕ → ℕ → List Entry → Type 0
LowerAt u t anchor root owner height es = ((2 ≤ length es) × (t ≡ u)) ⊎ LowerOne u t anchor root owner height es

-- a tree with these pairs, on some of those places; the others are empty
pub record TreeShrunk (R : Addr → Bool) (s t : State) (anchor : Addr) (owner : ℕ) (old : List Addr)
    (want : List Entry) : Type 0 where
  pub d : ℕ
  pub b : Branch (Item d)
  pub tree : IsRooted R t anchor owner d b
  pub content : contents d b.items ≡ want
  pub within : (a : Addr) → IsAmong a (homes (suc d) b) → IsAmong a old
  pub frame : (a : Addr) → (a ≡ anchor → ⊥) → (IsAmong a old → ⊥) → t a ≡ s a
  pub gone : (a : Addr) → (a ≡ anchor → ⊥) → IsAmong a old → (IsAmong a (homes (suc d) b) → ⊥) → t a ≡ None

-- what a removal from a tree says
pub record TreeTaken (R : Addr → Bool) (s t : State) (anchor : Addr) (owner d : ℕ) (b : Branch (Item d)) (k : List ℕ)
    (old : Option ℕ) : Type 0 where
  pub shrunk : TreeShrunk R s t anchor owner (homes (suc d) b) (removed k (contents d b.items))
  pub old_is : old ≡ lookup k (contents d b.items)

-- a new tree without pairs, at two places where nothing stood
pub record Created (R : Addr → Bool) (s t : State) (anchor : Addr) (owner : ℕ) : Type 0 where
  pub word : ℕ
  pub tree : IsRooted R t anchor owner 0 (record { key = []; word = word; items = [] })
  pub fresh : s anchor ≡ None
  pub root_fresh : s (addr_of word) ≡ None
  pub frame : (a : Addr) → (a ≡ anchor → ⊥) → (a ≡ addr_of word → ⊥) → t a ≡ s a
