-- Which nodes of a tree a call meets on its way down.
use Rattle.std.specs.Prelude.{◌≡◌, ◌⊎◌, ℕ, zero, suc, ◌-◌, ◌<◌, List, [], ◌∷◌, ◌++◌, length, map, Some, None, ⊤}
use Rattle.a1_base.specs.declared.place.Addr.{Addr}
use Rattle.object_view.specs.Agreement.{State}
use Rattle.object_view.specs.Keys.{UpTo, Below, lookup}
use Rattle.object_view.specs.Layout.{Entry, addr_of}
use Rattle.object_view.specs.Trees.{Branch, Item, IsTree, contents, spell}
use Rattle.object_btree.specs.Intervals.{between}

-- the first key, where there is one, is above k
abbrev pub Ahead : List ℕ → List Entry → Type 0
Ahead k [] = ⊤
Ahead k (e ∷ es) = Below k (Some e.key)

-- every node on the way to the key has 32 entries, and the key is not there
abbrev pub Full : (d : ℕ) → List ℕ → List (Item d) → Type 0
Full zero k es = (length es ≡ 32) × (lookup k es ≡ None)
Full (suc d) k bs = (length bs ≡ 32) × (low : List (Branch (Item d))) × (b : Branch (Item d))
    × (high : List (Branch (Item d))) × (bs ≡ low ++ b ∷ high) × UpTo (Some b.key) (Some k)
    × Ahead k (map (spell (suc d)) high) × Full d k b.items

-- the tree has 16 levels, and no node on the key's way has room: a 17th would be needed
pub record TooTall (d : ℕ) (root : Branch (Item d)) (k : List ℕ) : Type 0 where
  pub tall : d ≡ 15
  pub full : Full d k root.items

pub record TallAt (nodes : ℕ) (s : State) (anchor owner : Addr) (pairs : List Entry) (at : List Addr)
    (k : List ℕ) : Type 0 where
  pub tree : IsTree nodes s anchor owner pairs at
  pub tall : TooTall tree.height tree.root k

-- the nodes below these items in which pairs from a key to a key may stand that are among the first so many: the node
-- begins below the end, the next one begins above the start, and fewer than so many such pairs stand before it
abbrev pub Visits : (d : ℕ) → List ℕ → List ℕ → ℕ → List (Item d) → Addr → Type 0
Visits zero from to limit es at = ⊥
Visits (suc d) from to limit bs at = (low : List (Branch (Item d))) × (b : Branch (Item d))
    × (high : List (Branch (Item d))) × (bs ≡ low ++ b ∷ high)
    × (length (between from to (contents (suc d) low)) < limit) × Below b.key (Some to)
    × Ahead from (map (spell (suc d)) high)
    × ((at ≡ addr_of b.word) ⊎ Visits d from to (limit - length (between from to (contents (suc d) low))) b.items at)

-- what a range reads of a tree: the anchor, the root, and those nodes below it
abbrev pub RangeReads : Addr → (d : ℕ) → Branch (Item d) → List ℕ → List ℕ → ℕ → Addr → Type 0
RangeReads anchor d root from to limit at =
    (at ≡ anchor) ⊎ (at ≡ addr_of root.word) ⊎ Visits d from to limit root.items at
