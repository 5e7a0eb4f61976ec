-- What contracts see of the places of a node, and what is kept of the regions.
use Rattle.std.specs.Prelude.{◌≡◌, ℕ, ◌+◌, ◌*◌, ◌<◌, ◌≤◌, nat_eq, Bool, true, false, List, length, map, Option, Some, None, IsSome, IfSome}
use Rattle.std.specs.Ordering.{nat_cmp}
use Rattle.std.specs.List.{IsDistinct, list_any, count_by}
use Rattle.std.specs.Map.{lookup, keys_of, values_of}
use Rattle.std.specs.BTreeMap.{is_at}
use Rattle.std.specs.BinaryHeap.{IsHeap}
use Rattle.std.specs.declared.cmp.Reverse.{Reverse}
use Rattle.a1_base.specs.declared.limits.TheConstants.{NODE_LIMIT}
use Rattle.object_region.specs.declared.places.Made.{Made}
use Rattle.object_region.specs.Flags.{is_taken, IsFull}
use Rattle.object_region.specs.Occupancy.{Occupancy, region_count, add_region}

-- of node number `node` of `nodes`: the made regions by rising number
pub record Regions : Type 0 where
  pub node : ℕ
  pub nodes : ℕ
  pub made : List (ℕ × Made)

-- the made region of this number
abbrev pub made_at : List (ℕ × Made) → ℕ → Option Made
made_at made region = lookup (is_at (nat_cmp region)) made

abbrev pub taken_in : Option Made → ℕ → Bool
taken_in None offset = false
taken_in (Some m) offset = is_taken m.region offset

abbrev pub listed_in : Option Made → Bool
listed_in None = false
listed_in (Some m) = m.listed

-- how many made regions are listed
abbrev pub listed_count : List (ℕ × Made) → ℕ
listed_count made = count_by (λ m. m.listed) (values_of made)

-- which regions are made, and which places are taken
abbrev pub occupancy_of : Regions → Occupancy
occupancy_of r = record {
  node = r.node;
  nodes = r.nodes;
  regions = keys_of r.made;
  taken = λ a. taken_in (made_at r.made a.region) a.offset;
}

-- with this region made
abbrev pub with_region : ℕ → Occupancy → Occupancy
with_region region o = record o { regions = add_region region o.regions }

-- a region of the node
abbrev pub IsRegion : ℕ → ℕ → ℕ → Type 0
IsRegion node nodes region = (k : ℕ) × (k < region_count) × (region ≡ node + k * nodes)

-- if the region is made, its places are taken
abbrev pub IsFullAt : List (ℕ × Made) → ℕ → Type 0
IsFullAt made region = IfSome (made_at made region) (λ m. IsFull m.region)

-- it is a region of the node and the first that is listed, and the made regions before it are full
pub record IsLowestListed (r : Regions) (region : ℕ) : Type 0 where
  pub of_node : IsRegion r.node r.nodes region
  pub listed : listed_in (made_at r.made region) ≡ true
  pub least : (q : ℕ) → listed_in (made_at r.made q) ≡ true → region ≤ q
  pub before_full : (q : ℕ) → q < region → IsFullAt r.made q

-- it is a region of the node and not made, and those before it are made
pub record IsLowestUnmade (r : Regions) (region : ℕ) : Type 0 where
  pub of_node : IsRegion r.node r.nodes region
  pub unmade : made_at r.made region ≡ None
  pub before_made : (k : ℕ) → r.node + k * r.nodes < region → IsSome (made_at r.made (r.node + k * r.nodes))

-- the numbers in a heap that has the lowest first
abbrev pub numbers : List (Reverse ℕ) → List ℕ
numbers xs = map (λ x. x.0) xs

-- what is kept of the regions: a heap has the number of each listed one, once, and room for the numbers of all; each
-- one that is not listed is full; and the first `next` regions of the node are made
pub record IsKept (node nodes next : ℕ) (made : List (ℕ × Made)) (open_regions : List (Reverse ℕ)) (room : ℕ)
    : Type 0 where
  pub some_node : node < nodes
  pub few_nodes : nodes ≤ NODE_LIMIT
  pub within : next ≤ region_count
  pub below_made : (k : ℕ) → k < next → IsSome (made_at made (node + k * nodes))
  pub of_node : (q : ℕ) → IsSome (made_at made q) → IsRegion node nodes q
  pub unlisted_full : (q : ℕ) → IfSome (made_at made q) (λ m. m.listed ≡ false → IsFull m.region)
  pub once : IsDistinct nat_eq (numbers open_regions)
  pub listed : (q : ℕ) → list_any (nat_eq q) (numbers open_regions) ≡ listed_in (made_at made q)
  pub lowest_first : IsHeap (λ x y. nat_cmp y.0 x.0) open_regions
  pub roomy : length made ≤ room
