-- The places of a node: which regions are made, which places are taken, and which place comes next.
use Rattle.std.specs.Prelude.{◌≡◌, ℕ, ◌+◌, ◌*◌, ◌<◌, Bool, true, false, cond, not, ◌==◌, nat_lt, ◌||◌, ◌&&◌, List, [], ◌∷◌, ◌⊎◌}
use Rattle.std.specs.Ordering.{nat_cmp, ordering_then, is_eq}
use Rattle.std.specs.declared.cmp.Ordering.{Ordering}
use Rattle.a1_base.specs.declared.place.Addr.{Addr}
use Rattle.a1_base.specs.declared.limits.TheConstants.{REGION_WIDTH, REGION_LIMIT}
use Rattle.a1_base.specs.Lists.{IsAmong}

-- how many places a region has
unfoldable pub width : ℕ
width = REGION_WIDTH

-- how many regions a node has
unfoldable pub region_count : ℕ
region_count = REGION_LIMIT

-- by region, then by offset
abbrev pub addr_order : Addr → Addr → Ordering
addr_order a b = ordering_then (nat_cmp a.region b.region) (nat_cmp a.offset b.offset)

abbrev pub same_addr : Addr → Addr → Bool
same_addr a b = is_eq (addr_order a b)

-- into a rising list, once
abbrev pub add_region : ℕ → List ℕ → List ℕ
add_region n [] = n ∷ []
add_region n (m ∷ ms) = cond (n == m) (m ∷ ms) (cond (nat_lt n m) (n ∷ (m ∷ ms)) (m ∷ add_region n ms))

-- of node number `node` of `nodes`: the regions in which a place was ever taken, by rising number, and the taken places
pub record Occupancy : Type 0 where
  pub node : ℕ
  pub nodes : ℕ
  pub regions : List ℕ
  pub taken : Addr → Bool

-- nothing is taken yet
abbrev pub vacant : ℕ → ℕ → Occupancy
vacant node nodes = record { node = node; nodes = nodes; regions = []; taken = λ a. false }

-- a place of the node: it has the regions node, node + nodes, node + 2 * nodes and so on
abbrev pub IsPlace : Occupancy → Addr → Type 0
IsPlace o a = ((k : ℕ) × (k < region_count) × (a.region ≡ o.node + k * o.nodes)) × (a.offset < width)

abbrev pub IsFree : Occupancy → Addr → Type 0
IsFree o a = o.taken a ≡ false

-- it lies in a made region, and each place of the made regions before it is taken
pub record LeastOfMade (o : Occupancy) (a : Addr) : Type 0 where
  pub region_made : IsAmong a.region o.regions
  pub below_taken : (b : Addr) → IsAmong b.region o.regions → b.offset < width
      → (b.region < a.region) ⊎ ((b.region ≡ a.region) × (b.offset < a.offset)) → o.taken b ≡ true

-- no made region has a free place: it is the first place of the lowest region that is not made
pub record FirstOfNext (o : Occupancy) (a : Addr) : Type 0 where
  pub all_taken : (b : Addr) → IsAmong b.region o.regions → b.offset < width → o.taken b ≡ true
  pub not_made : IsAmong a.region o.regions → ⊥
  pub lower_made : (k : ℕ) → o.node + k * o.nodes < a.region → IsAmong (o.node + k * o.nodes) o.regions
  pub first : a.offset ≡ 0

-- the place that comes next: the least free one of the made regions, else the first of the lowest region not made
pub record LeastFree (o : Occupancy) (a : Addr) : Type 0 where
  pub place : IsPlace o a
  pub free : IsFree o a
  pub least : LeastOfMade o a ⊎ FirstOfNext o a

-- every place of every region of the node is taken
abbrev pub IsSpent : Occupancy → Type 0
IsSpent o = (a : Addr) → IsPlace o a → o.taken a ≡ true

-- with this place taken, by which its region is made
abbrev pub with_place : Addr → Occupancy → Occupancy
with_place a o = record o { regions = add_region a.region o.regions; taken = λ b. same_addr a b || o.taken b }

-- with this place given back; its region stays made
abbrev pub without_place : Addr → Occupancy → Occupancy
without_place a o = record o { taken = λ b. not (same_addr a b) && o.taken b }

abbrev pub IsBelow : ℕ → List ℕ → Type 0
IsBelow n [] = Unit {0}
IsBelow n (m ∷ ms) = (n < m) × IsBelow n ms

-- each is below those behind it
abbrev pub Rises : List ℕ → Type 0
Rises [] = Unit {0}
Rises (n ∷ ns) = IsBelow n ns × Rises ns

-- what holds of the places of a node at all times
pub record IsOccupancy (o : Occupancy) : Type 0 where
  pub rising : Rises o.regions
  pub placed : (a : Addr) → o.taken a ≡ true → IsAmong a.region o.regions × (a.offset < width)
