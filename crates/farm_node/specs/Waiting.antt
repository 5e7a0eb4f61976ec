-- What waits for collections, as contracts see it, and which cells have to.
use Rattle.std.specs.Prelude.{◌≡◌, ℕ, ◌==◌, Bool, true, cond, not, ◌&&◌, ◌||◌, List, [], ◌∷◌, Option, Some, None}
use Rattle.std.specs.List.{list_any, sum_by}
use Rattle.std.specs.BTreeMap.{BTreeMap, values}
use Rattle.std.specs.Ordering.{nat_cmp, ordering_then}
use Rattle.std.specs.declared.cmp.Ordering.{Ordering}
use Rattle.std.specs.declared.cmp.Reverse.{Reverse}
use Rattle.a1_base.specs.declared.place.Addr.{Addr}
use Rattle.object_region.specs.Occupancy.{addr_order, same_addr}
use Rattle.version_chain.specs.Versions.{Version, newest}
use Rattle.farm_node.specs.Cell.{Cell, is_open, is_newest_absent}

abbrev pub is_mark : ℕ → Addr → ℕ → Addr → Bool
is_mark s a n b = (s == n) && same_addr a b

abbrev pub Mark : Type 0
Mark = Reverse (ℕ × Addr)

-- the least stamp comes first
abbrev pub mark_order : Mark → Mark → Ordering
mark_order x y = ordering_then (nat_cmp y.0.0 x.0.0) (addr_order y.0.1 x.0.1)

abbrev pub listed_in : List Mark → ℕ → Addr → Bool
listed_in marks n b = list_any (λ m. is_mark m.0.0 m.0.1 n b) marks

-- what waits, each with the stamp that the floor has to reach; how many they are; and the places reserved for more
pub record Waits : Type 0 where
  pub marks : List Mark
  pub count : ℕ
  pub reserved : ℕ

-- the address waits for the floor to reach the stamp
abbrev pub marked : Waits → ℕ → Addr → Bool
marked w = listed_in w.marks

-- each version but the oldest waits for the floor to reach its stamp, from which on the older ones go
abbrev pub olds_wait : (ℕ → Bool) → List Version → Bool
olds_wait listed [] = true
olds_wait listed (v ∷ []) = true
olds_wait listed (v ∷ (u ∷ vs)) = listed v.0 && olds_wait listed (u ∷ vs)

-- and a newest version that is absent does, from which on the object goes
abbrev pub absent_waits : (ℕ → Bool) → List Version → Bool
absent_waits listed vs = not (is_newest_absent vs) || listed (newest vs)

abbrev pub waits_there : (ℕ → Bool) → Option Cell → Bool
waits_there listed None = true
waits_there listed (Some c) = olds_wait listed c.versions && absent_waits listed c.versions

-- whatever a collection will remove something of waits for the floor from which on it does
abbrev pub IsTracked : (Addr → Option Cell) → (ℕ → Addr → Bool) → Type 0
IsTracked cells listed = (a : Addr) → waits_there (λ s. listed s a) (cells a) ≡ true

-- how many objects are locked

abbrev pub held_in : Cell → ℕ
held_in c = cond (is_open c.lock) 0 1

abbrev pub held_there : Option Cell → ℕ
held_there None = 0
held_there (Some c) = held_in c

abbrev pub lock_count : BTreeMap Addr Cell → ℕ
lock_count objects = sum_by held_in (values objects)
