-- What a transaction sees and will write, over all nodes.
use Rattle.std.specs.Prelude.{◌≡◌, ℕ, cond, List, [], ◌∷◌, ◌++◌, Option, Some, None, map, get_or, set, slice_get}
use Rattle.a1_base.specs.declared.place.Addr.{Addr}
use Rattle.object_region.specs.Occupancy.{same_addr}
use Rattle.farm_node.specs.declared.entry.Found.{Found}
use Rattle.write_set.specs.declared.set.Write.{Write}
use Rattle.transaction_part.specs.declared.part.Part.{Part}
use Rattle.transaction_part.specs.declared.part.Seen.{Seen}
use Rattle.transaction_part.specs.Part.{MayWrite, written}
use Rattle.farm_commit.specs.declared.actor.Open.{Open}
use Rattle.farm_commit.specs.declared.farm.Farm.{Farm}
use Rattle.farm_commit.specs.Farms.{id_of}
use Rattle.farm_commit.specs.Nodes.{home}

-- what will be written at each node, in the order of the nodes
abbrev pub rows : List Part → List (List Write)
rows parts = map written parts

-- the write of an address, if it is written
abbrev pub write_at : List Write → Addr → Option Write
write_at [] a = None
write_at (w ∷ ws) a = cond (same_addr w.at a) (Some w) (write_at ws a)

-- among those of its node
abbrev pub overlay : ℕ → List (List Write) → Addr → Option Write
overlay nodes all a = write_at (get_or all (home nodes a) []) a

-- an own write is answered with the stamp 0, and is not noted; anything else is noted as what was answered
abbrev pub ReadTells : Option Write → Addr → List Seen → List Seen → Found → Type 0
ReadTells (Some w) a old new found = (new ≡ old) × (found.stamp ≡ 0) × (found.value ≡ w.value)
ReadTells None a old new found = (s : Seen) × (s.at ≡ a) × (s.found.value ≡ found) × (new ≡ old ++ s ∷ [])

-- the writes of one node changed, and those of no other
abbrev pub Rewrites : ℕ → (List Write → List Write → Type 0) → List (List Write) → List (List Write) → Type 0
Rewrites n P old new = (ws : List Write) × P (get_or old n []) ws × (new ≡ set old n ws)

-- all but parts and reads stays
pub record SameTxn (old new : Open) : Type 0 where
  pub number : new.number ≡ old.number
  pub begun : new.begun ≡ old.begun
  pub read_stamp : new.read_stamp ≡ old.read_stamp
  pub seat : new.seat ≡ old.seat

-- an object may be written that the transaction wrote before, or where it read bytes
abbrev pub MayWriteAt : Farm → Open → Addr → Type 0
MayWriteAt farm txn a = (p : Part) → slice_get txn.parts.items (home farm.nodes a) ≡ Some p
    → MayWrite (id_of txn) txn.read_stamp p a
