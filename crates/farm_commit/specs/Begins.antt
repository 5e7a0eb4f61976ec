-- What a begin tells.
use Rattle.std.specs.Prelude.{◌≡◌, ℕ, ◌+◌, ◌-◌, ◌^◌, ◌≤◌, min, [], ◌∷◌}
use Rattle.farm_node.specs.declared.entry.Entry.TheVariants.{Open}
use Rattle.snapshot_stamps.specs.declared.watch.Watch.{Watch}
use Rattle.snapshot_stamps.specs.Seats.{watch}
use Rattle.snapshot_stamps.specs.Watched.{Learned, Sees}
use Rattle.transaction_part.specs.declared.part.Part.{Part}
use Rattle.transaction_part.specs.Part.{log, written}
use Rattle.transaction_part.specs.Stories.{Went}
use Rattle.farm_commit.specs.declared.farm.Farm.{Farm}
use Rattle.farm_commit.specs.declared.actor.Actor.{Actor}
use Rattle.farm_commit.specs.declared.actor.Open.{Open as Txn}
use Rattle.farm_commit.specs.Nodes.{Lock}
use Rattle.farm_commit.specs.Parts.{EachStep}

-- an actor pinned the node at most at r, asking for c, and will write nothing there yet
pub record PinsThere (k c r i : ℕ) (l : Lock) (p q : Part) : Type 0 where
  pub pin : ℕ
  pub went : Went k (log p) (Open k c pin ∷ []) (log q)
  pub low : pin ≤ r
  pub none : written q ≡ []

-- The read stamp is the clock as it was seen at one moment of the call, at least what the actor's seat knew and at least
-- each pin; the transaction's number is one more than its actor's begins before it, and stays at the end of its type
pub record Begins (farm : Farm) (actor : Actor) (txn : Txn) : Type 0 where
  pub clock : (n : ℕ) × (v : Watch) × Sees n v (watch txn.seat) × (txn.read_stamp ≡ (watch txn.seat).known)
  pub known : (watch actor.seat).known ≤ txn.read_stamp
  pub learned : Learned (watch actor.seat) (watch txn.seat)
  pub pins : (c : ℕ) × (c ≤ txn.read_stamp)
      × EachStep farm.locks.items (PinsThere actor.number c txn.read_stamp) actor.parts.items txn.parts.items
  pub reads : txn.reads.items ≡ []
  pub whose : txn.number ≡ actor.number
  pub number : txn.begun ≡ min (actor.begun + 1) (2 ^ 64 - 1)
