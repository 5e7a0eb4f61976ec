-- Actors and transactions of a farm.
use Rattle.std.specs.Prelude.{◌≡◌, ℕ, ◌<◌, ◌≤◌, List, [], Some, slice_get}
use Rattle.a1_base.specs.declared.place.TxnId.{TxnId}
use Rattle.a1_base.specs.Lists.{IsAmong}
use Rattle.a1_base.specs.Stamps.{IsStamp}
use Rattle.farm_node.specs.Owned.{WasRead}
use Rattle.snapshot_stamps.specs.Seats.{IsSeatOf, watch}
use Rattle.write_set.specs.declared.set.Write.{Write}
use Rattle.transaction_part.specs.declared.part.Part.{Part}
use Rattle.transaction_part.specs.declared.part.Seen.{Seen}
use Rattle.transaction_part.specs.Part.{IsResting, IsRunning, log, written}
use Rattle.farm_commit.specs.declared.farm.Farm.{Farm}
use Rattle.farm_commit.specs.declared.actor.Actor.{Actor}
use Rattle.farm_commit.specs.declared.actor.Open.{Open}
use Rattle.farm_commit.specs.Nodes.{Lock, home}
use Rattle.farm_commit.specs.Parts.{EachPart}

-- an actor of the farm without a transaction
pub record IsActorOf (farm : Farm) (actor : Actor) : Type 0 where
  pub seat : IsSeatOf farm.stamps actor.seat
  pub number : (0 < actor.number) × (actor.number ≤ farm.actors)
  pub parts : EachPart farm.locks.items (λ _ l p. IsResting l actor.number p) actor.parts.items
  pub reads : actor.reads.items ≡ []

abbrev pub txn_id : ℕ → ℕ → TxnId
txn_id actor number = record { actor = actor; number = number }

abbrev pub id_of : Open → TxnId
id_of txn = txn_id txn.number txn.begun

-- a transaction's part at a node: it runs there, and writes addresses of the node alone
pub record IsPart (t : TxnId) (r nodes i : ℕ) (l : Lock) (p : Part) : Type 0 where
  pub runs : IsRunning l t r p
  pub homed : (w : Write) → IsAmong w (written p) → home nodes w.at ≡ i

-- each read is what an own entry at r answered, at the node of the address
abbrev pub AreRead : ℕ → ℕ → ℕ → List Part → List Seen → Type 0
AreRead k r nodes parts reads = (s : Seen) (p : Part) → IsAmong s reads → slice_get parts (home nodes s.at) ≡ Some p
    → ∥ WasRead k s.at r s.found.value (log p) ∥₁

-- a transaction of the farm
pub record IsOpenOf (farm : Farm) (txn : Open) : Type 0 where
  pub seat : IsSeatOf farm.stamps txn.seat
  pub number : (0 < txn.number) × (txn.number ≤ farm.actors)
  pub stamp : IsStamp txn.read_stamp
  pub known : txn.read_stamp ≤ (watch txn.seat).known
  pub parts : EachPart farm.locks.items (IsPart (id_of txn) txn.read_stamp farm.nodes) txn.parts.items
  pub reads : AreRead txn.number txn.read_stamp farm.nodes txn.parts.items txn.reads.items
