-- How a farm ends.
use Rattle.std.specs.Prelude.{◌≡◌, ℕ, ◌<◌, ◌≤◌, List, [], ◌∷◌, Some, slice_get, length, map}
use Rattle.a1_base.specs.Lists.{IsAmong, BeginsWith, entries_of}
use Rattle.farm_node.specs.declared.node.Node.{Node}
use Rattle.farm_node.specs.declared.entry.Entry.{Entry}
use Rattle.farm_node.specs.Node.{StandsFor}
use Rattle.farm_node.specs.Story.{number_of}
use Rattle.turnstile.specs.Passes.{first_value}
use Rattle.snapshot_stamps.specs.declared.seat.StampSeat.{StampSeat}
use Rattle.snapshot_stamps.specs.Seats.{HaveAllLanes}
use Rattle.node_turns.specs.Standing.{begins_with}
use Rattle.transaction_part.specs.declared.part.Part.{Part}
use Rattle.transaction_part.specs.Part.{log}
use Rattle.farm_commit.specs.declared.farm.Farm.{Farm}
use Rattle.farm_commit.specs.declared.actor.Actor.{Actor}
use Rattle.farm_commit.specs.Nodes.{Lock}
use Rattle.farm_commit.specs.Farms.{IsActorOf}

abbrev pub seats_of : List Actor → List StampSeat
seats_of actors = map (λ (a : Actor). a.seat) actors

-- all actors of the farm, none with a transaction
pub record AreAll (farm : Farm) (actors : List Actor) : Type 0 where
  pub some : 0 < length actors
  pub each : (a : Actor) → IsAmong a actors → IsActorOf farm a
  pub all : (k : ℕ) → 0 < k → k ≤ farm.actors → (a : Actor) × IsAmong a actors × (a.number ≡ k)
  pub lanes : HaveAllLanes farm.stamps (seats_of actors)

-- A node at the end stands for a list that begins with all that each actor had seen of it, in which that actor's entries
-- are those that it had seen, and whose first entry alone is nobody's
pub record ClosesNode (actors : List Actor) (i : ℕ) (l : Lock) (node : Node) : Type 0 where
  pub whole : List Entry
  pub stands : StandsFor node whole
  pub first : entries_of number_of 0 whole ≡ begins_with (first_value l) ∷ []
  pub begins : (a : Actor) (p : Part) → IsAmong a actors → slice_get a.parts.items i ≡ Some p
      → BeginsWith whole (log p)
  pub own : (a : Actor) (p : Part) → IsAmong a actors → slice_get a.parts.items i ≡ Some p
      → entries_of number_of a.number whole ≡ entries_of number_of a.number (log p)

-- each node so, in order
pub record ClosesNodes (locks : List Lock) (actors : List Actor) (nodes : List Node) : Type 0 where
  pub count : length nodes ≡ length locks
  pub each : (i : ℕ) (l : Lock) (n : Node) → slice_get locks i ≡ Some l → slice_get nodes i ≡ Some n
      → ClosesNode actors i l n
