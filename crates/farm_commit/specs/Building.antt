-- How a farm begins.
use Rattle.std.specs.Prelude.{◌≡◌, ℕ, ◌*◌, ◌<◌, ◌==◌, List, [], ◌∷◌, Some, slice_get, map, filter}
use Rattle.a1_base.specs.declared.place.Addr.{Addr}
use Rattle.a1_base.specs.declared.limits.TheConstants.{REGION_LIMIT, REGION_WIDTH}
use Rattle.a1_base.specs.Lists.{IsAmong}
use Rattle.farm_node.specs.Cell.{Bytes}
use Rattle.turnstile.specs.Entries.{up_to}
use Rattle.turnstile.specs.Passes.{first_value}
use Rattle.snapshot_stamps.specs.Seats.{HaveAllLanes}
use Rattle.node_turns.specs.Standing.{Began, begins_with}
use Rattle.transaction_part.specs.Part.{log}
use Rattle.farm_commit.specs.declared.farm.Farm.{Farm}
use Rattle.farm_commit.specs.declared.actor.Actor.{Actor}
use Rattle.farm_commit.specs.Nodes.{Lock, home}
use Rattle.farm_commit.specs.Parts.{EachPart}
use Rattle.farm_commit.specs.Farms.{IsActorOf}

abbrev pub Loaded : Type 0
Loaded = Addr × Bytes

-- the objects of one node
abbrev pub part_of : ℕ → ℕ → List Loaded → List Loaded
part_of nodes node heap = filter (λ x. home nodes x.0 == node) heap

-- no address stands twice
abbrev pub AreApart : List Loaded → Type 0
AreApart [] = Unit {0}
AreApart (x ∷ xs) = ((y : Loaded) → IsAmong y xs → y.0 ≡ x.0 → ⊥) × AreApart xs

-- each address is a place of one of so many nodes
abbrev pub ArePlaces : ℕ → List Loaded → Type 0
ArePlaces nodes heap =
    (x : Loaded) → IsAmong x heap → (x.0.region < REGION_LIMIT * nodes) × (x.0.offset < REGION_WIDTH)

-- each turnstile is round the node of its place, which began with its objects
abbrev pub AreLoaded : List Lock → ℕ → ℕ → ℕ → List Loaded → Type 0
AreLoaded locks nodes actors stamp heap =
    (i : ℕ) (l : Lock) → slice_get locks i ≡ Some l → Began (first_value l) i nodes actors stamp (part_of nodes i heap)

-- the actors, from the greatest number down to 1: none has begun, and none has seen more than how the nodes began
pub record AreNew (farm : Farm) (actors : List Actor) : Type 0 where
  pub numbers : map (λ (a : Actor). a.number) actors ≡ up_to farm.actors
  pub each : (a : Actor) → IsAmong a actors → IsActorOf farm a × (a.begun ≡ 0)
  pub seen : (a : Actor) → IsAmong a actors
      → EachPart farm.locks.items (λ _ l p. log p ≡ begins_with (first_value l) ∷ []) a.parts.items
  pub lanes : HaveAllLanes farm.stamps (map (λ (a : Actor). a.seat) actors)
