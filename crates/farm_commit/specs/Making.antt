-- A farm while it is made.
use Rattle.std.specs.Prelude.{◌≡◌, ℕ, ◌-◌, ◌<◌, ◌≤◌, ◌==◌, not, List, [], ◌∷◌, ◌++◌, Option, Some, length, map, filter}
use Rattle.a1_base.specs.Lists.{IsAmong}
use Rattle.farm_node.specs.declared.entry.Entry.{Entry}
use Rattle.turnstile.specs.declared.keeps.Keeps.{Ghosts}
use Rattle.turnstile.specs.declared.lock.Pass.{Pass}
use Rattle.turnstile.specs.Entries.{up_to}
use Rattle.turnstile.specs.Passes.{first_value, numbers, IsPassOf}
use Rattle.snapshot_stamps.specs.declared.seat.Stamps.{Stamps}
use Rattle.snapshot_stamps.specs.declared.seat.StampSeat.{StampSeat}
use Rattle.snapshot_stamps.specs.Seats.{IsSeatOf, HaveAllLanes}
use Rattle.node_turns.specs.declared.standing.Standing.{Standing}
use Rattle.node_turns.specs.Standing.{begins_with}
use Rattle.transaction_part.specs.declared.part.Part.{Part}
use Rattle.transaction_part.specs.Part.{log, written}
use Rattle.farm_commit.specs.declared.actor.Actor.{Actor}
use Rattle.farm_commit.specs.Nodes.{Lock, home}
use Rattle.farm_commit.specs.Parts.{EachPart}
use Rattle.farm_commit.specs.Building.{Loaded}

-- the objects of all nodes but one
abbrev pub others_of : ℕ → ℕ → List Loaded → List Loaded
others_of nodes node heap = filter (λ x. not (home nodes x.0 == node)) heap

module _ {g : Ghosts Standing Entry} where
  -- a pass of the turnstile, with these numbers
  abbrev pub HasPass : Lock → List ℕ → Option (Pass Standing Entry g) → Type 0
  HasPass lock ns place =
      (p : Pass Standing Entry g) × (place ≡ Some p) × IsPassOf lock p × (numbers p ≡ ns)

-- a part whose pass has these numbers, at a turnstile where nothing came to pass yet
pub record IsFresh (lock : Lock) (ns : List ℕ) (part : Part) : Type 0 where
  pub pass : HasPass lock ns part.pass
  pub seen : log part ≡ begins_with (first_value lock) ∷ []
  pub none : written part ≡ []

-- such a part at each node
abbrev pub AreFresh : List Lock → List ℕ → List Part → Type 0
AreFresh locks ns parts = EachPart locks (λ _ l p. IsFresh l ns p) parts

-- of all numbers up to the greatest, that one was cut off at the first n nodes
pub record IsCut (n number i : ℕ) (lock : Lock) (part : Part) : Type 0 where
  pub done : i < n → 1 < number → IsFresh lock (up_to (number - 1)) part
  pub left : n ≤ i → IsFresh lock (up_to number) part

-- a new actor, its parts its own
pub record IsNew (locks : List Lock) (stamps : Stamps) (actor : Actor) : Type 0 where
  pub seat : IsSeatOf stamps actor.seat
  pub begun : actor.begun ≡ 0
  pub reads : actor.reads.items ≡ []
  pub parts : AreFresh locks (actor.number ∷ []) actor.parts.items

-- the actors made so far, from the greatest number of so many down, while these seats are left for the others
pub record AreMade (locks : List Lock) (stamps : Stamps) (count : ℕ) (left : List StampSeat) (actors : List Actor)
    : Type 0 where
  pub numbers : map (λ (a : Actor). a.number) actors ++ up_to (length left) ≡ up_to count
  pub each : (a : Actor) → IsAmong a actors → IsNew locks stamps a
  pub lanes : HaveAllLanes stamps (map (λ (a : Actor). a.seat) actors ++ left)
