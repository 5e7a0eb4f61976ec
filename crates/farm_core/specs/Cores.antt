-- Which states of the machine the core stands for.
use Rattle.std.specs.Prelude.{◌≡◌, ℕ, ◌+◌, ◌-◌, ◌^◌, ◌≤◌, min, List, length, take}
use Rattle.farm_core.specs.declared.event.Event.{Event}
use Rattle.farm_core.specs.declared.event.Answer.{Answer}
use Rattle.farm_core.specs.declared.farm.Farm.{Farm}
use Rattle.farm_core.specs.Machine.{State, Runs}
use Rattle.farm_core.specs.Farms.{Stands}

-- what contracts see of a core: its farm, and how many events it has answered
pub record Shown : Type 0 where
  pub farm : Farm
  pub done : ℕ

-- The state is one that some run from the beginning leads to, and the core has its clock, its nodes and its loading,
-- and of each actor how often it began and the transaction that is open. Of a transaction that has ended it knows
-- nothing
abbrev pub CoreStands : Shown → State → Type 0
CoreStands core s = Stands core.farm s

-- how many nodes the core has
abbrev pub node_count : Shown → ℕ
node_count core = length core.farm.nodes.items

-- the count of events stands still at the end of its type
abbrev pub counted_on : ℕ → ℕ → ℕ
counted_on done more = min (done + more) (2 ^ 64 - 1)

-- the first of the events were answered, and nothing more came to pass
abbrev pub RanFront : State → List Event → Shown → Shown → Type 0
RanFront s events old new =
    (answers : List Answer) × (later : State) × (length answers ≤ length events)
    × Runs s (take (length answers) events) answers later × CoreStands new later
    × (new.done ≡ counted_on old.done (length answers))
