-- Which states of the machine the farm stands for.
use Rattle.std.specs.Prelude.{◌≡◌, ℕ, Bool, not, is_some, ◌&&◌, ◌==◌, ◌+◌, ◌<◌, ◌≤◌, true, false, List, length, Option, Some, None, Result, Ok, Err, slice_index_or}
use Rattle.a1_base.specs.declared.limits.TheConstants.{ACTOR_LIMIT}
use Rattle.a1_base.specs.declared.Memory.{Memory}
use Rattle.a1_base.specs.declared.place.Addr.{Addr}
use Rattle.a1_base.specs.declared.place.TxnId.{TxnId}
use Rattle.farm_node.specs.declared.node.Node.{Node}
use Rattle.farm_node.specs.declared.entry.Entry.{Entry}
use Rattle.farm_node.specs.NodeState.{NodeState, Adds}
use Rattle.farm_core.specs.declared.event.Event.{Event}
use Rattle.farm_core.specs.declared.event.Event.TheVariants as event
use Rattle.farm_core.specs.declared.event.Answer.{Answer}
use Rattle.farm_core.specs.declared.active.Active.{Active}
use Rattle.farm_core.specs.declared.farm.Slot.{Slot}
use Rattle.farm_core.specs.declared.farm.Farm.{Farm}
use Rattle.farm_core.specs.Machine.{State, HoldsLockAt, Meets, Steps, Runs}
use Rattle.farm_core.specs.Standing.{Reached, plains, NodesStand, StandsOpen, in_list}

-- of an actor at most one transaction is open, that of its latest number
abbrev pub OpenStands : Option Active → ℕ → State → Type 0
OpenStands None k s = (u : TxnId) → u.actor ≡ k → (s.transactions u).is_open ≡ false
OpenStands (Some x) k s =
    let t : TxnId = record { actor = k; number = s.begins k } in
    StandsOpen x (s.transactions t) × ((a : Addr) → HoldsLockAt s t a → in_list a x.locked.items ≡ true)

pub record SlotStands (slot : Slot) (k : ℕ) (s : State) : Type 0 where
  pub begins : slot.begins ≡ s.begins k
  pub current : OpenStands slot.open k s

-- with the nodes and the clock
pub record SlotAt (slot : Slot) (nodes : List Node) (clock : ℕ) (t : TxnId) (s : State) : Type 0 where
  pub nodes_stand : NodesStand nodes s.nodes s.logs
  pub clock_is : clock ≡ s.clock
  pub slot_stands : SlotStands slot t.actor s

pub record Stands (farm : Farm) (s : State) : Type 0 where
  pub reached : Reached s
  pub clock_is : farm.clock ≡ s.clock
  pub loading_is : farm.loading ≡ s.loading
  pub nodes_stand : NodesStand farm.nodes.items s.nodes s.logs
  pub count : length farm.slots.items ≡ ACTOR_LIMIT + 1
  pub slots_stand : (k : ℕ) (d : Slot) → 0 < k → k ≤ ACTOR_LIMIT → SlotStands (slice_index_or farm.slots.items k d) k s

-- an event was answered, or nothing came to pass
abbrev pub StepsTo : State → Event → Result Answer Memory → (State → Type 0) → Type 0
StepsTo s e (Ok x) P = (later : State) × Steps s e x later × P later
StepsTo s e (Err m) P = P s

-- one entry behind each node's list
abbrev pub AddsEach : (NodeState → Entry) → List Node → List Node → Type 0
AddsEach makes nodes later =
    (n : ℕ) → n < length nodes → Adds (plains nodes n) (makes (plains nodes n)) (plains later n)

-- the actor has no transaction open, and the number is the next
abbrev pub may_begin : Slot → ℕ → Bool
may_begin slot number = not (is_some slot.open) && (slot.begins + 1 == number)

-- the slot's transaction has ended, or may not end
abbrev pub Shuts : Slot → List Node → TxnId → Bool → Slot → Type 0
Shuts slot nodes t true later =
    ((s : State) (clock : ℕ) → Reached s → SlotAt slot nodes clock t s → Meets s (event.Shut t))
    × (later.begins ≡ slot.begins) × (later.open ≡ None)
Shuts slot nodes t false later =
    (s : State) (clock : ℕ) → Reached s → SlotAt slot nodes clock t s → (Meets s (event.Shut t) → ⊥)
    × SlotAt later nodes clock t s

-- events one after another, each with its answer
abbrev pub RunsTo : State → List Event → List Answer → (State → Type 0) → Type 0
RunsTo s events answers P = (later : State) × Runs s events answers later × P later

-- no actor has begun
pub record AreNew (slots : List Slot) : Type 0 where
  pub count : length slots ≡ ACTOR_LIMIT + 1
  pub each : (k : ℕ) (d : Slot) → k ≤ ACTOR_LIMIT → ((slice_index_or slots k d).begins ≡ 0)
      × ((slice_index_or slots k d).open ≡ None)
