-- Which states of the machine the executable core stands for.
use Rattle.std.specs.Prelude.{◌≡◌, ℕ, ◌%◌, ◌<◌, ◌≤◌, Bool, true, false, not, ◌&&◌, ◌||◌, List, [], ◌∷◌, length, map, slice_index_or, Result, Ok, Err}
use Rattle.std.specs.List.{list_any}
use Rattle.a1_base.specs.declared.limits.TheConstants.{NODE_LIMIT}
use Rattle.a1_base.specs.declared.Memory.{Memory}
use Rattle.a1_base.specs.declared.place.Addr.{Addr}
use Rattle.a1_base.specs.declared.place.TxnId.{TxnId}
use Rattle.object_region.specs.Occupancy.{same_addr}
use Rattle.farm_node.specs.declared.node.Node.{Node}
use Rattle.farm_node.specs.declared.entry.Entry.{Entry}
use Rattle.farm_node.specs.declared.entry.CheckFault.{CheckFault}
use Rattle.farm_node.specs.declared.entry.CheckFault.TheVariants as check_fault
use Rattle.farm_node.specs.declared.faults.ReadFault.{ReadFault}
use Rattle.farm_node.specs.declared.faults.ReadFault.TheVariants as reading_fault
use Rattle.farm_node.specs.declared.faults.LockFault.{LockFault}
use Rattle.farm_node.specs.declared.faults.LockFault.TheVariants as locking_fault
use Rattle.farm_node.specs.Cell.{same_txn}
use Rattle.farm_node.specs.NodeState.{NodeState, replay, nowhere}
use Rattle.farm_node.specs.State.{holds_there, may_lock}
use Rattle.farm_node.specs.Node.{plain_of}
use Rattle.farm_core.specs.declared.event.Event.{Event}
use Rattle.farm_core.specs.declared.event.Event.TheVariants as event
use Rattle.farm_core.specs.declared.event.Answer.{Answer}
use Rattle.farm_core.specs.declared.active.Phase.{Phase}
use Rattle.farm_core.specs.declared.active.Phase.TheVariants as phase
use Rattle.farm_core.specs.declared.active.Active.{Active}
use Rattle.farm_core.specs.Machine.{Stage, Reading, Drawn, Installing, Refused, Transaction, State, fresh, HoldsLockAt, Meets, Acts, Steps, InRange, Runs}
use Rattle.farm_core.specs.ReadSets.{read_set, all_checked}

-- some run leads there
abbrev pub Reached : State → Type 0
Reached s =
    (0 < s.nodes) × (s.nodes ≤ NODE_LIMIT)
    × ((events : List Event) × (answers : List Answer) × Runs (fresh s.nodes) events answers s)

-- nodes

-- the plain state of each node
abbrev pub plains : List Node → ℕ → NodeState
plains nodes n = slice_index_or (map plain_of nodes) n nowhere

-- each node stands for its list
pub record NodesStand (nodes : List Node) (count : ℕ) (logs : ℕ → List Entry) : Type 0 where
  pub number : length nodes ≡ count
  pub each : (n : ℕ) → n < count → plains nodes n ≡ replay (logs n)

-- an address lies on this node
abbrev pub home_in : List Node → Addr → ℕ
home_in nodes a = a.region % length nodes

abbrev pub plain_at : List Node → Addr → NodeState
plain_at nodes a = plains nodes (home_in nodes a)

-- open transactions

abbrev pub stage_of : Phase → Stage
stage_of phase.Reading = Reading
stage_of phase.Drawn = Drawn
stage_of phase.Installing = Installing
stage_of phase.Refused = Refused

abbrev pub in_list : Addr → List Addr → Bool
in_list a all = list_any (same_addr a) all

-- it has read the address, at no time locked it, and not found it the same
abbrev pub is_unchecked : Transaction → Addr → Bool
is_unchecked y a = y.has_read a && not (y.had_locked a || y.is_same a)

pub record StandsOpen (x : Active) (y : Transaction) : Type 0 where
  pub is_open : y.is_open ≡ true
  pub stage : stage_of x.phase ≡ y.stage
  pub read_stamp : x.read_stamp ≡ y.read_stamp
  pub write_stamp : x.write_stamp ≡ y.write_stamp
  pub reads : (read_set x.reads).read ≡ y.has_read
  pub unchecked : (read_set x.reads).unchecked ≡ is_unchecked y
  pub locked : (a : Addr) → in_list a x.locked.items ≡ true → y.had_locked a ≡ true

-- an open transaction on its nodes; each address that it holds is listed
pub record At (x : Active) (nodes : List Node) (t : TxnId) (s : State) : Type 0 where
  pub nodes_stand : NodesStand nodes s.nodes s.logs
  pub active : StandsOpen x (s.transactions t)
  pub held : (a : Addr) → HoldsLockAt s t a → in_list a x.locked.items ≡ true

-- what an event of a transaction leaves as it is
pub record Aside (t : TxnId) (s later : State) : Type 0 where
  pub nodes : later.nodes ≡ s.nodes
  pub begins : later.begins ≡ s.begins
  pub loading : later.loading ≡ s.loading
  pub others : (u : TxnId) → same_txn t u ≡ false → later.transactions u ≡ s.transactions u
  pub held : (u : TxnId) (a : Addr) → same_txn t u ≡ false → HoldsLockAt later u a → HoldsLockAt s u a

-- an event whose condition holds was answered, or nothing came to pass
abbrev pub Acted : TxnId → State → Event → Result Answer Memory → (State → Type 0) → Type 0
Acted t s e (Ok x) P = (later : State) × Acts s e x later × Aside t s later × P later
Acted t s e (Err m) P = P s

-- some state that a run leads to, in which the event has its condition
abbrev pub CanAct : Active → List Node → TxnId → Event → Type 0
CanAct x nodes t e = (s : State) × Reached s × At x nodes t s × Meets s e

-- in each such state the answer is due, and the transaction and the nodes stand for the state afterwards
abbrev pub ActsOn : Active → List Node → TxnId → Event → Result Answer Memory → Active → List Node → Type 0
ActsOn x nodes t e result y later_nodes =
    (s : State) → Reached s → At x nodes t s → Meets s e
    → Acted t s e result (λ later. At y later_nodes t later × (later.clock ≡ s.clock))

-- an event was answered, or nothing came to pass
abbrev pub Stepped : TxnId → State → Event → Result Answer Memory → (State → Type 0) → Type 0
Stepped t s e (Ok x) P = (later : State) × Steps s e x later × Aside t s later × P later
Stepped t s e (Err m) P = P s

-- with the clock
pub record AtClock (x : Active) (nodes : List Node) (clock : ℕ) (t : TxnId) (s : State) : Type 0 where
  pub standing : At x nodes t s
  pub clock_is : clock ≡ s.clock

-- the event is one of an open transaction, and not its end
abbrev pub IsOf : TxnId → Event → Type 0
IsOf t (event.Read u a) = u ≡ t
IsOf t (event.Alloc u n bytes) = u ≡ t
IsOf t (event.Lock u a new) = u ≡ t
IsOf t (event.Draw u) = u ≡ t
IsOf t (event.Check u a) = u ≡ t
IsOf t (event.Put u a) = u ≡ t
IsOf t (event.Unlock u a) = u ≡ t
IsOf t e = ⊥

-- which events have their conditions

abbrev pub is_reading : Phase → Bool
is_reading phase.Reading = true
is_reading p = false

abbrev pub is_drawn : Phase → Bool
is_drawn phase.Drawn = true
is_drawn p = false

abbrev pub is_installing : Phase → Bool
is_installing phase.Installing = true
is_installing p = false

abbrev pub holds_at : List Node → TxnId → Addr → Bool
holds_at nodes t a = holds_there t ((plain_at nodes a).cells a)

abbrev pub may_lock_at : List Node → TxnId → Addr → ℕ → Bool
may_lock_at nodes t a r = may_lock t r ((plain_at nodes a).cells a)

abbrev pub is_none : List Addr → Bool
is_none [] = true
is_none (a ∷ more) = false

abbrev pub meets_in : Active → List Node → TxnId → Event → Bool
meets_in x nodes t (event.Read u a) = is_reading x.phase && not (holds_at nodes t a)
meets_in x nodes t (event.Alloc u n bytes) = is_reading x.phase
meets_in x nodes t (event.Lock u a new) = is_reading x.phase && may_lock_at nodes t a x.read_stamp
meets_in x nodes t (event.Draw u) = is_reading x.phase && not (is_none x.locked.items)
meets_in x nodes t (event.Check u a) = is_drawn x.phase && ((read_set x.reads).read a && not (holds_at nodes t a))
meets_in x nodes t (event.Put u a) =
    (is_drawn x.phase || is_installing x.phase) && (all_checked x.reads && holds_at nodes t a)
meets_in x nodes t (event.Unlock u a) = not (is_installing x.phase) && holds_at nodes t a
meets_in x nodes t e = false

-- what a fault is, but for want of memory

abbrev pub read_fault : ReadFault → Result TxnId Memory
read_fault (reading_fault.Held by) = Ok by
read_fault reading_fault.Memory = Err (record {})

abbrev pub lock_fault : LockFault → Result CheckFault Memory
lock_fault (locking_fault.Held by) = Ok (check_fault.Held by)
lock_fault (locking_fault.Changed seen now) = Ok (check_fault.Changed seen now)
lock_fault locking_fault.Memory = Err (record {})

abbrev pub CanActAt : Active → List Node → ℕ → Event → Type 0
CanActAt x nodes clock e =
    (t : TxnId) × (s : State) × IsOf t e × Reached s × AtClock x nodes clock t s × Meets s e × InRange s.nodes e
