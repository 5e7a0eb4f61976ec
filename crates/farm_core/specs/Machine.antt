-- The machine of the core: what each event is answered in a state, and the state that it leaves.
use Rattle.std.specs.Prelude.{◌≡◌, ℕ, ◌+◌, ◌*◌, ◌%◌, ◌<◌, ◌≤◌, ◌==◌, nat_lt, max, cond, Bool, true, false, ◌||◌, List, [], ◌∷◌, ◌++◌, length, Option, Some, None, Result, Ok, Err, ◌⊎◌}
use Rattle.a1_base.specs.declared.limits.TheConstants.{ACTOR_LIMIT, COLLECTOR_ACTOR, LAST_STAMP, OBJECT_LIMIT, OPENING_STAMP}
use Rattle.a1_base.specs.declared.place.Addr.{Addr}
use Rattle.a1_base.specs.declared.place.TxnId.{TxnId}
use Rattle.object_region.specs.Occupancy.{width, region_count, same_addr, LeastFree, IsSpent}
use Rattle.farm_node.specs.declared.entry.Start.{Start}
use Rattle.farm_node.specs.declared.entry.Found.{Found}
use Rattle.farm_node.specs.declared.entry.Locked.{Locked}
use Rattle.farm_node.specs.declared.entry.Collected.{Collected}
use Rattle.farm_node.specs.declared.entry.CheckFault.{CheckFault}
use Rattle.farm_node.specs.declared.entry.CheckFault.TheVariants as check_fault
use Rattle.farm_node.specs.declared.entry.Entry.{Entry}
use Rattle.farm_node.specs.declared.entry.Entry.TheVariants as entry
use Rattle.farm_node.specs.Cell.{Bytes, same_txn, read_answer, lock_answer, check_answer}
use Rattle.farm_node.specs.NodeState.{NodeState, occupancy, collect_answer, HeldBy, MayLock, replay}
use Rattle.farm_core.specs.declared.event.Event.{Event}
use Rattle.farm_core.specs.declared.event.Event.TheVariants as event
use Rattle.farm_core.specs.declared.event.Answer.{Answer}
use Rattle.farm_core.specs.declared.event.Answer.TheVariants as answer

-- how far a transaction is

pub data Stage : Type 0 where
  Unbegun : Stage
  Reading : Stage
  Drawn : Stage
  Installing : Stage
  Refused : Stage

-- A transaction is open from its begin to its shut. It reads at its read stamp and commits at its write stamp, which is
-- 0 before its draw. It has read some addresses, had some locked at some time, and checked some that were the same
pub record Transaction : Type 0 where
  pub stage : Stage
  pub is_open : Bool
  pub read_stamp : ℕ
  pub write_stamp : ℕ
  pub has_read : Addr → Bool
  pub had_locked : Addr → Bool
  pub is_same : Addr → Bool

abbrev pub unbegun : Transaction
unbegun = record {
  stage = Unbegun;
  is_open = false;
  read_stamp = 0;
  write_stamp = 0;
  has_read = λ a. false;
  had_locked = λ a. false;
  is_same = λ a. false;
}

abbrev pub begun_at : ℕ → Transaction
begun_at stamp = record unbegun { stage = Reading; is_open = true; read_stamp = stamp }

abbrev pub in_stage : Stage → Transaction → Transaction
in_stage stage x = record x { stage = stage }

abbrev pub drawn_at : ℕ → Transaction → Transaction
drawn_at stamp x = record x { stage = Drawn; write_stamp = stamp }

abbrev pub with_addr : Addr → (Addr → Bool) → Addr → Bool
with_addr a marked b = same_addr a b || marked b

abbrev pub with_read : Addr → Transaction → Transaction
with_read a x = record x { has_read = with_addr a x.has_read }

abbrev pub with_locked : Addr → Transaction → Transaction
with_locked a x = record x { had_locked = with_addr a x.had_locked }

abbrev pub with_same : Addr → Transaction → Transaction
with_same a x = record x { is_same = with_addr a x.is_same }

abbrev pub ended : Transaction → Transaction
ended x = record x { is_open = false }

-- states

-- the clock, the number of nodes, each node's list, how often each actor began, the transactions, and whether objects
-- may still be loaded
pub record State : Type 0 where
  pub clock : ℕ
  pub nodes : ℕ
  pub logs : ℕ → List Entry
  pub begins : ℕ → ℕ
  pub transactions : TxnId → Transaction
  pub loading : Bool

-- 35 actors use the core, and what is loaded has the stamp 1
abbrev pub start_of : ℕ → ℕ → Start
start_of nodes node = record { node = node; nodes = nodes; actors = ACTOR_LIMIT; stamp = OPENING_STAMP; heap = [] }

-- the farm of so many nodes before any event
abbrev pub fresh : ℕ → State
fresh nodes = record {
  clock = OPENING_STAMP;
  nodes = nodes;
  logs = λ n. entry.Made (start_of nodes n) ∷ [];
  begins = λ k. 0;
  transactions = λ t. unbegun;
  loading = true;
}

-- an address lies on this node
abbrev pub home : State → Addr → ℕ
home s a = a.region % s.nodes

-- the plain state of a node, and of an address's node

abbrev pub node_at : State → ℕ → NodeState
node_at s n = replay (s.logs n)

abbrev pub node_of : State → Addr → NodeState
node_of s a = node_at s (home s a)

-- one entry more behind one node's list
abbrev pub set_log : ℕ → List Entry → (ℕ → List Entry) → ℕ → List Entry
set_log n log logs m = cond (n == m) log (logs m)

abbrev pub adding : ℕ → Entry → State → State
adding n e s = record s { logs = set_log n (s.logs n ++ e ∷ []) s.logs }

-- the same entry behind each node's list
abbrev pub adding_to_all : Entry → State → State
adding_to_all e s = record s { logs = λ n. cond (nat_lt n s.nodes) (s.logs n ++ e ∷ []) (s.logs n) }

abbrev pub set_transaction : TxnId → Transaction → (TxnId → Transaction) → TxnId → Transaction
set_transaction t x transactions u = cond (same_txn t u) x (transactions u)

-- a change of one transaction
abbrev pub moving : TxnId → (Transaction → Transaction) → State → State
moving t change s = record s { transactions = set_transaction t (change (s.transactions t)) s.transactions }

abbrev pub counting_begin : ℕ → State → State
counting_begin k s = record s { begins = λ j. cond (k == j) (s.begins j + 1) (s.begins j) }

abbrev pub loading_over : State → State
loading_over s = record s { loading = false }

-- a loaded object joins the first entry of its node's list
abbrev pub log_loaded : Addr → Bytes → List Entry → List Entry
log_loaded a bytes (entry.Made m ∷ es) = entry.Made (record m { heap = (a, bytes) ∷ m.heap }) ∷ es
log_loaded a bytes log = log

-- conditions

abbrev pub IsAt : Stage → State → TxnId → Type 0
IsAt stage s t = ((s.transactions t).is_open ≡ true) × ((s.transactions t).stage ≡ stage)

abbrev pub HoldsLockAt : State → TxnId → Addr → Type 0
HoldsLockAt s t a = HeldBy (node_of s a) t a

abbrev pub HoldsLock : State → TxnId → Type 0
HoldsLock s t = (a : Addr) × HoldsLockAt s t a

-- each place that it read and that was at no time locked by it has answered same
abbrev pub AllSame : Transaction → Type 0
AllSame x = (a : Addr) → x.has_read a ≡ true → x.had_locked a ≡ false → x.is_same a ≡ true

abbrev pub Meets : State → Event → Type 0
Meets s (event.Load a bytes) = (s.loading ≡ true) × ((node_of s a).cells a ≡ None)
Meets s (event.Begin t) =
    ((u : TxnId) → u.actor ≡ t.actor → (s.transactions u).is_open ≡ false) × (t.number ≡ s.begins t.actor + 1)
Meets s (event.Read t a) = IsAt Reading s t × (HoldsLockAt s t a → ⊥)
Meets s (event.Alloc t n bytes) = IsAt Reading s t
Meets s (event.Lock t a new) = IsAt Reading s t × MayLock (node_of s a) t a (s.transactions t).read_stamp
Meets s (event.Draw t) = IsAt Reading s t × HoldsLock s t
Meets s (event.Check t a) = IsAt Drawn s t × ((s.transactions t).has_read a ≡ true) × (HoldsLockAt s t a → ⊥)
Meets s (event.Put t a) = (IsAt Drawn s t ⊎ IsAt Installing s t) × HoldsLockAt s t a × AllSame (s.transactions t)
Meets s (event.Unlock t a) = (IsAt Reading s t ⊎ (IsAt Drawn s t ⊎ IsAt Refused s t)) × HoldsLockAt s t a
Meets s (event.Shut t) = ((s.transactions t).is_open ≡ true) × (HoldsLock s t → ⊥)
Meets s (event.Collect n) = Unit {0}

-- an event whose condition holds

-- the answer, and the state afterwards
abbrev pub Gives : Answer → State → Answer → State → Type 0
Gives due later told next = (told ≡ due) × (next ≡ later)

abbrev pub found_answer : Found → Answer
found_answer found =
    elim found.value as (λ _. Answer) [ None ↦ answer.Absent found.stamp | Some bytes ↦ answer.Value found.stamp bytes ]

-- what another holds leaves the transaction as it is
abbrev pub Reads : State → TxnId → Addr → ℕ → Result Found TxnId → Answer → State → Type 0
Reads s t a r (Ok found) =
    Gives (found_answer found) (moving t (with_read a) (adding (home s a) (entry.Read t.actor a r (Ok found)) s))
Reads s t a r (Err by) = Gives (answer.Held by) (adding (home s a) (entry.Read t.actor a r (Err by)) s)

abbrev pub Allocates : State → TxnId → ℕ → ℕ → Bytes → Answer → State → Type 0
Allocates s t n r bytes told next =
    ((a : Addr) × LeastFree (occupancy (node_at s n)) a
    × (let bound = max (node_at s n).past r in
    let e = entry.Alloc t r bytes (record { at = a; bound = bound }) in
    Gives (answer.Placed a bound) (moving t (with_locked a) (adding n e s)) told next))
    ⊎ (IsSpent (occupancy (node_at s n)) × Gives answer.Spent (moving t (in_stage Refused) s) told next)

-- who is held, or sees a change, is refused
abbrev pub fault_answer : CheckFault → Answer
fault_answer (check_fault.Held by) = answer.Held by
fault_answer (check_fault.Changed seen now) = answer.Changed seen now

abbrev pub Locks : State → TxnId → Addr → ℕ → Option Bytes → Result Locked CheckFault → Answer → State → Type 0
Locks s t a r new (Ok given) =
    Gives (answer.Locked given.seen given.bound)
    (moving t (with_locked a) (adding (home s a) (entry.Lock t a r new (Ok given)) s))
Locks s t a r new (Err fault) =
    Gives (fault_answer fault) (moving t (in_stage Refused) (adding (home s a) (entry.Lock t a r new (Err fault)) s))

-- the clock ends at 2^62 - 1
abbrev pub Draws : State → TxnId → Answer → State → Type 0
Draws s t told next =
    ((s.clock < LAST_STAMP) × (let stamp = s.clock + 1 in
    Gives (answer.Stamp stamp) (moving t (drawn_at stamp) (record s { clock = stamp })) told next))
    ⊎ ((s.clock ≡ LAST_STAMP) × Gives answer.Spent (moving t (in_stage Refused) s) told next)

abbrev pub Checks : State → TxnId → Addr → ℕ → ℕ → Result (Unit {0}) CheckFault → Answer → State → Type 0
Checks s t a r w (Ok same) =
    Gives answer.Same (moving t (with_same a) (adding (home s a) (entry.Check t a r w (Ok same)) s))
Checks s t a r w (Err fault) =
    Gives (fault_answer fault) (moving t (in_stage Refused) (adding (home s a) (entry.Check t a r w (Err fault)) s))

-- the collector's entries bear the actor 34, and its proposal is the clock
abbrev pub Collects : State → ℕ → Collected → Answer → State → Type 0
Collects s n removed =
    Gives (answer.Collected removed.floor removed.versions removed.objects)
    (loading_over (adding n (entry.Collect COLLECTOR_ACTOR s.clock removed) s))

abbrev pub Acts : State → Event → Answer → State → Type 0
Acts s (event.Load a bytes) =
    Gives answer.Loaded (record s { logs = set_log (home s a) (log_loaded a bytes (s.logs (home s a))) s.logs })
Acts s (event.Begin t) =
    Gives (answer.At s.clock)
    (loading_over
    (moving t (λ x. begun_at s.clock)
    (counting_begin t.actor (adding_to_all (entry.Open t.actor s.clock s.clock) s))))
Acts s (event.Read t a) = let r = (s.transactions t).read_stamp in Reads s t a r (read_answer r ((node_of s a).cells a))
Acts s (event.Alloc t n bytes) = Allocates s t n (s.transactions t).read_stamp bytes
Acts s (event.Lock t a new) =
    let r = (s.transactions t).read_stamp in Locks s t a r new (lock_answer t r ((node_of s a).cells a))
Acts s (event.Draw t) = Draws s t
Acts s (event.Check t a) =
    let x = s.transactions t in
    Checks s t a x.read_stamp x.write_stamp (check_answer x.read_stamp ((node_of s a).cells a))
Acts s (event.Put t a) =
    Gives answer.Put
    (moving t (in_stage Installing) (adding (home s a) (entry.Put t a (s.transactions t).write_stamp) s))
Acts s (event.Unlock t a) = Gives answer.Unlocked (moving t (in_stage Refused) (adding (home s a) (entry.Unlock t a) s))
Acts s (event.Shut t) = Gives answer.Shut (moving t ended (adding_to_all (entry.Shut t.actor) s))
Acts s (event.Collect n) = Collects s n (collect_answer (node_at s n) s.clock)

-- steps and runs

-- an event that lacks its condition changes nothing
abbrev pub Steps : State → Event → Answer → State → Type 0
Steps s e told next = (Meets s e × Acts s e told next) ⊎ ((Meets s e → ⊥) × Gives answer.No s told next)

-- an actor of the core
abbrev pub IsActor : TxnId → Type 0
IsActor t = (0 < t.actor) × (t.actor ≤ ACTOR_LIMIT)

-- an address of a farm of so many nodes
abbrev pub IsAddr : ℕ → Addr → Type 0
IsAddr nodes a = (a.region < region_count * nodes) × (a.offset < width)

-- the bytes of an object
abbrev pub IsObject : Bytes → Type 0
IsObject bytes = (0 < length bytes) × (length bytes ≤ OBJECT_LIMIT)

-- what a lock waits to install: an object, or that it is freed
abbrev pub IsNew : Option Bytes → Type 0
IsNew None = Unit {0}
IsNew (Some bytes) = IsObject bytes

-- an event's actors, addresses, nodes and objects are those of the farm
abbrev pub InRange : ℕ → Event → Type 0
InRange nodes (event.Load a bytes) = IsAddr nodes a × IsObject bytes
InRange nodes (event.Begin t) = IsActor t
InRange nodes (event.Read t a) = IsActor t × IsAddr nodes a
InRange nodes (event.Alloc t n bytes) = IsActor t × (n < nodes) × IsObject bytes
InRange nodes (event.Lock t a new) = IsActor t × IsAddr nodes a × IsNew new
InRange nodes (event.Draw t) = IsActor t
InRange nodes (event.Check t a) = IsActor t × IsAddr nodes a
InRange nodes (event.Put t a) = IsActor t × IsAddr nodes a
InRange nodes (event.Unlock t a) = IsActor t × IsAddr nodes a
InRange nodes (event.Shut t) = IsActor t
InRange nodes (event.Collect n) = n < nodes

-- the events one after another, each with its answer
abbrev pub Runs : State → List Event → List Answer → State → Type 0
Runs s [] [] end = end ≡ s
Runs s (e ∷ es) (x ∷ xs) end = InRange s.nodes e × ((next : State) × Steps s e x next × Runs next es xs end)
Runs s es xs end = ⊥
