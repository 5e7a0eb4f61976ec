-- What a node's list says of a transaction that runs there.
use Rattle.std.specs.Prelude.{◌≡◌, ℕ, ◌<◌, true, false, List, ◌∷◌, ◌++◌, Some, None, Ok, Err}
use Rattle.a1_base.specs.declared.place.Addr.{Addr}
use Rattle.a1_base.specs.declared.place.TxnId.{TxnId}
use Rattle.farm_node.specs.declared.hold.Hold.{Hold}
use Rattle.farm_node.specs.declared.entry.Found.{Found}
use Rattle.farm_node.specs.declared.entry.Placed.{Placed}
use Rattle.farm_node.specs.declared.entry.CheckFault.{CheckFault}
use Rattle.farm_node.specs.declared.entry.CheckFault.TheVariants.{Held, Changed}
use Rattle.farm_node.specs.declared.faults.LockFault.{LockFault}
use Rattle.farm_node.specs.declared.faults.LockFault.TheVariants.{Held as LockHeld, Changed as LockChanged, Memory as NoLockMemory}
use Rattle.farm_node.specs.declared.entry.Entry.{Entry}
use Rattle.farm_node.specs.declared.entry.Entry.TheVariants.{Alloc, Lock, Check}
use Rattle.farm_node.specs.Cell.{Bytes, Cell}
use Rattle.farm_node.specs.NodeState.{NodeState, PinnedBy, HeldBy, HeldNew, replay}
use Rattle.farm_node.specs.Owned.{WasRead}
use Rattle.write_set.specs.declared.set.Write.{Write}
use Rattle.a1_base.specs.Lists.{IsAmong}

-- the transaction is pinned at most r, and its actor has no lock but of this transaction, at these addresses
pub record Runs (t : TxnId) (r : ℕ) (locks : Addr → Type 0) (log : List Entry) : Type 0 where
  pub pinned : PinnedBy (replay log) t.actor r
  pub only : (u : TxnId) (a : Addr) → u.actor ≡ t.actor → HeldBy (replay log) u a → (u ≡ t) × locks a

-- the actor has no pin and no lock
pub record IsIdle (k : ℕ) (log : List Entry) : Type 0 where
  pub pin : (replay log).pins k ≡ None
  pub locks : (u : TxnId) (a : Addr) → u.actor ≡ k → HeldBy (replay log) u a → ⊥

-- the transaction has the lock, and the bound is below w
abbrev pub HoldsBelow : TxnId → Addr → ℕ → NodeState → Type 0
HoldsBelow t a w p = (c : Cell) × (h : Hold) × (p.cells a ≡ Some c) × (c.lock ≡ Some h) × (h.by ≡ t) × (c.bound < w)

-- the actor read bytes there at r
pub record ReadBytes (k : ℕ) (a : Addr) (r : ℕ) (log : List Entry) : Type 0 where
  pub found : Found
  pub bytes : Bytes
  pub read : WasRead k a r found log
  pub is : found.value ≡ Some bytes

-- the transaction of the read stamp r made an object there
pub record WasMade (t : TxnId) (a : Addr) (r : ℕ) (log : List Entry) : Type 0 where
  pub before : List Entry
  pub bytes : Bytes
  pub placed : Placed
  pub rest : List Entry
  pub is : log ≡ before ++ Alloc t r bytes placed ∷ rest
  pub at : placed.at ≡ a

-- a check of the transaction there answered the same at w
pub record WasChecked (t : TxnId) (a : Addr) (r w : ℕ) (log : List Entry) : Type 0 where
  pub before : List Entry
  pub rest : List Entry
  pub is : log ≡ before ++ Check t a r w (Ok tt) ∷ rest

-- an own entry there answered that fault: a check, or a lock of these bytes, if any
abbrev pub IsRefusal : TxnId → Addr → ℕ → CheckFault → Entry → Type 0
IsRefusal t a r fault (Lock u b q new (Err f)) = (u ≡ t) × (b ≡ a) × (q ≡ r) × (f ≡ fault)
IsRefusal t a r fault (Check u b q w (Err f)) = (u ≡ t) × (b ≡ a) × (q ≡ r) × (f ≡ fault)
IsRefusal t a r fault e = ⊥

abbrev pub WasRefused : TxnId → Addr → ℕ → CheckFault → List Entry → Type 0
WasRefused t a r fault log = (e : Entry) × IsAmong e log × IsRefusal t a r fault e

-- the cause of a lock that was not given; want of memory has none
abbrev pub LockRefused : TxnId → Addr → ℕ → LockFault → List Entry → Type 0
LockRefused t a r (LockHeld by) log = WasRefused t a r (Held by) log
LockRefused t a r (LockChanged seen now) log = WasRefused t a r (Changed seen now) log
LockRefused t a r NoLockMemory log = Unit {0}

-- a write may be locked: the transaction made the object and has its lock, or it read bytes there. Where such an entry
-- stands is left open, so that the fact may be kept with a transaction
pub record Ready (t : TxnId) (r : ℕ) (log : List Entry) (w : Write) : Type 0 where
  pub new : w.made ≡ true → HeldNew (replay log) t w.at
  pub made : w.made ≡ true → ∥ WasMade t w.at r log ∥₁
  pub read : w.made ≡ false → ∥ ReadBytes t.actor w.at r log ∥₁
