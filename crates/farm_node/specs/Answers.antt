-- Which entry a call's answer stands for, and what that leaves; for want of memory there is none.
use Rattle.std.specs.Prelude.{◌≡◌, ℕ, max, Option, Some, None, Result, Ok, Err}
use Rattle.a1_base.specs.declared.place.Addr.{Addr}
use Rattle.a1_base.specs.declared.place.TxnId.{TxnId}
use Rattle.farm_node.specs.declared.entry.Found.{Found}
use Rattle.farm_node.specs.declared.entry.Locked.{Locked}
use Rattle.farm_node.specs.declared.entry.Placed.{Placed}
use Rattle.farm_node.specs.declared.entry.CheckFault.{CheckFault}
use Rattle.farm_node.specs.declared.entry.CheckFault.TheVariants.{Held, Changed}
use Rattle.farm_node.specs.declared.faults.ReadFault.{ReadFault}
use Rattle.farm_node.specs.declared.faults.ReadFault.TheVariants.{Held as ReadHeld, Memory as NoReadMemory}
use Rattle.farm_node.specs.declared.faults.PlaceFault.{PlaceFault}
use Rattle.farm_node.specs.declared.faults.LockFault.{LockFault}
use Rattle.farm_node.specs.declared.faults.LockFault.TheVariants.{Held as LockHeld, Changed as LockChanged, Memory as NoLockMemory}
use Rattle.farm_node.specs.declared.entry.Entry.{Entry}
use Rattle.farm_node.specs.declared.entry.Entry.TheVariants.{Read, Alloc, Lock}
use Rattle.farm_node.specs.Cell.{Bytes, Cell, read_answer}
use Rattle.farm_node.specs.NodeState.{NodeState, Adds}

-- a state with the entry that was made, or the same state where none was
abbrev pub AddsIfMade : NodeState → Option Entry → NodeState → Type 0
AddsIfMade p None q = q ≡ p
AddsIfMade p (Some e) q = Adds p e q

-- a read makes an entry, or none for want of memory
abbrev pub read_entry : ℕ → Addr → ℕ → Result Found ReadFault → Option Entry
read_entry k a s (Ok found) = Some (Read k a s (Ok found))
read_entry k a s (Err (ReadHeld by)) = Some (Read k a s (Err by))
read_entry k a s (Err NoReadMemory) = None

abbrev pub alloc_entry : TxnId → ℕ → Bytes → Result Placed PlaceFault → Option Entry
alloc_entry t r v (Ok placed) = Some (Alloc t r v placed)
alloc_entry t r v (Err fault) = None

abbrev pub fault_of_check : CheckFault → LockFault
fault_of_check (Held by) = LockHeld by
fault_of_check (Changed seen now) = LockChanged seen now

-- a lock that was asked for
abbrev pub lock_entry : TxnId → Addr → ℕ → Option Bytes → Result Locked LockFault → Option Entry
lock_entry t a r new (Ok locked) = Some (Lock t a r new (Ok locked))
lock_entry t a r new (Err (LockHeld by)) = Some (Lock t a r new (Err (Held by)))
lock_entry t a r new (Err (LockChanged seen now)) = Some (Lock t a r new (Err (Changed seen now)))
lock_entry t a r new (Err NoLockMemory) = None

-- the same of a read of one cell
abbrev pub ReadsCell : ℕ → Cell → Result Found ReadFault → Cell → Type 0
ReadsCell s c (Ok found) d = (Ok found ≡ read_answer s (Some c)) × (d ≡ record c { bound = max c.bound s })
ReadsCell s c (Err (ReadHeld by)) d = (Err by ≡ read_answer s (Some c)) × (d ≡ c)
ReadsCell s c (Err NoReadMemory) d = d ≡ c
