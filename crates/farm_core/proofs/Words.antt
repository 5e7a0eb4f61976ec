-- The words that the proofs of this crate use: of the layers below, and of the machine.
pub use Rattle.a1_base.specs.declared.limits.TheConstants.{NODE_LIMIT, LAST_STAMP, ACTOR_LIMIT, COLLECTOR_ACTOR, STAMP_LIMIT}
pub use Rattle.a1_base.specs.declared.place.Addr.{Addr}
pub use Rattle.a1_base.specs.declared.place.TxnId.{TxnId}
pub use Rattle.a1_base.specs.Stamps.{IsStamp}
pub use Rattle.a1_base.specs.Lists.{IsAmong}
pub use Rattle.a1_base.specs.declared.Memory.{Memory}
pub use Rattle.object_region.specs.Occupancy.{region_count, same_addr, IsPlace, Occupancy, LeastOfMade, FirstOfNext, LeastFree, IsSpent}
pub use Rattle.version_chain.specs.Versions.{cut, newest, Version}
pub use Rattle.farm_node.specs.declared.entry.Start.{Start}
pub use Rattle.farm_node.specs.declared.entry.Entry.{Entry}
pub use Rattle.farm_node.specs.Cell.{Bytes, loaded_cell, read_answer, lock_answer, check_answer, Cell, raised_to, past_raised, locked_by, installed, released, past_released, goes, collected, past_collected, same_txn, is_gone, made_by}
pub use Rattle.farm_node.specs.NodeState.{occupancy, loaded_cells, begun, Loads, Lawful, replay, IsStart, NodeState, set_cell, places, least_pin, new_floor, past_over, Fits, looked_at, after, lesser, HeldBy, Adds, collect_answer, replay_from, LawfulFrom, PinnedBy, MayLock, FitsLock, FitsCheck, MayPut}
pub use Rattle.farm_node.specs.Story.{Installed, Story, nobody, loaded_puts, story_begun, stamped_bytes, Given, gives, story_after, story_from, story, value_at}
pub use Rattle.farm_node.specs.declared.node.Node.{Node}
pub use Rattle.farm_node.specs.Node.{plain_of, StandsFor}
pub use Rattle.farm_node.specs.declared.entry.Found.{Found}
pub use Rattle.farm_node.specs.declared.hold.Hold.{Hold}
pub use Rattle.farm_node.specs.declared.entry.Locked.{Locked}
pub use Rattle.farm_node.specs.declared.entry.CheckFault.{CheckFault}
pub use Rattle.farm_node.specs.declared.entry.Collected.{Collected}
pub use Rattle.farm_node.specs.State.{holds_there, may_lock, with_cell}
pub use Rattle.farm_node.specs.declared.entry.Placed.{Placed}
pub use Rattle.farm_node.specs.declared.faults.ReadFault.{ReadFault}
pub use Rattle.farm_node.specs.declared.faults.LockFault.{LockFault}
pub use Rattle.farm_node.specs.Answers.{read_entry, lock_entry, AddsIfMade}
pub use Rattle.farm_core.specs.Machine.{Transaction, unbegun, State, fresh, start_of, home, node_of, set_log, log_loaded, IsAddr, Meets, Acts, Steps, InRange, Runs, Unbegun, Reading, adding, moving, with_read, IsAt, found_answer, Reads, with_addr, Stage, Refused, begun_at, drawn_at, with_locked, ended, node_at, Gives, Allocates, Locks, Draws, Checks, in_stage, with_same, Drawn, Installing, AllSame, loading_over, HoldsLockAt, Collects, adding_to_all, HoldsLock, IsActor, set_transaction, counting_begin, IsObject, fault_answer}
pub use Rattle.farm_core.specs.declared.event.Event.{Event}
pub use Rattle.farm_core.specs.declared.event.Answer.{Answer}
pub use Rattle.farm_core.specs.declared.active.Active.{Active}
pub use Rattle.farm_core.specs.declared.farm.Slot.{Slot}
pub use Rattle.farm_core.specs.declared.farm.Farm.{Farm}
pub use Rattle.farm_core.specs.Standing.{plains, NodesStand, stage_of, in_list, is_unchecked, StandsOpen, Reached, plain_at, At, IsOf, is_reading, is_drawn, is_installing, holds_at, may_lock_at, is_none, meets_in, Aside, Stepped, AtClock, Acted, ActsOn, CanAct, CanActAt, read_fault, lock_fault}
pub use Rattle.farm_core.specs.Farms.{OpenStands, Stands, StepsTo, RunsTo, AreNew, SlotStands, SlotAt, AddsEach, may_begin, Shuts}
pub use Rattle.farm_core.specs.ReadSet.{ReadSet, marks, without_addr, reading, unread, checked}
pub use Rattle.farm_core.specs.declared.active.Phase.{Phase}
pub use Rattle.farm_core.specs.declared.reads.ReadMarks.{ReadMarks}
pub use Rattle.farm_core.specs.ReadSets.{read_set, all_checked}
