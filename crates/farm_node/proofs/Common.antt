-- The names that most proofs of this crate cite, passed on from one place. Declares nothing.
pub use Rattle.std.proofs.Common.{◌≡◌, ◌≢◌, ◌⊎◌, ℕ, zero, suc, ◌+◌, ◌-◌, ◌^◌, ◌<◌, ◌≤◌, ◌==◌, nat_le, nat_lt, eqb, leb, max, min, cond, Bool, true, false, not, ◌&&◌, ◌||◌}
pub use Rattle.std.proofs.Common.{List, [], ◌∷◌, ◌++◌, length, take, filter, Option, Some, None, Result, Ok, Err, is_some, OnOk, OnErr, sym, refl, ap, ◌∙◌, subst, inl, inr, ⊎_elim, arith}
pub use Rattle.std.proofs.Common.{length-append, append_assoc, Ordering, ◌↔◌, IsTrue, slice_index_or, replicate}
pub use Rattle.std.proofs.lemmas.Bool.{cond_both, cond-true, cond-false, and_parts, eq-eqb, eqb-true, eqb-false, ne_eqb, ltb-true, ltb-false, leb-true, or_left, or_right, or_cases, both_ways, cases_Bool}
pub use Rattle.std.proofs.lemmas.Bool.{and_right, not-true, le-leb, lt-leb, false_from_ne_true, cases_eq}
pub use Rattle.std.specs.BTreeMap.{BTreeMap, WritesThrough, is_at, IsOrdered, btree_map_len, values}
pub use Rattle.std.specs.List.{AllByRecursion, list_any}
pub use Rattle.std.proofs.lemmas.List.{take-append-le, append-nil, nil_from_length}
pub use Rattle.std.proofs.Math.Seq.{take-length}
pub use Rattle.std.specs.Ordering.{nat_cmp, is_eq}
pub use Rattle.std.specs.Map.{lookup, values_of, keys_of}
pub use Rattle.std.specs.Vec.Iter.{into_iter_items}
pub use Rattle.a1_base.specs.declared.Memory.{Memory}
pub use Rattle.a1_base.specs.declared.place.Addr.{Addr}
pub use Rattle.a1_base.specs.declared.place.TxnId.{TxnId}
pub use Rattle.a1_base.specs.Lists.{IsAmong}
pub use Rattle.a1_base.specs.Stamps.{IsStamp}
pub use Rattle.object_region.specs.Regions.{occupancy_of}
pub use Rattle.object_region.specs.Occupancy.{width, same_addr, add_region, Occupancy, Rises, IsOccupancy, without_place, addr_order, vacant, with_place}
pub use Rattle.object_region.specs.Occupancy.{IsBelow}
pub use Rattle.version_chain.specs.Versions.{Version, version_at, newest, cut, Falls}
pub use Rattle.farm_node.specs.declared.hold.Hold.{Hold}
pub use Rattle.farm_node.specs.declared.entry.Found.{Found}
pub use Rattle.farm_node.specs.declared.entry.Placed.{Placed}
pub use Rattle.farm_node.specs.declared.entry.Locked.{Locked}
pub use Rattle.farm_node.specs.declared.entry.Collected.{Collected}
pub use Rattle.farm_node.specs.declared.entry.CheckFault.{CheckFault}
pub use Rattle.farm_node.specs.declared.entry.CheckFault.TheVariants.{Held, Changed}
pub use Rattle.farm_node.specs.declared.entry.Start.{Start}
pub use Rattle.farm_node.specs.declared.entry.Entry.{Entry}
pub use Rattle.farm_node.specs.declared.entry.Entry.TheVariants.{Made, Open, Shut, Read, Alloc, Lock, Check, Put, Unlock, Collect}
pub use Rattle.farm_node.specs.Cell.{Bytes, Cell, is_open, same_txn, found_of, found_at, read_answer, raised_to, past_raised, made_by, loaded_cell, locked_by}
pub use Rattle.farm_node.specs.Cell.{unless_changed, lock_given, lock_answer, check_answer, pending_of, installed, released, past_released, is_absent, is_gone, goes}
pub use Rattle.farm_node.specs.Cell.{is_newest_absent, collected, past_collected, objects_in, versions_in}
pub use Rattle.farm_node.specs.NodeState.{NodeState, set_cell, set_pin, places_in, places, total, object_count, version_count, lesser, least_pin, new_floor, past_over}
pub use Rattle.farm_node.specs.NodeState.{after_collect, counted, PinnedBy, HeldBy, HeldNew, HasValue, MayLock, MayPut, FitsLock, FitsCheck, Fits, looked_at, after, Adds}
pub use Rattle.farm_node.specs.NodeState.{loaded_cells, loaded_regions, begun, Loads, IsStart, replay_from, LawfulFrom, replay, Lawful}
pub use Rattle.farm_node.specs.Story.{Given, gives, Installed, Story, with_given, with_put, story_after, story_from, nobody, loaded_puts, untold, story_begun, story}
pub use Rattle.farm_node.specs.Story.{version_of, versions_of, stamped_bytes, value_at, number_of}
pub use Rattle.farm_node.specs.Laws.{Spares, PutsAt, KeepsLock, Decides, MineDecides, ReadsHold, PinsHold}
pub use Rattle.farm_node.specs.Locks.{IsOther, Takes, BlamesHolder, BlamesPut, StampsBelow, AnswersStamps}
pub use Rattle.farm_node.specs.State.{cells_of, plain_from, AgreesWith, versions_there, leaves_old, with_cell, with_objects, CanLoad, has_lock, goes_there, bound_there}
pub use Rattle.farm_node.specs.State.{SweepsCell, SweepsNext, collected_at, past_with, given_back, holds_there, has_value, is_new, may_lock}
pub use Rattle.farm_node.specs.Node.{plain_of, StandsFor}
pub use Rattle.farm_node.specs.Waiting.{is_mark, marked, olds_wait, absent_waits, waits_there, IsTracked, held_in, held_there, lock_count}
