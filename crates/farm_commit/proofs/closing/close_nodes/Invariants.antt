use Rattle.std.proofs.Common.{◌≡◌, ◌≤◌, ◌++◌, ℕ, length, slice_get, vec_capacity, vec_len}
use Rattle.std.specs.Vec.Iter.{into_iter_items}
use Rattle.farm_commit.specs.Ending.{EndsAll}
use Rattle.farm_commit.proofs.closing.close_nodes.Given as goal

abbrev pub invariant-loop-lock : goal.invariant-loop-lock
invariant-loop-lock l = record {
  all : l.fn.locks.items ≡ l.yielded ++ into_iter_items l.lock-iterator;
  count : vec_len l.room ≡ length l.yielded;
  room : length l.fn.locks.items ≤ vec_capacity l.room;
  parts : length l.parts.items ≡ length l.fn.parts.items;
  rest : (i : ℕ) → vec_len l.room ≤ i → slice_get l.parts.items i ≡ slice_get l.fn.parts.items i;
  ends : EndsAll l.yielded l.fn.parts.items l.room.items;
}
