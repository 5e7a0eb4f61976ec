use Rattle.std.proofs.Common.{◌≡◌, true, vec_len}
use Rattle.farm_core.proofs.Words.{Addr, in_list, holds_at}
use Rattle.farm_core.proofs.active.any_held.Given as goal

abbrev pub invariant-loop-at : goal.invariant-loop-at
invariant-loop-at l = record {
  fewer : (a : Addr) → in_list a l.locked.items ≡ true → in_list a l.fn.locked.items ≡ true;
  held : (a : Addr) → holds_at l.nodes l.transaction a ≡ true → in_list a l.fn.locked.items ≡ true → in_list a l.locked.items ≡ true;
}

abbrev pub decreases-loop-at : goal.decreases-loop-at
decreases-loop-at l = vec_len l.locked
