use Rattle.std.proofs.Common.{◌≡◌}
use Rattle.turnstile.specs.Passes.{entered}
use Rattle.node_turns.specs.Turned.{IsInside}
use Rattle.write_set.specs.Writes.{writes}
use Rattle.transaction_part.proofs.LockSteps.{emptied, Locking}
use Rattle.transaction_part.proofs.locking.lock_each.Given as goal

abbrev pub invariant-loop-index : goal.invariant-loop-index
invariant-loop-index g l = record {
  inside : IsInside l.lock l.t.actor l.turn;
  left : writes l.set ≡ emptied l.index (writes l.fn.set);
  locking : Locking l.t l.r (writes l.fn.set) l.index l.top (entered l.fn.turn) (entered l.turn);
}
