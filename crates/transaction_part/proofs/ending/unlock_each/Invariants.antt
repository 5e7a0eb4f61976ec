use Rattle.turnstile.specs.Passes.{entered}
use Rattle.node_turns.specs.Turned.{IsInside}
use Rattle.write_set.specs.Writes.{writes}
use Rattle.transaction_part.proofs.Endings.{FreesTo}
use Rattle.transaction_part.proofs.ending.unlock_each.Given as goal

abbrev pub invariant-loop-index : goal.invariant-loop-index
invariant-loop-index g l = record {
  inside : IsInside l.lock l.t.actor l.turn;
  frees : FreesTo l.t l._r (writes l.set) (entered l.fn.turn) l.index (entered l.turn);
}
