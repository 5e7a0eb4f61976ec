use Rattle.turnstile.specs.Passes.{entered}
use Rattle.write_set.specs.Writes.{writes}
use Rattle.transaction_part.proofs.Checks.{ChecksTo}
use Rattle.transaction_part.proofs.checking.check_each.Given as goal

abbrev pub invariant-loop-index : goal.invariant-loop-index
invariant-loop-index g l =
    ChecksTo l.lock l.t l.r l.w l.node l.nodes (writes l.set) l.reads (entered l.fn.turn) l.index l.turn
