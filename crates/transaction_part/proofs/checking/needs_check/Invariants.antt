use Rattle.std.proofs.Common.{◌≡◌, ◌%◌}
use Rattle.write_set.specs.Writes.{writes, Lacks}
use Rattle.transaction_part.proofs.Lists.{Before}
use Rattle.transaction_part.proofs.checking.needs_check.Given as goal

abbrev pub invariant-loop-seen : goal.invariant-loop-seen
invariant-loop-seen l = Before (λ s. s.at.region % l.nodes ≡ l.node → Lacks (writes l.set) s.at → ⊥) l.reads l.seen-index
