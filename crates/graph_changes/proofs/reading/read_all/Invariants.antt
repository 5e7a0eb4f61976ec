use Rattle.std.proofs.Common.{length}
use Rattle.graph_changes.proofs.ReadLemmas.{SoFar}
use Rattle.graph_changes.proofs.reading.read_all.Given as goal

abbrev pub invariant-loop-rest : goal.invariant-loop-rest
invariant-loop-rest l = SoFar l.bytes l.steps.items l.rest

abbrev pub decreases-loop-rest : goal.decreases-loop-rest
decreases-loop-rest l = length l.rest
