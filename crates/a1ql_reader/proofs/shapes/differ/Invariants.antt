use Rattle.std.proofs.Common.{◌≡◌, length}
use Rattle.a1ql_reader.specs.Shapes.{differ}
use Rattle.a1ql_reader.proofs.shapes.differ.Given as goal

abbrev pub invariant-loop-rest : goal.invariant-loop-rest
invariant-loop-rest l = differ l.rest ≡ differ l.items

abbrev pub decreases-loop-rest : goal.decreases-loop-rest
decreases-loop-rest l = length l.rest
