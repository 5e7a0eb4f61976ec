use Rattle.farm_commit.specs.Ending.{JoinsFirst}
use Rattle.farm_commit.proofs.closing.join_parts.Given as goal

abbrev pub invariant-loop-node : goal.invariant-loop-node
invariant-loop-node l = record {
  joins : JoinsFirst l.locks l.node l.fn.row.items l.row.items l.fn.into.items l.into.items;
}
