use Rattle.std.proofs.Common.{max}
use Rattle.farm_node.specs.declared.entry.Entry.TheVariants as entry
use Rattle.farm_core.proofs.EachNode.{EachDone}
use Rattle.farm_core.proofs.farm.open_all.Given as goal

abbrev pub invariant-loop-node : goal.invariant-loop-node
invariant-loop-node l = EachDone (λ p. entry.Open l.actor l.stamp (max l.stamp p.floor)) l.fn.nodes l.node-index l.nodes
