use Rattle.farm_node.specs.declared.entry.Entry.TheVariants as entry
use Rattle.farm_core.proofs.EachNode.{EachDone}
use Rattle.farm_core.proofs.farm.shut_all.Given as goal

abbrev pub invariant-loop-node : goal.invariant-loop-node
invariant-loop-node l = EachDone (λ p. entry.Shut l.actor) l.fn.nodes l.node-index l.nodes
