use Rattle.farm_node.proofs.Common.{into_iter_items, plain_of}
use Rattle.farm_node.proofs.Loads.{IsLoading}
use Rattle.farm_node.proofs.node.Node.load.Given as goal

abbrev pub invariant-loop-at : goal.invariant-loop-at
invariant-loop-at l = IsLoading (plain_of l.fn.self) l.fn.objects.items (plain_of l.self) l.yielded (into_iter_items l.at-iterator)
