use Rattle.std.proofs.Common.{◌≡◌, vec_capacity}
use Rattle.farm_core.proofs.Running.{NodesBegun}
use Rattle.farm_core.proofs.farm.new_nodes.Given as goal

abbrev pub invariant-loop-number : goal.invariant-loop-number
invariant-loop-number l = record { begun : NodesBegun l.count l.number l.nodes.items; room : vec_capacity l.nodes ≡ l.count }
