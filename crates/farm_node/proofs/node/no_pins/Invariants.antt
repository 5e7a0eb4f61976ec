use Rattle.farm_node.proofs.Common.{◌≡◌, None, replicate}
use Rattle.farm_node.proofs.node.no_pins.Given as goal

abbrev pub invariant-loop : goal.invariant-loop
invariant-loop l = l.pins.items ≡ replicate l.counter None
