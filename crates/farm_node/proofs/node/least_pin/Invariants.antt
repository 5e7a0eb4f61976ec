use Rattle.farm_node.proofs.Common.{◌≡◌, None, slice_index_or, least_pin}
use Rattle.farm_node.proofs.node.least_pin.Given as goal

abbrev pub invariant-loop-k : goal.invariant-loop-k
invariant-loop-k l = l.least ≡ least_pin l.fn.proposal (λ k. slice_index_or l.pins k None) l.k
