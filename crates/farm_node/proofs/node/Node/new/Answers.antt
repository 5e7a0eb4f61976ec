use Rattle.farm_node.proofs.Common.{ap, ◌∙◌, occupancy_of, marked}
use Rattle.farm_node.specs.Waiting.{Waits}
use Rattle.farm_node.proofs.CellMaps.{agrees_empty, tracked_empty, locks_empty}
use Rattle.farm_node.proofs.node.Node.new.Goals as goal

pub invariant_of-result-clause-agrees : goal.invariant_of-result-clause-agrees
invariant_of-result-clause-agrees c = agrees_empty c.new.result (occupancy_of c.new-2.result) c.args.node c.args.nodes c.new.ensures.empty c.new-2.ensures

pub invariant_of-result-clause-tracked : goal.invariant_of-result-clause-tracked
invariant_of-result-clause-tracked c = tracked_empty c.new.result (marked c.new-3.result) c.new.ensures.empty

pub invariant_of-result-clause-reserved : goal.invariant_of-result-clause-reserved
invariant_of-result-clause-reserved c = ap (λ (w : Waits). w.reserved) c.new-3.ensures ∙ locks_empty c.new.result c.new.ensures.empty
