use Rattle.farm_node.proofs.Common.{refl, occupancy_of, cells_of}
use Rattle.farm_node.proofs.CellMaps.{agrees_same}
use Rattle.farm_node.proofs.node.Node.alloc.Goals as goal

pub invariant_of-self-clause-agrees : goal.invariant_of-self-clause-agrees
invariant_of-self-clause-agrees c =
    agrees_same (cells_of c.args.self.now.objects) (cells_of c.args.self.now.objects) (occupancy_of c.args.self.now.places) (occupancy_of c.least_free.new.self) c.args.self.now.agrees refl c.least_free.ensures.same
