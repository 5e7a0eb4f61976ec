use Rattle.farm_node.proofs.Common.{Some, ap, occupancy_of, cells_of, held_in, marked, waits_there}
use Rattle.farm_node.proofs.CellMaps.{agrees_inserted, tracked_inserted}
use Rattle.farm_node.proofs.Dues.{locks_loaded}
use Rattle.farm_node.proofs.node.Node.load_one.Goals as goal

pub invariant_of-self-clause-agrees : goal.invariant_of-self-clause-agrees
invariant_of-self-clause-agrees c =
    agrees_inserted (cells_of c.args.self.now.objects) (cells_of c.insert_at.new.objects)
    (occupancy_of c.args.self.now.places) (occupancy_of c.insert_at.new.places) c.args.at c.in_ok-object.object
    c.insert_at.result c.args.self.now.agrees c.insert_at.ensures.ok c.insert_at.ensures.err

pub invariant_of-self-clause-tracked : goal.invariant_of-self-clause-tracked
invariant_of-self-clause-tracked c =
    tracked_inserted (cells_of c.args.self.now.objects) (cells_of c.insert_at.new.objects)
    (occupancy_of c.args.self.now.places) (occupancy_of c.insert_at.new.places) c.args.at c.in_ok-object.object
    (marked c.args.self.now.waiting) c.insert_at.result c.args.self.now.tracked
    (ap (λ o. waits_there (λ s. marked c.args.self.now.waiting s c.args.at) (Some o)) c.in_ok-object.ensures)
    c.insert_at.ensures.ok c.insert_at.ensures.err

pub invariant_of-self-clause-reserved : goal.invariant_of-self-clause-reserved
invariant_of-self-clause-reserved c =
    locks_loaded c.args.self.now.objects c.insert_at.new.objects c.in_ok-object.object c.insert_at.result
    c.args.self.now.waiting.reserved c.args.self.now.reserved (ap held_in c.in_ok-object.ensures) c.insert_at.ensures.locks
