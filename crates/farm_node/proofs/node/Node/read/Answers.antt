use Rattle.farm_node.proofs.Common.{Some, is_some, ap, occupancy_of, cells_of, plain_of, marked}
use Rattle.farm_node.proofs.CellMaps.{cells_written, agrees_set}
use Rattle.farm_node.proofs.Dues.{tracked_kept, locks_kept}
use Rattle.farm_node.proofs.Events.{read_there, reads_versions, reads_locks}
use Rattle.farm_node.proofs.node.Node.read.Goals as goal

pub invariant_of-self-clause-agrees : goal.invariant_of-self-clause-agrees
invariant_of-self-clause-agrees c =
    agrees_set (cells_of c.args.self.now.objects) (cells_of (c.get_mut.follows.lender c.read.new.self)) (occupancy_of c.args.self.now.places) c.args.at (Some c.read.new.self) c.args.self.now.agrees
    (cells_written c.args.self.now.objects (c.get_mut.follows.lender c.read.new.self) c.args.at c.in-Some.object.now c.read.new.self c.in-Some.ensures.value (c.get_mut.follows.holds c.read.new.self))
    (ap is_some c.in-Some.ensures.value)

pub invariant_of-self-clause-tracked : goal.invariant_of-self-clause-tracked
invariant_of-self-clause-tracked c =
    tracked_kept (cells_of c.args.self.now.objects) (cells_of (c.get_mut.follows.lender c.read.new.self)) (marked c.args.self.now.waiting) c.args.at c.in-Some.object.now c.read.new.self c.args.self.now.tracked c.in-Some.ensures.value
    (cells_written c.args.self.now.objects (c.get_mut.follows.lender c.read.new.self) c.args.at c.in-Some.object.now c.read.new.self c.in-Some.ensures.value (c.get_mut.follows.holds c.read.new.self))
    (reads_versions c.args.stamp c.in-Some.object.now c.read.new.self c.read.result c.read.ensures)

pub invariant_of-self-clause-reserved : goal.invariant_of-self-clause-reserved
invariant_of-self-clause-reserved c =
    locks_kept c.args.self.now.objects (c.get_mut.follows.lender c.read.new.self) c.args.at c.in-Some.object.now c.read.new.self c.args.self.now.waiting.reserved c.in-Some.ensures.value
    (c.get_mut.follows.holds c.read.new.self) (reads_locks c.args.stamp c.in-Some.object.now c.read.new.self c.read.result c.read.ensures) c.args.self.now.reserved

pub returns-in-Some : goal.returns-in-Some
returns-in-Some c =
    read_there (plain_of c.args.self.now) (cells_of (c.get_mut.follows.lender c.read.new.self)) c.args.at
    c.args.actor c.args.stamp c.in-Some.object.now c.read.new.self c.read.result c.in-Some.ensures.value
    (cells_written c.args.self.now.objects (c.get_mut.follows.lender c.read.new.self) c.args.at c.in-Some.object.now c.read.new.self c.in-Some.ensures.value (c.get_mut.follows.holds c.read.new.self))
    c.read.ensures c.requires.pinned c.requires.stamp
