use Rattle.farm_node.proofs.Common.{Some, is_some, ap, occupancy_of, cells_of, plain_of, marked}
use Rattle.farm_node.proofs.CellMaps.{cells_written, agrees_set}
use Rattle.farm_node.proofs.Dues.{tracked_kept, locks_kept}
use Rattle.farm_node.proofs.Events.{check_there, check_nowhere, check_versions, check_locks}
use Rattle.farm_node.proofs.node.Node.check.Goals as goal

pub invariant_of-self-clause-agrees : goal.invariant_of-self-clause-agrees
invariant_of-self-clause-agrees c =
    agrees_set (cells_of c.args.self.now.objects) (cells_of (c.get_mut.follows.lender c.check.new.self)) (occupancy_of c.args.self.now.places) c.args.at (Some c.check.new.self) c.args.self.now.agrees
    (cells_written c.args.self.now.objects (c.get_mut.follows.lender c.check.new.self) c.args.at c.in-Some.object.now c.check.new.self c.in-Some.ensures.value (c.get_mut.follows.holds c.check.new.self))
    (ap is_some c.in-Some.ensures.value)

pub invariant_of-self-clause-tracked : goal.invariant_of-self-clause-tracked
invariant_of-self-clause-tracked c =
    tracked_kept (cells_of c.args.self.now.objects) (cells_of (c.get_mut.follows.lender c.check.new.self)) (marked c.args.self.now.waiting) c.args.at c.in-Some.object.now c.check.new.self c.args.self.now.tracked c.in-Some.ensures.value
    (cells_written c.args.self.now.objects (c.get_mut.follows.lender c.check.new.self) c.args.at c.in-Some.object.now c.check.new.self c.in-Some.ensures.value (c.get_mut.follows.holds c.check.new.self))
    (check_versions c.args.write_stamp c.in-Some.object.now c.check.new.self c.check.result c.check.ensures.ok c.check.ensures.err)

pub invariant_of-self-clause-reserved : goal.invariant_of-self-clause-reserved
invariant_of-self-clause-reserved c =
    locks_kept c.args.self.now.objects (c.get_mut.follows.lender c.check.new.self) c.args.at c.in-Some.object.now c.check.new.self c.args.self.now.waiting.reserved c.in-Some.ensures.value
    (c.get_mut.follows.holds c.check.new.self) (check_locks c.args.write_stamp c.in-Some.object.now c.check.new.self c.check.result c.check.ensures.ok c.check.ensures.err) c.args.self.now.reserved

pub returns-in-Some : goal.returns-in-Some
returns-in-Some c =
    check_there (plain_of c.args.self.now) (cells_of (c.get_mut.follows.lender c.check.new.self)) c.args.at
    c.args.transaction c.args.read_stamp c.args.write_stamp c.in-Some.object.now c.check.new.self c.check.result c.in-Some.ensures.value
    (cells_written c.args.self.now.objects (c.get_mut.follows.lender c.check.new.self) c.args.at c.in-Some.object.now c.check.new.self c.in-Some.ensures.value (c.get_mut.follows.holds c.check.new.self))
    c.check.ensures.answer c.check.ensures.ok c.check.ensures.err c.requires.pinned c.requires.stamps c.requires.not_own

pub returns-in-None : goal.returns-in-None
returns-in-None c =
    check_nowhere (plain_of c.args.self.now) (cells_of c.get_mut.follows.lender-at-none) c.max-self.result c.args.at c.args.transaction c.args.read_stamp c.args.write_stamp c.in-None.ensures.value
    (ap cells_of c.get_mut.follows.holds-at-none) c.max-self.ensures c.requires.pinned c.requires.stamps c.requires.not_own
