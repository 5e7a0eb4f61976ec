use Rattle.farm_node.proofs.Common.{Some, is_some, ap, occupancy_of, cells_of, plain_of}
use Rattle.farm_node.proofs.CellMaps.{cells_written, agrees_set}
use Rattle.farm_node.proofs.Dues.{hold_lists, locks_held, valued_there}
use Rattle.farm_node.proofs.Events.{hold_refused}
use Rattle.farm_node.proofs.node.Node.hold.Goals as goal

pub hold-requires : goal.hold-requires
hold-requires c = record { valued = valued_there c.in-Some.object.now _ c.in-Some.ensures.value c.requires.valued }

pub invariant_of-self-clause-agrees : goal.invariant_of-self-clause-agrees
invariant_of-self-clause-agrees c =
    agrees_set (cells_of c.args.self.now.objects) (cells_of (c.get_mut.follows.lender c.hold.new.self)) (occupancy_of c.args.self.now.places) c.args.at (Some c.hold.new.self) c.args.self.now.agrees
    (cells_written c.args.self.now.objects (c.get_mut.follows.lender c.hold.new.self) c.args.at c.in-Some.object.now c.hold.new.self c.in-Some.ensures.value (c.get_mut.follows.holds c.hold.new.self))
    (ap is_some c.in-Some.ensures.value)

pub invariant_of-self-clause-tracked : goal.invariant_of-self-clause-tracked
invariant_of-self-clause-tracked c =
    hold_lists c.args.self.now.objects (c.get_mut.follows.lender c.hold.new.self) c.args.at c.args.transaction c.args.new
    c.in-Some.object.now c.hold.new.self c.args.self.now.waiting c.hold.new.waiting c.in-Some.ensures.value c.hold.result
    c.args.self.now.tracked (cells_written c.args.self.now.objects (c.get_mut.follows.lender c.hold.new.self) c.args.at
    c.in-Some.object.now c.hold.new.self c.in-Some.ensures.value (c.get_mut.follows.holds c.hold.new.self))
    c.hold.ensures.ok c.hold.ensures.err

pub invariant_of-self-clause-reserved : goal.invariant_of-self-clause-reserved
invariant_of-self-clause-reserved c =
    locks_held c.args.self.now.objects (c.get_mut.follows.lender c.hold.new.self) c.args.at c.args.transaction c.args.new
    c.in-Some.object.now c.hold.new.self c.args.self.now.waiting c.hold.new.waiting c.in-Some.ensures.value c.hold.result
    (c.get_mut.follows.holds c.hold.new.self) c.hold.ensures.ok c.hold.ensures.err c.args.self.now.reserved

pub returns-in-Some-clause-err : goal.returns-in-Some-clause-err
returns-in-Some-clause-err c =
    hold_refused (plain_of c.args.self.now) (cells_of (c.get_mut.follows.lender c.hold.new.self)) c.args.at
    c.in-Some.object.now c.hold.new.self c.args.self.now.waiting c.hold.new.waiting c.hold.result c.in-Some.ensures.value
    (cells_written c.args.self.now.objects (c.get_mut.follows.lender c.hold.new.self) c.args.at c.in-Some.object.now c.hold.new.self c.in-Some.ensures.value (c.get_mut.follows.holds c.hold.new.self))
    c.hold.ensures.err
