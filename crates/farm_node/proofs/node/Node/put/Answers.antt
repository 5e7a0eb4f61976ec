use Rattle.farm_node.proofs.Common.{Some, is_some, ap, ◌∙◌, occupancy_of, cells_of, set_cell, marked}
use Rattle.farm_node.proofs.CellMaps.{cells_written, agrees_set}
use Rattle.farm_node.proofs.Dues.{tracked_put, settles, some_lock, held_by, locks_ended, installed_open}
use Rattle.farm_node.proofs.node.Node.put.Goals as goal

pub settle-requires : goal.settle-requires
settle-requires c =
    some_lock c.args.self.now.objects c.args.at c.args.self.now.waiting.reserved c.args.self.now.reserved (held_by _ _ _ c.requires.may.2 c.requires.may.3)

pub invariant_of-self-clause-agrees : goal.invariant_of-self-clause-agrees
invariant_of-self-clause-agrees c =
    agrees_set (cells_of c.args.self.now.objects) (cells_of (c.get_mut.follows.lender c.install-waits.new.self)) (occupancy_of c.args.self.now.places) c.args.at (Some c.install-waits.new.self) c.args.self.now.agrees
    (cells_written c.args.self.now.objects (c.get_mut.follows.lender c.install-waits.new.self) c.args.at c.in-Some.object.now c.install-waits.new.self c.in-Some.ensures.value (c.get_mut.follows.holds c.install-waits.new.self))
    (ap is_some c.in-Some.ensures.value)

pub invariant_of-self-clause-tracked : goal.invariant_of-self-clause-tracked
invariant_of-self-clause-tracked c =
    let s = settles (marked c.args.self.now.waiting) (marked c.settle.new.self) c.args.write_stamp c.args.at c.install-waits.result c.settle.ensures.listed in
    tracked_put (cells_of c.args.self.now.objects) (cells_of (c.get_mut.follows.lender c.install-waits.new.self)) (marked c.args.self.now.waiting) c.args.at (marked c.settle.new.self) c.args.write_stamp s.0 c.in-Some.object.now
    c.args.self.now.tracked c.in-Some.ensures.value
    ((cells_written c.args.self.now.objects (c.get_mut.follows.lender c.install-waits.new.self) c.args.at c.in-Some.object.now c.install-waits.new.self c.in-Some.ensures.value (c.get_mut.follows.holds c.install-waits.new.self)) ∙ ap (λ o. set_cell c.args.at o (cells_of c.args.self.now.objects)) c.install-waits.ensures.object)
    (λ left. s.1 (c.install-waits.ensures.waits ∙ left))

pub invariant_of-self-clause-reserved : goal.invariant_of-self-clause-reserved
invariant_of-self-clause-reserved c =
    locks_ended c.args.self.now.objects (c.get_mut.follows.lender c.install-waits.new.self) c.args.at c.in-Some.object.now c.install-waits.new.self c.args.self.now.waiting.reserved c.settle.new.self.reserved c.in-Some.ensures.value
    (c.get_mut.follows.holds c.install-waits.new.self) (held_by _ _ _ c.requires.may.2 c.requires.may.3) (installed_open c.args.write_stamp c.in-Some.object.now c.install-waits.new.self c.install-waits.ensures.object) c.args.self.now.reserved c.settle.ensures.reserved
