use Rattle.farm_node.proofs.Common.{Some, is_some, ap, occupancy_of, cells_of, marked, Cell}
use Rattle.farm_node.proofs.CellMaps.{cells_written, agrees_set}
use Rattle.farm_node.proofs.Dues.{tracked_kept, tracked_as, some_lock, held_by, locks_ended}
use Rattle.farm_node.specs.Waiting.{Waits, held_in}
use Rattle.farm_node.proofs.node.Node.unlock.Goals as goal

pub give_back-requires : goal.give_back-requires
give_back-requires c = held_by _ _ _ c.requires.held.2 c.requires.held.3

pub give_up-requires : goal.give_up-requires
give_up-requires c =
    some_lock c.args.self.now.objects c.args.at c.args.self.now.waiting.reserved c.args.self.now.reserved (held_by _ _ _ c.requires.held.2 c.requires.held.3)

pub invariant_of-self-clause-agrees : goal.invariant_of-self-clause-agrees
invariant_of-self-clause-agrees c =
    agrees_set (cells_of c.args.self.now.objects) (cells_of (c.get_mut.follows.lender c.release.new.self)) (occupancy_of c.args.self.now.places) c.args.at (Some c.release.new.self) c.args.self.now.agrees
    (cells_written c.args.self.now.objects (c.get_mut.follows.lender c.release.new.self) c.args.at c.in-Some.object.now c.release.new.self c.in-Some.ensures.value (c.get_mut.follows.holds c.release.new.self))
    (ap is_some c.in-Some.ensures.value)

pub invariant_of-self-clause-tracked : goal.invariant_of-self-clause-tracked
invariant_of-self-clause-tracked c =
    tracked_as (cells_of (c.get_mut.follows.lender c.release.new.self)) c.args.self.now.waiting c.give_up.new.self
    (tracked_kept (cells_of c.args.self.now.objects) (cells_of (c.get_mut.follows.lender c.release.new.self))
    (marked c.args.self.now.waiting) c.args.at c.in-Some.object.now c.release.new.self c.args.self.now.tracked
    c.in-Some.ensures.value (cells_written c.args.self.now.objects (c.get_mut.follows.lender c.release.new.self) c.args.at
    c.in-Some.object.now c.release.new.self c.in-Some.ensures.value (c.get_mut.follows.holds c.release.new.self))
    (ap (λ (x : Cell). x.versions) c.release.ensures)) (ap (λ (w : Waits). w.marks) c.give_up.ensures)

pub invariant_of-self-clause-reserved : goal.invariant_of-self-clause-reserved
invariant_of-self-clause-reserved c =
    locks_ended c.args.self.now.objects (c.get_mut.follows.lender c.release.new.self) c.args.at c.in-Some.object.now c.release.new.self c.args.self.now.waiting.reserved c.give_up.new.self.reserved c.in-Some.ensures.value
    (c.get_mut.follows.holds c.release.new.self) (held_by _ _ _ c.requires.held.2 c.requires.held.3) (ap held_in c.release.ensures) c.args.self.now.reserved (ap (λ (w : Waits). w.reserved) c.give_up.ensures)
