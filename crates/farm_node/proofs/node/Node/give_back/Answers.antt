use Rattle.farm_node.proofs.Common.{None, sym, refl, ap, ◌∙◌, occupancy_of, cells_of, plain_of, marked}
use Rattle.farm_node.proofs.CellMaps.{agrees_without, agrees_same, unset, none_given_back}
use Rattle.farm_node.proofs.Dues.{tracked_set, tracked_as, some_lock, locks_gone, none_held}
use Rattle.farm_node.specs.Waiting.{Waits}
use Rattle.farm_node.proofs.node.Node.give_back.Goals as goal

pub give_up-requires : goal.give_up-requires
give_up-requires c = some_lock c.args.self.now.objects c.args.at c.args.self.now.waiting.reserved c.args.self.now.reserved c.requires

pub invariant_of-self-clause-agrees : goal.invariant_of-self-clause-agrees
invariant_of-self-clause-agrees c =
    agrees_without (cells_of c.args.self.now.objects) (cells_of c.take_object.new.objects) (occupancy_of c.args.self.now.places) (occupancy_of c.give.new.self) c.args.at c.args.self.now.agrees c.in-Some.ensures.cells c.give.ensures

pub invariant_of-self-clause-tracked : goal.invariant_of-self-clause-tracked
invariant_of-self-clause-tracked c =
    tracked_as (cells_of c.take_object.new.objects) c.args.self.now.waiting c.give_up.new.self
    (tracked_set (cells_of c.args.self.now.objects) (cells_of c.take_object.new.objects) (marked c.args.self.now.waiting)
    c.args.at None c.args.self.now.tracked c.in-Some.ensures.cells refl) (ap (λ (w : Waits). w.marks) c.give_up.ensures)

pub invariant_of-self-clause-reserved : goal.invariant_of-self-clause-reserved
invariant_of-self-clause-reserved c =
    locks_gone c.args.self.now.objects c.take_object.new.objects c.args.at c.take_object.result c.args.self.now.waiting.reserved c.give_up.new.self.reserved c.take_object.ensures.object c.take_object.ensures.locks c.requires
    c.args.self.now.reserved (ap (λ (w : Waits). w.reserved) c.give_up.ensures)

pub invariant_of-self-in-None-clause-agrees : goal.invariant_of-self-in-None-clause-agrees
invariant_of-self-in-None-clause-agrees c =
    agrees_same (cells_of c.args.self.now.objects) (cells_of c.take_object.new.objects) (occupancy_of c.args.self.now.places) (occupancy_of c.args.self.now.places) c.args.self.now.agrees
    (c.in-None.ensures.cells ∙ unset c.args.at (cells_of c.args.self.now.objects) (sym c.in-None.ensures.object)) refl

pub invariant_of-self-in-None-clause-tracked : goal.invariant_of-self-in-None-clause-tracked
invariant_of-self-in-None-clause-tracked c =
    tracked_set (cells_of c.args.self.now.objects) (cells_of c.take_object.new.objects) (marked c.args.self.now.waiting) c.args.at None c.args.self.now.tracked c.in-None.ensures.cells refl

pub invariant_of-self-in-None-clause-reserved : goal.invariant_of-self-in-None-clause-reserved
invariant_of-self-in-None-clause-reserved c = absurd (none_held (cells_of c.args.self.now.objects c.args.at) c.in-None.ensures.object c.requires)

pub returns-in-None : goal.returns-in-None
returns-in-None c =
    none_given_back (plain_of c.args.self.now) (cells_of c.take_object.new.objects) c.args.at c.in-None.ensures.object c.in-None.ensures.cells
