use Rattle.farm_node.proofs.Common.{Some, ap, ◌∙◌, arith, occupancy_of, cells_of, held_in, marked, waits_there}
use Rattle.farm_node.proofs.CellMaps.{agrees_with, agrees_same}
use Rattle.farm_node.proofs.Dues.{tracked_set, tracked_as, tracked_same}
use Rattle.farm_node.specs.Waiting.{Waits}
use Rattle.farm_node.proofs.node.Node.make.Goals as goal

pub invariant_of-self-in-Ok-clause-agrees : goal.invariant_of-self-in-Ok-clause-agrees
invariant_of-self-in-Ok-clause-agrees c =
    agrees_with (cells_of c.args.self.now.objects) (cells_of c.insert_at.new.objects) (occupancy_of c.args.self.now.places)
    (occupancy_of c.insert_at.new.places) c.args.at c.in_ok-object.object c.args.self.now.agrees
    c.in-Ok.ensures.ok.0 c.in-Ok.ensures.ok.1

pub invariant_of-self-in-Ok-clause-tracked : goal.invariant_of-self-in-Ok-clause-tracked
invariant_of-self-in-Ok-clause-tracked c =
    tracked_as (cells_of c.insert_at.new.objects) c.args.self.now.waiting c.reserve.new.self
    (tracked_set (cells_of c.args.self.now.objects) (cells_of c.insert_at.new.objects) (marked c.args.self.now.waiting)
    c.args.at (Some c.in_ok-object.object) c.args.self.now.tracked c.in-Ok.ensures.ok.0
    (ap (λ o. waits_there (λ s. marked c.args.self.now.waiting s c.args.at) (Some o)) c.in_ok-object.ensures))
    (ap (λ w. w.marks) c.in_ok-reserve.ensures.ok)

pub invariant_of-self-in-Ok-clause-reserved : goal.invariant_of-self-in-Ok-clause-reserved
invariant_of-self-in-Ok-clause-reserved c =
    let held = ap held_in c.in_ok-object.ensures in
    let locks = c.in-Ok.ensures.locks in
    let more = ap (λ (w : Waits). w.reserved) c.in_ok-reserve.ensures.ok in
    let was = c.args.self.now.reserved in
    omega (arith, held, locks, more, was)

pub invariant_of-self-in-Err-clause-agrees : goal.invariant_of-self-in-Err-clause-agrees
invariant_of-self-in-Err-clause-agrees c =
    agrees_same (cells_of c.args.self.now.objects) (cells_of c.insert_at.new.objects) (occupancy_of c.args.self.now.places)
    (occupancy_of c.insert_at.new.places) c.args.self.now.agrees c.in-Err.ensures.err.0 c.in-Err.ensures.err.1

pub invariant_of-self-in-Err-clause-tracked : goal.invariant_of-self-in-Err-clause-tracked
invariant_of-self-in-Err-clause-tracked c =
    tracked_as (cells_of c.insert_at.new.objects) c.args.self.now.waiting c.give_up.new.self
    (tracked_same (cells_of c.args.self.now.objects) (cells_of c.insert_at.new.objects) (marked c.args.self.now.waiting)
    c.args.self.now.tracked c.in-Err.ensures.err.0)
    (ap (λ w. w.marks) c.give_up.ensures ∙ ap (λ w. w.marks) c.in_ok-reserve.ensures.ok)

pub invariant_of-self-in-Err-clause-reserved : goal.invariant_of-self-in-Err-clause-reserved
invariant_of-self-in-Err-clause-reserved c =
    let locks = c.in-Err.ensures.locks in
    let more = ap (λ (w : Waits). w.reserved) c.in_ok-reserve.ensures.ok in
    let less = ap (λ (w : Waits). w.reserved) c.give_up.ensures in
    let was = c.args.self.now.reserved in
    omega (arith, locks, more, less, was)
