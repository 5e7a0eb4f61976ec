use Rattle.farm_node.proofs.Common.{Option, sym, refl, subst, occupancy_of, cells_of, plain_of, SweepsNext, marked}
use Rattle.farm_node.specs.declared.swept.Swept.{Swept}
use Rattle.farm_node.proofs.Sweeps.{agrees_swept, sweeps_next}
use Rattle.farm_node.proofs.Dues.{tracked_swept, nothing_due}
use Rattle.farm_node.proofs.node.Node.sweep_next.Goals as goal

pub invariant_of-self-2-clause-agrees : goal.invariant_of-self-2-clause-agrees
invariant_of-self-2-clause-agrees c =
    agrees_swept (cells_of c.args.self.now.objects) (cells_of c.sweep_at-swept.new.objects) (occupancy_of c.args.self.now.places) (occupancy_of c.give_place.new.places) c.in_ok-at.at c.args.floor c.sweep_at-swept.result c.args.self.now.agrees
    c.sweep_at-swept.ensures.cells c.sweep_at-swept.ensures.swept c.give_place.ensures.places

pub invariant_of-self-2-clause-tracked : goal.invariant_of-self-2-clause-tracked
invariant_of-self-2-clause-tracked c =
    let due = c.in_ok-at.ensures.some in
    tracked_swept (cells_of c.args.self.now.objects) (cells_of c.sweep_at-swept.new.objects) (marked c.args.self.now.waiting) (marked c.take_due.new.self) c.in_ok-at.at due.0 c.args.floor c.args.self.now.tracked due.1 due.2
    c.sweep_at-swept.ensures.swept.whole c.sweep_at-swept.ensures.cells

pub returns-clause-swept : goal.returns-clause-swept
returns-clause-swept c =
    sweeps_next (cells_of c.args.self.now.objects) (cells_of c.sweep_at-swept.new.objects) (occupancy_of c.args.self.now.places) (occupancy_of c.give_place.new.places) c.args.self.now.pins.items c.args.self.now.past c.give_place.new.past
    c.args.self.now.floor c.args.self.now.actors c.in_ok-at.at c.args.floor c.sweep_at-swept.result c.sweep_at-swept.ensures.cells c.sweep_at-swept.ensures.swept c.give_place.ensures.places c.give_place.ensures.past

pub returns-in_err-at-clause-swept : goal.returns-in_err-at-clause-swept
returns-in_err-at-clause-swept c =
    subst (λ (r : Option Swept). SweepsNext c.args.floor (plain_of c.args.self.now) r (plain_of c.args.self.now))
    (sym c.from_residual.ensures) (
      refl,
      (λ a. nothing_due (λ s. marked c.args.self.now.waiting s a) c.args.floor
          (λ s low. c.in_err-at.ensures.none.1 s a low) (cells_of c.args.self.now.objects a) (c.args.self.now.tracked a)),
    )
