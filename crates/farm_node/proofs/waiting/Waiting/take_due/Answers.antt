use Rattle.farm_node.proofs.Common.{◌≡◌, false, subst, refl, sym, ap, ◌∙◌}
use Rattle.std.specs.BinaryHeap.{heap_items}
use Rattle.farm_node.specs.Waiting.{Waits, marked}
use Rattle.farm_node.proofs.Marks.{none_due, taken_due}
use Rattle.farm_node.proofs.waiting.Waiting.take_due.Goals as goal

pub returns-then-floor-stamp-clause-none : goal.returns-then-floor-stamp-clause-none
returns-then-floor-stamp-clause-none c = (
  refl,
  (λ s a low. subst (λ (w : Waits). marked w s a ≡ false) c.self.view_is
      (none_due c.in_ok-stamp.field-0.now (heap_items c.self.inside.due) c.args.floor s a
      (c.in_ok-stamp.ensures.greatest c.self.invariant.0) c.if-floor-stamp.true low)),
)

pub returns-clause-some : goal.returns-clause-some
returns-clause-some c =
    let taken = taken_due c.in_ok-stamp.field-0.now c.in_ok-at.field-0 (heap_items c.self.inside.due)
    (heap_items c.pop.new.self) c.args.floor c.in_ok-stamp.ensures.lookup c.in_ok-at.ensures.top
    c.in_ok-at.ensures.permutation c.if-floor-stamp.false in
    (taken.0, taken.1, ap marked (sym c.self.view_is) ∙ taken.2)
