use Rattle.std.proofs.Common.{◌∙◌}
use Rattle.object_view.proofs.Settled.{settled}
use Rattle.object_view.proofs.mem_view.settled.Goals as goal

pub each-preserved : goal.each-preserved
each-preserved c a =
    settled c.each.heap c.settle.new.heap c.each.over c.pop_first.new.self c.in-Some.at c.in-Some.slot
    c.in-Some.ensures.updates c.in-Some.ensures.value c.in_ok-settle.ensures a
    ∙ c.each.invariant a
