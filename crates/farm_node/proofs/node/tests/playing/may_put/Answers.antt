use Rattle.farm_node.proofs.Common.{◌≡◌, ◌<◌, Some, sym, ◌∙◌, arith, ltb-true, Hold}
use Rattle.farm_node.proofs.Holders.{has_lock_to}
use Rattle.farm_node.proofs.node.tests.playing.may_put.Goals as goal

pub returns-then-is_held_by : goal.returns-then-is_held_by
returns-then-is_held_by c below =
    let h : (h : Hold) × (c.in-Some.object.now.lock ≡ Some h) × (h.by ≡ c.args.t) = has_lock_to c.in-Some.object.now.lock c.args.t (sym c.is_held_by.ensures ∙ c.if-is_held_by.true) in
    let above : c.bound.result < c.args.w = ltb-true c.bound.result c.args.w below in
    (c.in-Some.object.now, h.0, sym c.in-Some.ensures.value, h.1, h.2, omega arith)
