use Rattle.std.proofs.Common.{◌≡◌, ◌∙◌, ◌<◌, length, sym, ap, arith}
use Rattle.farm_core.proofs.Words.{Addr}
use Rattle.farm_core.proofs.Ending.{last_popped, fewer_left, held_left}
use Rattle.farm_core.proofs.active.any_held.Goals as goal

pub loop-at-preserved : goal.loop-at-preserved
loop-at-preserved c =
    let item = c.in-Some.ensures.item in
    let some : 0 < length c.deref.result.now = item.3.0 in
    let len : length c.deref.result.now ≡ c.loop-at.locked.len = ap (length {A = Addr}) c.deref.ensures.value ∙ sym c.loop-at.locked.ok.0 in
    let is = last_popped c.loop-at.locked.items c.deref.result.now c.pop.new.self.items c.loop-at.locked.len c.in-Some.at.now c.pop.result c.deref.ensures.value len item.1 (c.pop.ensures.value c.in-Some.at.now (omega arith)) c.pop.ensures.items in
    record {
      fewer = fewer_left c.args.nodes.now c.args.transaction c.args.locked.now.items c.loop-at.locked.items c.pop.new.self.items c.in-Some.at.now is c.loop-at.invariant.fewer;
      held = held_left c.args.nodes.now c.args.transaction c.args.locked.now.items c.loop-at.locked.items c.pop.new.self.items c.in-Some.at.now is (sym c.holds.ensures ∙ c.if-holds.false) c.loop-at.invariant.held;
    }
