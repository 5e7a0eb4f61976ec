use Rattle.std.proofs.Common.{◌∙◌, ◌<◌, ◌≤◌, ◌+◌, ◌∷◌, [], ℕ, List, length, take, subst, sym, ap, length-append, arith}
use Rattle.farm_core.proofs.Words.{Answer, InRange, Stands, RunsTo}
use Rattle.farm_core.proofs.Running.{ran_more, ran_still}
use Rattle.farm_core.proofs.farm.Farm.run.Goals as goal

pub returns-in_err-answer-clause-ran : goal.returns-in_err-answer-clause-ran
returns-in_err-answer-clause-ran c =
    ran_still c.args.self.now c.loop-event.self c.step.new.self c.args.events.now c.loop-event.event-index c.loop-event.answers.items c.loop-event.invariant.count c.loop-event.invariant.ran c.in_err-answer.ensures.steps

pub loop-event-preserved : goal.loop-event-preserved
loop-event-preserved c =
    let low : c.loop-event.event-index < length c.args.events.now = omega arith in
    let ran = ran_more c.args.self.now c.loop-event.self c.step.new.self c.args.events.now c.loop-event.event-index c.event-item.result c.loop-event.answers.items c.in_ok-answer.answer low c.event-item.is
    (subst (InRange (length c.args.self.now.nodes.items)) (sym c.event-item.is) (c.requires.range c.loop-event.event-index c.event-item.result low)) c.loop-event.invariant.nodes c.loop-event.invariant.ran c.in_ok-answer.ensures.steps in
    let known = c.in_ok-answer.ensures.steps c.loop-event.invariant.known.0 c.loop-event.invariant.known.1 in
    record {
      known = (known.0, known.2);
      ran = λ s st. subst (λ (xs : List Answer). RunsTo s (take (c.loop-event.event-index + 1) c.args.events.now) xs (Stands c.step.new.self)) (sym c.push_reserved.ensures.items) (ran s st);
      count = ap (length {A = Answer}) c.push_reserved.ensures.items ∙ (length-append c.loop-event.answers.items (c.in_ok-answer.answer ∷ []) ∙ ap (λ (n : ℕ). n + 1) c.loop-event.invariant.count);
      room = subst (λ (n : ℕ). length c.args.events.now ≤ n) (sym c.push_reserved.ensures.capacity) c.loop-event.invariant.room;
      nodes = c.step.ensures.nodes ∙ c.loop-event.invariant.nodes;
    }

pub returns-clause-ran : goal.returns-clause-ran
returns-clause-ran c =
    ran_still c.args.self.now c.loop-event.self c.loop-event.self c.args.events.now c.loop-event.event-index c.loop-event.answers.items c.loop-event.invariant.count c.loop-event.invariant.ran (λ s st. st)
