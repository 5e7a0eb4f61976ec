use Rattle.std.proofs.Common.{Ok, sym, subst}
use Rattle.farm_core.proofs.Words.{Event, Stands, StepsTo}
use Rattle.farm_core.proofs.farm.Farm.step.Goals as goal

pub returns-in-Begin-clause-steps : goal.returns-in-Begin-clause-steps
returns-in-Begin-clause-steps c = λ s st. subst (λ (e : Event). StepsTo s e (Ok c.begin.result) (Stands c.begin.new.self)) (sym c.in-Begin.is) (c.begin.ensures.steps s st)

pub returns-in-Shut-clause-steps : goal.returns-in-Shut-clause-steps
returns-in-Shut-clause-steps c = λ s st. subst (λ (e : Event). StepsTo s e (Ok c.shut.result) (Stands c.shut.new.self)) (sym c.in-Shut.is) (c.shut.ensures.steps s st)

pub returns-in-Collect-clause-steps : goal.returns-in-Collect-clause-steps
returns-in-Collect-clause-steps c = λ s st. subst (λ (e : Event). StepsTo s e (Ok c.collect.result) (Stands c.collect.new.self)) (sym c.in-Collect.is) (c.collect.ensures.steps s st)
