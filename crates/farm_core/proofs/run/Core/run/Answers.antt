use Rattle.std.proofs.Common.{◌≡◌, [], List, length, refl, sym, subst, ap, arith}
use Rattle.std.proofs.lemmas.List.{take_all}
use Rattle.farm_core.proofs.Words.{Event, Runs, Stands}
use Rattle.farm_core.specs.Cores.{Shown, RanFront}
use Rattle.farm_node.proofs.Loads.{on_err}
use Rattle.farm_core.proofs.run.Core.run.Goals as goal

pub returns-in_err-answers-clause-err : goal.returns-in_err-answers-clause-err
returns-in_err-answers-clause-err c = λ s st.
    let same : c.self.inside.done ≡ c.args.self.now.done = ap (λ (v : Shown). v.done) c.self.view_is in
    on_err c.from_residual.result (RanFront s c.args.events.now c.args.self.now c.args.self.now) ([], s, omega arith, refl, st, omega arith)

pub invariant_of-self : goal.invariant_of-self
invariant_of-self c = let ran = c.run-ended.ensures.ran c.self.invariant.0 c.self.invariant.1 in (ran.0, ran.2)

pub invariant_of-self-2 : goal.invariant_of-self-2
invariant_of-self-2 c = let ran = c.run-ended.ensures.ran c.self.invariant.0 c.self.invariant.1 in (ran.0, ran.2)

pub returns-in_err-ended-clause-err : goal.returns-in_err-ended-clause-err
returns-in_err-ended-clause-err c = λ s st.
    let same : c.self.inside.done ≡ c.args.self.now.done = ap (λ (v : Shown). v.done) c.self.view_is in
    let ran = c.run-ended.ensures.ran s (subst (λ (v : Shown). Stands v.farm s) (sym c.self.view_is) st) in
    on_err c.from_residual-in_err-ended.result (RanFront s c.args.events.now c.args.self.now (record { farm = c.run-ended.new.self; done = c.saturating_add-self-inside.result }))
    (c.run-ended.new.answers.items, ran.0, c.run-ended.ensures.some, ran.1, ran.2, omega arith)

pub returns-clause-ok : goal.returns-clause-ok
returns-clause-ok c = λ s st.
    let ran = c.run-ended.ensures.ran s (subst (λ (v : Shown). Stands v.farm s) (sym c.self.view_is) st) in
    (ran.0, subst (λ (es : List Event). Runs s es c.run-ended.new.answers.items ran.0) (take_all (length c.run-ended.new.answers.items) c.args.events.now (omega (arith, c.in_ok-ended.ensures.all))) ran.1, ran.2)
