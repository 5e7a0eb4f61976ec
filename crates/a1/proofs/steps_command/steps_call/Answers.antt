use Rattle.std.proofs.Common.{◌∙◌, Some, refl, sym, ap, subst}
use Rattle.a1.specs.Outside.{side}
use Rattle.a1.specs.Rules.{Serves}
use Rattle.a1.specs.StepsCommand.{steps_rules}
use Rattle.a1.specs.Words.{texts_of}
use Rattle.a1.specs.declared.options.StepsOptions.{StepsOptions}
use Rattle.a1.specs.declared.words.Command.TheVariants as command
use Rattle.a1.proofs.StepsLemmas.{no_run}
use Rattle.a1.proofs.TableLemmas.{ends_usage, ends_memory, ends_served}
use Rattle.a1.proofs.WordLemmas.{steps_nodes, same_options}
use Rattle.a1.proofs.steps_command.steps_call.Goals as goal

pub serve_steps-served-requires-clause-some : goal.serve_steps-served-requires-clause-some
serve_steps-served-requires-clause-some g c =
    let named = c.in-Ok-Some-Steps in
    (steps_nodes (texts_of c.args.words.now) named.options (sym named.ensures ∙ named.field-0-is ∙ ap Some named.field-0-0-is)).0

pub serve_steps-served-requires-clause-few : goal.serve_steps-served-requires-clause-few
serve_steps-served-requires-clause-few g c =
    let named = c.in-Ok-Some-Steps in
    (steps_nodes (texts_of c.args.words.now) named.options (sym named.ensures ∙ named.field-0-is ∙ ap Some named.field-0-0-is)).1

pub returns-in-Ok-clause-others : goal.returns-in-Ok-clause-others
returns-in-Ok-clause-others g c = λ no. ends_usage _ _ _ (refl, refl) refl c.say_usage.ensures

pub returns-in-Err-clause-steps : goal.returns-in-Err-clause-steps
returns-in-Err-clause-steps g c = λ options is. ends_memory _ _ _ (refl, refl) _ refl refl refl

pub returns-in-Err-clause-others : goal.returns-in-Err-clause-others
returns-in-Err-clause-others g c = λ no. ends_memory _ _ _ (refl, refl) _ refl refl refl

pub returns-in-Ok-Some-Steps-clause-steps : goal.returns-in-Ok-Some-Steps-clause-steps
returns-in-Ok-Some-Steps-clause-steps g c = λ options is.
    let named = c.in-Ok-Some-Steps in
    let served = c.serve_steps-served in
    let source = side g.R.Source.left g.R.Source.faults c.args.source.now served.new.source in
    let same = same_options named.options options (sym (sym named.ensures ∙ named.field-0-is ∙ ap Some named.field-0-0-is) ∙ is) in
    let serves : Serves (steps_rules options.nodes) source served.result = subst (λ (o : StepsOptions). Serves (steps_rules o.nodes) source served.result) same served.ensures in
    let none = no_run options.nodes _ _ _ _ served.result serves c.finish.ensures in
    rw (← none) (ends_served _ _ _ (refl, refl) (command.Steps options) served.result serves c.finish.ensures)
