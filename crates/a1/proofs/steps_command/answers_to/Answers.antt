use Rattle.farm_core.specs.Machine.{fresh}
use Rattle.a1.proofs.StepsLemmas.{takes_events, if_answered}
use Rattle.a1.proofs.steps_command.answers_to.Goals as goal

pub run-requires : goal.run-requires
run-requires c = takes_events c.in_ok-core.core c.args.nodes c.args.events.now c.in_ok-core.ensures.stands c.requires.each

pub returns : goal.returns
returns c = if_answered c.args.nodes c.run.result (λ answers. answers.items) c.run.new.self c.args.events.now (c.run.ensures.ok (fresh c.args.nodes) c.in_ok-core.ensures.stands)
