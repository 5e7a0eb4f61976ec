use Rattle.std.proofs.Common.{Option, ap, ◌∙◌, ◌++◌}
use Rattle.std.specs.Option.{option_to_list}
use Rattle.turnstile.specs.Passes.{entered}
use Rattle.farm_node.specs.Cell.{Bytes}
use Rattle.farm_node.specs.Answers.{lock_entry}
use Rattle.node_turns.specs.declared.standing.Inner.{Inner}
use Rattle.node_turns.specs.Standing.{node_in}
use Rattle.node_turns.proofs.Inside.{inside_some}
use Rattle.node_turns.proofs.events.lock_there.Goals as goal

pub returns-clause-inside : goal.returns-clause-inside
returns-clause-inside c =
    inside_some c.args.lock.now c.args.t.actor c.args.turn c.note.result c.deref_mut.result.now.node _ _ c.requires.inside
    (ap (λ (i : Inner). i.node) c.deref_mut.ensures.value ∙ ap node_in c.value.ensures.value)
    c.lock-answer.ensures.made c.note.ensures.turn c.note.ensures.numbers c.note.ensures.value
    (c.note.ensures.entered ∙ ap (λ (v : Option Bytes). entered c.args.turn ++ option_to_list (lock_entry c.args.t c.args.at c.args.r v c.lock-answer.result)) c.of-told.ensures)
