use Rattle.std.proofs.Common.{ap, ◌∙◌}
use Rattle.node_turns.specs.declared.standing.Inner.{Inner}
use Rattle.node_turns.specs.Standing.{node_in}
use Rattle.node_turns.proofs.Inside.{inside_one}
use Rattle.node_turns.proofs.events.open_there.Goals as goal

pub returns-clause-inside : goal.returns-clause-inside
returns-clause-inside c =
    inside_one c.args.lock.now c.args.actor c.args.turn c.note.result c.deref_mut.result.now.node _ _ c.requires.inside
    (ap (λ (i : Inner). i.node) c.deref_mut.ensures.value ∙ ap node_in c.value.ensures.value)
    c.open-pin.ensures c.note.ensures.turn c.note.ensures.numbers c.note.ensures.value c.note.ensures.entered
