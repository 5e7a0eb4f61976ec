use Rattle.std.proofs.Common.{◌≡◌, ◌↔◌, Option, Err, ap, ◌∙◌, ◌++◌, subst}
use Rattle.object_region.specs.Occupancy.{IsSpent}
use Rattle.farm_node.specs.declared.faults.PlaceFault.TheVariants.{Spent}
use Rattle.farm_node.specs.NodeState.{NodeState, occupancy}
use Rattle.farm_node.specs.Node.{plain_of}
use Rattle.std.specs.Option.{option_to_list}
use Rattle.turnstile.specs.Passes.{entered}
use Rattle.farm_node.specs.Cell.{Bytes}
use Rattle.farm_node.specs.Answers.{alloc_entry}
use Rattle.node_turns.specs.declared.standing.Inner.{Inner}
use Rattle.node_turns.specs.Standing.{node_in}
use Rattle.node_turns.proofs.Inside.{inside_some}
use Rattle.node_turns.proofs.events.alloc_there.Goals as goal

pub returns-clause-inside : goal.returns-clause-inside
returns-clause-inside c =
    inside_some c.args.lock.now c.args.t.actor c.args.turn c.note.result c.deref_mut.result.now.node _ _ c.requires.inside
    (ap (λ (i : Inner). i.node) c.deref_mut.ensures.value ∙ ap node_in c.value.ensures.value)
    c.alloc-answer.ensures.made c.note.ensures.turn c.note.ensures.numbers c.note.ensures.value
    (c.note.ensures.entered ∙ ap (λ (v : Bytes). entered c.args.turn ++ option_to_list (alloc_entry c.args.t c.args.r v c.alloc-answer.result)) c.of-told.ensures)

pub returns-clause-spent : goal.returns-clause-spent
returns-clause-spent c =
    subst (λ (p : NodeState). (c.alloc-answer.result ≡ Err Spent) ↔ IsSpent (occupancy p))
    (ap (λ (i : Inner). plain_of i.node) c.deref_mut.ensures.value ∙ (ap (λ s. plain_of (node_in s)) c.value.ensures.value ∙ c.requires.inside.stands.state))
    c.alloc-answer.ensures.spent
