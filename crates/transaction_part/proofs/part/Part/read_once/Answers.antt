use Rattle.std.proofs.Common.{refl}
use Rattle.farm_node.specs.Answers.{read_entry}
use Rattle.turnstile.specs.Passes.{entered, seen}
use Rattle.transaction_part.specs.Part.{log}
use Rattle.transaction_part.proofs.Viewing.{OwnTurn, begun_turn, own_turn, pinned_inside, running_of, story_read, views_of, views_read}
use Rattle.transaction_part.proofs.part.Part.read_once.Given.{Over}
use Rattle.transaction_part.proofs.part.Part.read_once.Goals as goal

turn : (g : Over) (c : goal.Joined-self g)
    → OwnTurn c.args.t.actor (log c.args.self.now) (entered c.begin_turn-turn.result)
    (read_entry c.args.t.actor c.args.at c.args.r c.read_there-turn.result.1) (seen c.end_turn.result)
turn g c = own_turn c.requires.running.sits c.take_pass-pass.ensures.was c.begin_turn-turn.ensures.inside c.begin_turn-turn.ensures.goes_on
    c.end_turn.result _ c.read_there-turn.ensures.inside c.read_there-turn.ensures.entry c.end_turn.ensures.seen

pub read_there-turn-requires-clause-pinned : goal.read_there-turn-requires-clause-pinned
read_there-turn-requires-clause-pinned g c = pinned_inside (begun_turn c.requires.running.sits c.take_pass-pass.ensures.was c.begin_turn-turn.ensures.inside
    c.begin_turn-turn.ensures.goes_on) c.requires.running.runs

pub returns-clause-running : goal.returns-clause-running
returns-clause-running g c = running_of _ (c.end_turn.result, refl, c.end_turn.ensures.sits) refl
    (views_read c.args.t c.args.r c.args.at c.read_there-turn.result.1 (turn g c) c.requires.away (views_of c.requires.running))

pub returns-clause-quiet : goal.returns-clause-quiet
returns-clause-quiet g c = story_read c.args.t c.args.r c.args.at c.read_there-turn.result.1 (turn g c)
