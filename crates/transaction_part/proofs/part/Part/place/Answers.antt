use Rattle.std.proofs.Common.{List, refl, sym, subst, ap}
use Rattle.farm_node.specs.Answers.{alloc_entry}
use Rattle.turnstile.specs.Passes.{entered, seen}
use Rattle.write_set.specs.declared.set.Write.{Write}
use Rattle.transaction_part.specs.Part.{log, log_in, written}
use Rattle.transaction_part.proofs.Viewing.{OwnTurn, Views, begun_turn, if_placed, if_unplaced, lacks_made, own_turn, pinned_inside, place_made, puts_placed, running_of, views_made, views_of}
use Rattle.transaction_part.proofs.part.Part.place.Given.{Over}
use Rattle.transaction_part.proofs.part.Part.place.Goals as goal

turn : (g : Over) (c : goal.Joined-self g)
    → OwnTurn c.args.t.actor (log c.args.self.now) (entered c.begin_turn-turn.result)
    (alloc_entry c.args.t c.args.r c.new-none.result c.alloc_there-turn.result.1) (seen c.end_turn.result)
turn g c = own_turn c.requires.running.sits c.take_pass-pass.ensures.was c.begin_turn-turn.ensures.inside c.begin_turn-turn.ensures.goes_on
    c.end_turn.result _ c.alloc_there-turn.ensures.inside c.alloc_there-turn.ensures.entry c.end_turn.ensures.seen

views : (g : Over) (c : goal.Joined-self g) → Views c.args.t c.args.r (written c.args.self.now) (log c.args.self.now)
views g c = views_of c.requires.running

pub alloc_there-turn-requires-clause-pinned : goal.alloc_there-turn-requires-clause-pinned
alloc_there-turn-requires-clause-pinned g c = pinned_inside (begun_turn c.requires.running.sits c.take_pass-pass.ensures.was c.begin_turn-turn.ensures.inside
    c.begin_turn-turn.ensures.goes_on) c.requires.running.runs

pub returns-clause-made : goal.returns-clause-made
returns-clause-made g c = if_placed c.new-none.result (views g c) _ c.alloc_there-turn.result.1 (turn g c)
    (λ placed x part w pass at made is. running_of part (c.end_turn.result, pass, c.end_turn.ensures.sits) (ap log_in pass)
    (subst (λ (ws : List Write). Views c.args.t c.args.r ws (seen c.end_turn.result)) (sym is)
    (views_made c.new-none.result (views g c) placed x w at made)))

pub returns-clause-running : goal.returns-clause-running
returns-clause-running g c = if_unplaced c.new-none.result (views g c) _ c.alloc_there-turn.result.1 (turn g c)
    (running_of _ (c.end_turn.result, refl, c.end_turn.ensures.sits) refl)

pub returns-clause-place : goal.returns-clause-place
returns-clause-place g c = if_placed c.new-none.result (views g c) _ c.alloc_there-turn.result.1 (turn g c)
    (place_made c.new-none.result (views g c))

pub returns-clause-fresh : goal.returns-clause-fresh
returns-clause-fresh g c = if_placed c.new-none.result (views g c) _ c.alloc_there-turn.result.1 (turn g c)
    (lacks_made c.new-none.result (views g c))

pub returns-clause-puts : goal.returns-clause-puts
returns-clause-puts g c = puts_placed c.new-none.result (views g c) c.alloc_there-turn.result.1 (turn g c)
