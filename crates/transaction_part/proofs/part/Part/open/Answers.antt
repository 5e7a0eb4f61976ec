use Rattle.std.proofs.Common.{ℕ, List, Some, refl, sym, subst}
use Rattle.a1_base.specs.Lists.{IsAmong}
use Rattle.farm_node.specs.declared.entry.Entry.TheVariants.{Open}
use Rattle.turnstile.specs.Passes.{entered, seen}
use Rattle.node_turns.specs.Turned.{Sits}
use Rattle.write_set.specs.declared.set.Write.{Write}
use Rattle.transaction_part.specs.Part.{IsMade, log, written}
use Rattle.transaction_part.proofs.Viewing.{OwnTurn, begun_turn, free_inside, own_turn, pin_stamp, runs_open}
use Rattle.transaction_part.proofs.part.Part.open.Given.{Over}
use Rattle.transaction_part.proofs.part.Part.open.Goals as goal

turn : (g : Over) (c : goal.Joined-self g)
    → OwnTurn c.args.actor (log c.args.self.now) (entered c.begin_turn-turn.result)
    (Some (Open c.args.actor c.args.clock c.open_there-turn.result.1)) (seen c.end_turn.result)
turn g c = own_turn c.requires.resting.sits c.take_pass-pass.ensures.was c.begin_turn-turn.ensures.inside c.begin_turn-turn.ensures.goes_on
    c.end_turn.result _ c.open_there-turn.ensures.inside c.open_there-turn.ensures.entry c.end_turn.ensures.seen

pub open_there-turn-requires-clause-free : goal.open_there-turn-requires-clause-free
open_there-turn-requires-clause-free g c = free_inside (begun_turn c.requires.resting.sits c.take_pass-pass.ensures.was c.begin_turn-turn.ensures.inside
    c.begin_turn-turn.ensures.goes_on) c.requires.resting.idle

pub returns-clause-running : goal.returns-clause-running
returns-clause-running g c t r own low = record {
  sits = (c.end_turn.result, refl, subst (λ (k : ℕ). Sits c.args.lock.now k c.end_turn.result) (sym own) c.end_turn.ensures.sits);
  runs = runs_open (turn g c) c.requires.resting.idle (IsMade (written c.args.self.now)) t r own low;
  ready = λ w there. absurd (subst (λ (ws : List Write). IsAmong w ws) c.requires.resting.none there);
}

pub returns-clause-pin : goal.returns-clause-pin
returns-clause-pin g c = pin_stamp (turn g c)
