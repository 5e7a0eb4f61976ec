use Rattle.std.proofs.Common.{◌∙◌}
use Rattle.node_turns.proofs.Inside.{goes_on, of_on}
use Rattle.node_turns.proofs.turns.begin_turn.Goals as goal

pub returns-clause-inside : goal.returns-clause-inside
returns-clause-inside g c = let s = c.requires.sits in record {
  of = c.enter.ensures.turn;
  number = c.enter.ensures.numbers ∙ s.number;
  stands = c.enter.ensures.stands;
  node = of_on c.args.lock.now c.args._actor _ _ s.some c.enter.ensures.stands.lawful
      (goes_on c.args._actor _ _ _ s.number c.enter.ensures.begins c.enter.ensures.own) s.node;
}

pub returns-clause-goes_on : goal.returns-clause-goes_on
returns-clause-goes_on g c =
    goes_on c.args._actor _ _ _ c.requires.sits.number c.enter.ensures.begins c.enter.ensures.own
