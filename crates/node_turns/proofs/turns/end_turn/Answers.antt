use Rattle.std.proofs.Common.{◌≡◌, ◌<◌, List, length, sym, subst, ◌∙◌}
use Rattle.farm_node.specs.declared.entry.Entry.{Entry}
use Rattle.node_turns.specs.Turned.{IsOf}
use Rattle.node_turns.proofs.Inside.{lawful_some}
use Rattle.node_turns.proofs.turns.end_turn.Goals as goal

pub returns-clause-sits : goal.returns-clause-sits
returns-clause-sits c = let i = c.requires.inside in record {
  of = c.leave.ensures.pass;
  number = c.leave.ensures.numbers ∙ i.number;
  some = subst (λ (es : List Entry). 0 < length es) (sym c.leave.ensures.seen) (lawful_some _ i.stands.lawful);
  node = subst (IsOf c.args.lock.now) (sym c.leave.ensures.seen) i.node;
}
