use Rattle.farm_commit.specs.Commits.{PutsNone}
use Rattle.farm_commit.specs.Farms.{IsPart, id_of}
use Rattle.farm_commit.specs.Steps.{RestsThere}
use Rattle.farm_commit.proofs.Stepping.{step_weaker}
use Rattle.farm_commit.proofs.Committed.{rests_none}
use Rattle.farm_commit.proofs.NodeSteps.{given_up_rest, txn_end}
use Rattle.farm_commit.proofs.farm.Farm.end.Goals as goal

pub give_up_each-requires : goal.give_up_each-requires
give_up_each-requires g c = record {
  parts = txn_end c.args.self.now.locks.items (id_of c.args.txn) c.args.txn.read_stamp c.args.self.now.nodes c.args.txn.parts.items c.requires.txn.parts;
}

pub returns-clause-actor : goal.returns-clause-actor
returns-clause-actor g c = record {
  seat = c.requires.txn.seat;
  number = c.requires.txn.number;
  parts = given_up_rest c.args.self.now.locks.items c.args.txn.number (IsPart (id_of c.args.txn) c.args.txn.read_stamp c.args.self.now.nodes)
      c.args.txn.parts.items c.give_up_each.new.parts.items c.requires.txn.parts c.give_up_each.ensures;
  reads = c.clear.ensures.items;
}

pub returns-clause-ended : goal.returns-clause-ended
returns-clause-ended g c =
    step_weaker c.args.self.now.locks.items (RestsThere c.args.txn.number) (PutsNone c.args.txn.number) c.args.txn.parts.items c.give_up_each.new.parts.items
    (λ i l p q at was. rests_none c.args.txn.number i l p q) c.give_up_each.ensures
