use Rattle.farm_commit.specs.Parts.{FirstStep}
use Rattle.farm_commit.specs.Steps.{RestsThere}
use Rattle.farm_commit.proofs.farm.Farm.give_up_each.Given as goal

abbrev pub invariant-loop-node : goal.invariant-loop-node
invariant-loop-node g l = record {
  step : FirstStep l.self.locks.items l.node (RestsThere l.t.actor) l.fn.parts.items l.parts.items;
}
