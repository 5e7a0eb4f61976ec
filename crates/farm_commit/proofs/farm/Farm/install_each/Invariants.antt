use Rattle.farm_commit.specs.Parts.{FirstStep}
use Rattle.farm_commit.specs.Steps.{PutsAll}
use Rattle.farm_commit.proofs.farm.Farm.install_each.Given as goal

abbrev pub invariant-loop-node : goal.invariant-loop-node
invariant-loop-node g l = record {
  step : FirstStep l.self.locks.items l.node (PutsAll l.t l.w) l.fn.parts.items l.parts.items;
}
