use Rattle.farm_commit.specs.Parts.{FirstStep}
use Rattle.farm_commit.specs.Steps.{ChecksThere}
use Rattle.farm_commit.proofs.farm.Farm.check_each.Given as goal

abbrev pub invariant-loop-node : goal.invariant-loop-node
invariant-loop-node g l = record {
  step : FirstStep l.self.locks.items l.node (ChecksThere l.t l.r l.w l.self.nodes l.reads) l.fn.parts.items l.parts.items;
}
