use Rattle.farm_commit.specs.Parts.{FirstStep}
use Rattle.farm_commit.specs.Steps.{LocksThere}
use Rattle.a1_base.specs.Stamps.{IsStamp}
use Rattle.farm_commit.proofs.farm.Farm.lock_each.Given as goal

abbrev pub invariant-loop-node : goal.invariant-loop-node
invariant-loop-node g l = record {
  step : FirstStep l.self.locks.items l.node (LocksThere l.t l.r l.top) l.fn.parts.items l.parts.items;
  top : IsStamp l.top;
}
