use Rattle.farm_commit.specs.Parts.{FirstStep}
use Rattle.farm_commit.specs.Steps.{OpensThere}
use Rattle.std.proofs.Common.{◌≤◌}
use Rattle.a1_base.specs.Stamps.{IsStamp}
use Rattle.farm_commit.proofs.farm.Farm.open_each.Given as goal

abbrev pub invariant-loop-node : goal.invariant-loop-node
invariant-loop-node g l = record {
  step : FirstStep l.self.locks.items l.node (OpensThere l.actor l.clock l.top) l.fn.parts.items l.parts.items;
  top : (l.clock ≤ l.top) × IsStamp l.top;
}
