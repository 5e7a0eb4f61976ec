use Rattle.farm_node.proofs.Common.{◌+◌, ◌≤◌, plain_of}
use Rattle.farm_node.proofs.Sweeping.{IsSweeping}
use Rattle.farm_node.proofs.node.Node.sweep.Given as goal

abbrev pub invariant-loop-swept : goal.invariant-loop-swept
invariant-loop-swept l = record {
  sweeping : IsSweeping l.floor (plain_of l.fn.self) (plain_of l.self) l.versions l.objects;
  few : l.objects + l.self.waiting.count ≤ l.fn.self.waiting.count;
}

abbrev pub decreases-loop-swept : goal.decreases-loop-swept
decreases-loop-swept l = l.self.waiting.count
