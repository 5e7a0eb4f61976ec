use Rattle.std.proofs.Common.{◌≤◌, [], ◌∷◌, length, take}
use Rattle.farm_commit.specs.Parts.{EachPart}
use Rattle.farm_commit.specs.Making.{AreFresh, IsCut}
use Rattle.farm_commit.proofs.building.cut_parts.Given as goal

abbrev pub invariant-loop-node : goal.invariant-loop-node
invariant-loop-node l = record {
  within : l.node ≤ length l.locks;
  own : AreFresh (take l.node l.locks) (l.number ∷ []) l.own.items;
  rest : EachPart l.locks (IsCut l.node l.number) l.rest;
}
