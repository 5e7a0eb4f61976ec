use Rattle.std.proofs.Common.{◌≡◌, ◌++◌}
use Rattle.std.specs.Vec.Iter.{into_iter_items}
use Rattle.farm_commit.specs.Building.{part_of}
use Rattle.farm_commit.specs.Making.{others_of}
use Rattle.farm_commit.proofs.building.split_heap.Given as goal

abbrev pub invariant-loop-object : goal.invariant-loop-object
invariant-loop-object l = record {
  all : l.fn.heap.items ≡ l.yielded ++ into_iter_items l.object-iterator;
  part : l.part.items ≡ part_of l.nodes l.node l.yielded;
  others : l.others.items ≡ others_of l.nodes l.node l.yielded;
}
