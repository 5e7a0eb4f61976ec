use Rattle.std.proofs.Common.{◌≡◌}
use Rattle.type_schema.specs.Graph.{type_order}
use Rattle.graph_plain.specs.Taking.{without_all}
use Rattle.graph_plain.proofs.acting.take_types.Given as goal

abbrev pub invariant-loop-name : goal.invariant-loop-name
invariant-loop-name l = record {
  can : goal.iterator-loop-name.can_next l.name-iterator;
  ends : goal.iterator-loop-name.is_finite l.name-iterator;
  now : l.types.now ≡ without_all type_order l.yielded l.fn.types.now;
  was : l.types.was ≡ l.fn.types.was;
}
