use Rattle.std.proofs.Common.{◌≡◌}
use Rattle.type_schema.specs.Graph.{vertex_order}
use Rattle.graph_plain.specs.Taking.{without_all}
use Rattle.graph_plain.proofs.acting.take_vertices.Given as goal

abbrev pub invariant-loop-name : goal.invariant-loop-name
invariant-loop-name l = record {
  can : goal.iterator-loop-name.can_next l.name-iterator;
  ends : goal.iterator-loop-name.is_finite l.name-iterator;
  now : l.vertices.now ≡ without_all vertex_order l.yielded l.fn.vertices.now;
  was : l.vertices.was ≡ l.fn.vertices.was;
}
