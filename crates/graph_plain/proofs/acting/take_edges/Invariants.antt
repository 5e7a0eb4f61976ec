use Rattle.std.proofs.Common.{◌≡◌}
use Rattle.type_schema.specs.Graph.{edge_order}
use Rattle.graph_plain.specs.Taking.{without_all}
use Rattle.graph_plain.proofs.acting.take_edges.Given as goal

abbrev pub invariant-loop-name : goal.invariant-loop-name
invariant-loop-name l = record {
  can : goal.iterator-loop-name.can_next l.name-iterator;
  ends : goal.iterator-loop-name.is_finite l.name-iterator;
  now : l.edges.now ≡ without_all edge_order l.yielded l.fn.edges.now;
  was : l.edges.was ≡ l.fn.edges.was;
}
