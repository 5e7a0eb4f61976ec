use Rattle.std.proofs.Common.{◌≡◌, ◌∙◌, sym, ap}
use Rattle.a1_base.specs.Maps.{without}
use Rattle.type_schema.specs.Graph.{vertex_order}
use Rattle.graph_plain.proofs.TakingLemmas.{without_last}
use Rattle.graph_plain.proofs.acting.take_vertices.Goals as goal

pub loop-name-preserved : goal.loop-name-preserved
loop-name-preserved c = record {
  can = tt;
  ends = tt;
  now = c.in_ok-take.ensures.ok
      ∙ ap (without vertex_order c.in-Some.name) c.loop-name.invariant.now
      ∙ sym (without_last vertex_order c.loop-name.yielded c.in-Some.name c.args.vertices.now.now);
  was = c.take.ensures.was ∙ c.loop-name.invariant.was;
}
