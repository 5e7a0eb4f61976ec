use Rattle.graph_maps.proofs.KeyedLemmas.{keyed_take}
use Rattle.graph_maps.proofs.vertices.Vertices.take.Goals as goal

pub invariant_of-self-2 : goal.invariant_of-self-2
invariant_of-self-2 c = (
  rw c.in_ok-take.ensures.ok (keyed_take c.args.name c.self.inside.named.now c.self.invariant.0),
  rw c.take.ensures.was c.self.invariant.1,
)
