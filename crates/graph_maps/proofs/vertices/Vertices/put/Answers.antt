use Rattle.graph_maps.proofs.KeyedLemmas.{keyed_put}
use Rattle.graph_maps.proofs.vertices.Vertices.put.Goals as goal

pub invariant_of-self-2 : goal.invariant_of-self-2
invariant_of-self-2 c = (
  rw c.in_ok-put.ensures.ok (keyed_put c.args.name c.args.values c.self.inside.named.now c.requires.keyed c.self.invariant.0),
  rw c.put.ensures.was c.self.invariant.1,
)
