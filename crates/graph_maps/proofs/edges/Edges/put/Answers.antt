use Rattle.std.proofs.Common.{sym, subst}
use Rattle.graph_maps.specs.Halves.{AreSeen}
use Rattle.graph_maps.proofs.SeenLemmas.{seen_put}
use Rattle.graph_maps.proofs.edges.Edges.put.Goals as goal

pub invariant_of-self-2 : goal.invariant_of-self-2
invariant_of-self-2 c = (
  subst (λ edges. AreSeen edges c.put_halves.new.halves.now) (sym c.in_ok-put.ensures.ok)
      (seen_put c.args.name c.args.values c.self.inside.named.now c.self.inside.halves.now c.put_halves.new.halves.now c.self.invariant.0 c.put_halves.ensures.others
      c.in_ok-put_halves.ensures.both),
  rw (c.put.ensures.was, c.put_halves.ensures.was) c.self.invariant.1,
)
