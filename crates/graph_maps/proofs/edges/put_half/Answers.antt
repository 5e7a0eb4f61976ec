use Rattle.std.proofs.Common.{◌≡◌, true, sym, subst, ap, ◌∙◌}
use Rattle.a1_base.specs.Maps.{has}
use Rattle.graph_maps.specs.Halves.{half_order}
use Rattle.graph_maps.specs.KeyOrders.{half_total, exact_halves}
use Rattle.graph_maps.proofs.SeenLemmas.{has_new, has_still}
use Rattle.graph_maps.proofs.edges.put_half.Goals as goal

pub returns-clause-this : goal.returns-clause-this
returns-clause-this c =
    ap (λ h. has half_order h c.put.new.self.now) (sym c.in_ok-half.ensures)
    ∙ (ap (has half_order c.in_ok-half.half) c.in_ok-put.ensures.ok ∙ has_new half_order half_total exact_halves c.in_ok-half.half tt c.args.halves.now.now)

pub returns-clause-others : goal.returns-clause-others
returns-clause-others c h there =
    ap (has half_order h) c.in_ok-put.ensures.ok ∙ has_still half_order half_total exact_halves h c.in_ok-half.half tt c.args.halves.now.now there
