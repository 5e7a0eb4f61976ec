use Rattle.object_region.proofs.Words.{◌≡◌, ap, arith, Occupancy, width, region_count}
use Rattle.object_region.proofs.tests.takes_in_a_claimed_region_first.Goals as goal

pub claim-requires-clause-place : goal.claim-requires-clause-place
unfolding width region_count
claim-requires-clause-place g c =
    let node : c.new-places.result.node ≡ 1 = ap (λ (o : Occupancy). o.node) c.new-places.ensures in
    let nodes : c.new-places.result.nodes ≡ 3 = ap (λ (o : Occupancy). o.nodes) c.new-places.ensures in
    ((1, omega arith, omega arith), omega arith)
