use Rattle.farm_node.proofs.Common.{◌≡◌, List, [], ◌∷◌, sym, refl, subst, arith, Addr, Start, Bytes, NodeState, begun, CanLoad, plain_of}
use Rattle.object_region.specs.Occupancy.{width, region_count}
use Rattle.farm_node.proofs.node.tests.node_of_two.Goals as goal

abbrev start : Start
start = record { node = 0; nodes = 1; actors = 5; stamp = 1; heap = [] }

loads : (x y : Bytes) → CanLoad (begun start) ((record { region = 0; offset = 0 }, x) ∷ (record { region = 1; offset = 0 }, y) ∷ [])
unfolding width region_count
loads x y = (((0, omega arith, refl), omega arith), refl, (((1, omega arith, refl), omega arith), refl, tt))

pub load-requires-clause-places : goal.load-requires-clause-places
load-requires-clause-places c =
    let h = c.in_ok-two_objects.ensures in
    let begins : plain_of c.in_ok-node.node ≡ begun start = c.in_ok-node.ensures.state in
    subst (λ (p : NodeState). CanLoad p c.in_ok-two_objects.field-0.items) (sym begins)
    (subst (λ (objects : List (Addr × Bytes)). CanLoad (begun start) objects) (sym h.2) (loads h.0 h.1))
