use Rattle.object_region.proofs.Words.{arith, subst, IsOccupancy, Regions, occupancy_of}
use Rattle.object_region.proofs.Kept.{few_made}
use Rattle.object_region.proofs.Occupied.{occupied}
use Rattle.object_region.proofs.places.Places.regions.Goals as goal

pub overflow_cast-result : goal.overflow_cast-result
overflow_cast-result c = omega (arith, few_made c.self.invariant c.len.ensures.ordered, c.len.ensures.len)

pub returns-clause-sound : goal.returns-clause-sound
returns-clause-sound c =
    subst (λ (r : Regions). IsOccupancy (occupancy_of r)) c.self.view_is
    (occupied (record { node = c.self.inside.node; nodes = c.self.inside.nodes; made = c.self.inside.regions.entries }) c.len.ensures.ordered)
