use Rattle.object_region.proofs.Words.{◌≡◌, occupancy_of, listed_count}
use Rattle.object_region.proofs.places.Places.least_free.Given as goal

abbrev pub invariant-loop-region : goal.invariant-loop-region
invariant-loop-region l = occupancy_of l.self ≡ occupancy_of l.initial.self

abbrev pub decreases-loop-region : goal.decreases-loop-region
decreases-loop-region l = listed_count l.self.made
