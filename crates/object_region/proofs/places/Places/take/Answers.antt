use Rattle.object_region.proofs.Words.{◌≡◌, false, sym, subst, Occupancy}
use Rattle.object_region.proofs.places.Places.take.Goals as goal

pub claim-requires-clause-free : goal.claim-requires-clause-free
claim-requires-clause-free c =
    subst (λ (o : Occupancy). o.taken c.in-Some.place ≡ false) (sym c.in-Some.ensures.same) c.in-Some.ensures.least.free
