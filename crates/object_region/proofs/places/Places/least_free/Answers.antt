use Rattle.object_region.proofs.Words.{subst, Occupancy, LeastFree, IsSpent}
use Rattle.object_region.proofs.Next.{least_made, least_new, all_spent}
use Rattle.object_region.proofs.places.Places.least_free.Goals as goal

pub returns-in-Some-first_free-clause-least : goal.returns-in-Some-first_free-clause-least
returns-in-Some-first_free-clause-least c =
    subst (λ (o : Occupancy). LeastFree o (record { region = c.in-Some.region; offset = c.in-Some-first_free.offset })) c.loop-region.invariant
    (least_made c.loop-region.self c.in-Some.region c.in-Some-first_free.offset c.in-Some.ensures.lowest c.in-Some-first_free.ensures.free)

pub returns-in_err-region-clause-spent : goal.returns-in_err-region-clause-spent
returns-in_err-region-clause-spent c =
    let spent = subst (λ (o : Occupancy). IsSpent o) c.loop-region.invariant (all_spent c.loop-region.self c.in_default.ensures.full c.in_err-region.ensures.all_made) in
    rw c.from_residual.ensures spent

pub returns-clause-least : goal.returns-clause-least
returns-clause-least c =
    subst (λ (o : Occupancy). LeastFree o (record { region = c.in_ok-region.region; offset = 0 })) c.loop-region.invariant
    (least_new c.loop-region.self c.in_ok-region.region c.in_default.ensures.full c.in_ok-region.ensures.unmade)
