use Rattle.object_region.proofs.Words.{◌∙◌, ap, with_place, Regions, occupancy_of}
use Rattle.object_region.proofs.Taken.{placed_twice}
use Rattle.object_region.proofs.places.Places.claim.Goals as goal
use Rattle.object_region.proofs.places.Places.claim.Goals.{then-not-contains_key+in_ok-make, else-not-contains_key}

pub returns-clause-ok : goal.returns-clause-ok
returns-clause-ok c =
    let place = c.args.place in
    elim c.if-not-contains_key.branch [
      | then-not-contains_key+in_ok-make w ↦
          c.mark.ensures ∙ (ap (with_place place) (ap occupancy_of w.self-is ∙ w.in_ok-make.ensures.ok) ∙ placed_twice place (occupancy_of c.args.self.now))
      | else-not-contains_key w ↦ c.mark.ensures ∙ ap (λ (r : Regions). with_place place (occupancy_of r)) w.self-is
    ]
