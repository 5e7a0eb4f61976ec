use Rattle.object_region.proofs.Words.{Made}
use Rattle.object_region.proofs.Keys.{changed}
use Rattle.object_region.proofs.Taken.{marked}
use Rattle.object_region.proofs.places.Places.mark.Goals as goal

pub returns : goal.returns
returns c =
    let new : Made = record { region = c.take.new.self; listed = c.unwrap-made.result.now.listed } in
    let change = changed c.self.inside.regions (c.get_mut.follows.lender new) c.args.place.region new _ _
    c.get_mut.ensures.value c.unwrap-made.ensures (c.get_mut.follows.holds new) in
    marked c.self.view_is _ c.args.place change c.take.ensures
