use Rattle.object_region.proofs.Words.{true, ap, ◌∙◌, refl, arith, heap_items, heap_capacity, IfOk-at_ok, Made, listed_in}
use Rattle.object_region.proofs.Keys.{changed}
use Rattle.object_region.proofs.Kept.{kept_listed, room_for}
use Rattle.object_region.proofs.Taken.{given_back}
use Rattle.object_region.proofs.places.Places.give.Goals as goal

pub unwrap-requires : goal.unwrap-requires
unwrap-requires c =
    let new : Made = record { region = c.give.new.self; listed = true } in
    let change = changed c.self.inside.regions (c.get_mut.follows.lender new) c.args.place.region new _ _
    c.get_mut.ensures.value c.unwrap-made.ensures (c.get_mut.follows.holds new) in
    let room = room_for c.self.invariant c.args.place.region (rw change.there refl) (ap listed_in change.there ∙ c.if-not-listed.true) in
    c.push.ensures.succeeds (omega arith)

pub invariant_of-self : goal.invariant_of-self
invariant_of-self c =
    let new : Made = record { region = c.give.new.self; listed = true } in
    let change = changed c.self.inside.regions (c.get_mut.follows.lender new) c.args.place.region new _ _
    c.get_mut.ensures.value c.unwrap-made.ensures (c.get_mut.follows.holds new) in
    kept_listed c.self.invariant _ (heap_items c.push.new.self) (heap_capacity c.push.new.self) (record { 0 = c.args.place.region }) new change.put
    (c.self.invariant.of_node _ (rw change.there refl)) (ap listed_in change.there ∙ c.if-not-listed.true) refl
    (IfOk-at_ok (λ _. _) c.unwrap.ensures c.push.ensures.permutation) (IfOk-at_ok (λ _. _) c.unwrap.ensures c.push.ensures.heap_order c.self.invariant.lowest_first)
    (omega (arith, c.push.ensures.capacity, c.self.invariant.roomy, change.count))

pub returns-then-not-listed : goal.returns-then-not-listed
returns-then-not-listed c =
    given_back c.self.inside.regions (c.get_mut.follows.lender _) c.args.place c.self.view_is c.get_mut.ensures.value c.unwrap-made.ensures (c.get_mut.follows.holds _) c.give.ensures

pub returns-else-not-listed : goal.returns-else-not-listed
returns-else-not-listed c =
    given_back c.self.inside.regions (c.get_mut.follows.lender _) c.args.place c.self.view_is c.get_mut.ensures.value c.unwrap-made.ensures (c.get_mut.follows.holds _) c.give.ensures
