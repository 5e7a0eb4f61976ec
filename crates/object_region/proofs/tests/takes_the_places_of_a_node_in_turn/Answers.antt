use Rattle.object_region.proofs.Words.{◌≡◌, true, ap, ◌∙◌, arith, Result, Ok, Err, IfOk, OnErr, or_left, or_right, nat_tests, IfOk-at_ok, Addr, TakeFault, Occupancy, same_addr, with_place, occupancy_of}
use Rattle.object_region.proofs.tests.takes_the_places_of_a_node_in_turn.Goals as goal

same_as_itself : (a : Addr) → same_addr a a ≡ true
same_as_itself a = grind (arith, nat_tests)

stays_taken : (a : Addr) (before after : Occupancy) (r : Result Addr TakeFault) → before.taken a ≡ true
    → IfOk r (λ b. after ≡ with_place b before) → OnErr r (after ≡ before) → after.taken a ≡ true
stays_taken a before after (Ok b) taken ok err = ap (λ (o : Occupancy). o.taken a) ok ∙ or_right (same_addr b a) (before.taken a) taken
stays_taken a before after (Err e) taken ok err = ap (λ (o : Occupancy). o.taken a) err ∙ taken

pub give-requires : goal.give-requires
give-requires g c =
    let a = c.in-Ok.place in
    let last = IfOk-at_ok (λ (b : Addr). occupancy_of c.take-last.new.self ≡ with_place b (occupancy_of c.loop-offset.places)) c.in-Ok.is c.take-last.ensures.ok in
    let taken : (occupancy_of c.take-last.new.self).taken a ≡ true = ap (λ (o : Occupancy). o.taken a) last ∙ or_left (same_addr a a) _ (same_as_itself a) in
    record { taken = stays_taken a (occupancy_of c.take-last.new.self) (occupancy_of c.take-2.new.self) c.take-2.result taken c.take-2.ensures.ok c.take-2.ensures.err }
