use Rattle.std.proofs.Common.{rules, List, ℕ, ◌≡◌, [], ◌∷◌, ◌++◌, sym, subst, ap, ◌∙◌}
use Rattle.snapshot_stamps.specs.declared.watch.Watch.{Watch}
use Rattle.snapshot_stamps.specs.declared.seat.StampSeat.{StampSeat}
use Rattle.snapshot_stamps.specs.Seats.{watch, HaveAllLanes}
use Rattle.snapshot_stamps.proofs.Closing.{given_back}
use Rattle.snapshot_stamps.proofs.tests.draws_the_next_stamp.Goals as goal

pub close-requires : goal.close-requires
close-requires g c =
    let others : List StampSeat = c.pop.new.self.items in
    let popped : c.in_ok-stamps.seats.items ≡ others ++ c.in_ok-seat.seat ∷ [] = search rules in
    let pushed : c.push.new.self.items ≡ others ++ c.now-2.new.seat ∷ [] = search rules in
    let lanes_of : Watch → List ℕ = λ v. v.lanes in
    let lanes : (watch c.now-2.new.seat).lanes ≡ (watch c.in_ok-seat.seat).lanes =
    ap lanes_of c.now-2.ensures.learned.2 ∙ ap lanes_of c.reach.ensures.learned.2 ∙ c.draw.ensures.lanes ∙ ap lanes_of c.now.ensures.learned.2 in
    subst (λ (z : List StampSeat). HaveAllLanes c.in_ok-stamps.stamps z) (sym pushed)
    (given_back c.in_ok-stamps.stamps others c.in_ok-seat.seat c.now-2.new.seat (subst (λ (z : List StampSeat). HaveAllLanes c.in_ok-stamps.stamps z) popped c.in_ok-stamps.ensures.lanes) c.now-2.ensures.seat lanes)
