use Rattle.std.proofs.Common.{◌≡◌, List, [], ◌∷◌, ◌++◌, length, sym, ap, ◌∙◌, subst, rules}
use Rattle.std.proofs.lemmas.List.{nil_from_length, map-append}
use Rattle.a1_base.specs.Lists.{IsAmong}
use Rattle.snapshot_stamps.specs.declared.seat.StampSeat.{StampSeat}
use Rattle.snapshot_stamps.specs.Seats.{watch}
use Rattle.snapshot_stamps.proofs.Closing.{Gathered, gathers_more, gathers_one}
use Rattle.transaction_part.specs.Part.{SitsAt}
use Rattle.transaction_part.proofs.Lists.{among_end}
use Rattle.farm_commit.specs.declared.actor.Actor.{Actor}
use Rattle.farm_commit.specs.Closing.{seats_of}
use Rattle.farm_commit.specs.Ending.{IsThere, Knows}
use Rattle.farm_commit.proofs.Stepping.{part_weaker}
use Rattle.farm_commit.proofs.Ends.{Gathers, gathers_all, gathers_first, gathers_next}
use Rattle.farm_commit.proofs.closing.all_in_one.Goals as goal

seats_last : (all left : List Actor) (a : Actor) → all ≡ left ++ a ∷ [] → seats_of all ≡ seats_of left ++ a.seat ∷ []
seats_last all left a is = ap seats_of is ∙ map-append (λ (x : Actor). x.seat) left (a ∷ [])

pub loop-actor-init : goal.loop-actor-init
loop-actor-init c =
    let is = c.in-Some.ensures.items in
    let first = c.in-Some.first in
    let among : IsAmong first c.args.actors.items = subst (IsAmong first) (sym is) (among_end c.pop.new.self.items first) in
    record {
      seat = c.requires.seats first among;
      gathered = subst (λ (z : List StampSeat). Gathered z (seats_of c.pop.new.self.items) (watch first.seat)) (sym (seats_last _ _ first is))
          (gathers_one (seats_of c.pop.new.self.items) first.seat);
      gathers = gathers_first c.args.locks.now c.args.actors.items c.pop.new.self.items first is (c.requires.parts first among);
    }

pub unite-seat-requires : goal.unite-seat-requires
unite-seat-requires c =
    let is = c.in-Some-pop.ensures.items in
    let actor = c.in-Some-pop.actor in
    let v = c.loop-actor.invariant in
    record { seats = (v.seat, c.requires.seats actor (v.gathers.within actor (subst (IsAmong actor) (sym is) (among_end c.pop-in-loop-actor.new.self.items actor)))) }

pub join_parts-requires-clause-into : goal.join_parts-requires-clause-into
join_parts-requires-clause-into c =
    let v = c.loop-actor.invariant in
    part_weaker c.args.locks.now (Knows v.gathers.done) (λ _ l p. IsThere l p.pass) c.loop-actor.parts.items (λ i l p k. k.there) v.gathers.knows

pub join_parts-requires-clause-row : goal.join_parts-requires-clause-row
join_parts-requires-clause-row c =
    let is = c.in-Some-pop.ensures.items in
    let actor = c.in-Some-pop.actor in
    let v = c.loop-actor.invariant in
    part_weaker c.args.locks.now (λ _ l p. SitsAt l actor.number p) (λ _ l p. IsThere l p.pass) actor.parts.items
    (λ i l p s. (s.0, (s.1, s.2.of)))
    (c.requires.parts actor (v.gathers.within actor (subst (IsAmong actor) (sym is) (among_end c.pop-in-loop-actor.new.self.items actor))))

pub loop-actor-preserved : goal.loop-actor-preserved
loop-actor-preserved c =
    let is = c.in-Some-pop.ensures.items in
    let actor = c.in-Some-pop.actor in
    let v = c.loop-actor.invariant in
    record {
      seat = c.unite-seat.ensures.seat;
      gathered = gathers_more (seats_of c.args.actors.items) (seats_of c.pop-in-loop-actor.new.self.items) (watch c.loop-actor.seat)
          (watch c.unite-seat.result) actor.seat
          (subst (λ (z : List StampSeat). Gathered (seats_of c.args.actors.items) z (watch c.loop-actor.seat)) (seats_last _ _ actor is) v.gathered)
          c.unite-seat.ensures.learned;
      gathers = gathers_next c.args.locks.now c.args.actors.items c.loop-actor.actors.items c.pop-in-loop-actor.new.self.items actor
          c.loop-actor.parts.items c.join_parts.new.into.items is
          (c.requires.parts actor (v.gathers.within actor (subst (IsAmong actor) (sym is) (among_end c.pop-in-loop-actor.new.self.items actor))))
          c.join_parts.ensures v.gathers;
    }

pub returns-clause-gathered : goal.returns-clause-gathered
returns-clause-gathered c =
    let none : length c.loop-actor.actors.items ≡ 0 = search rules in
    subst (λ (z : List Actor). Gathered (seats_of c.args.actors.items) (seats_of z) (watch c.loop-actor.seat)) (nil_from_length _ none) c.loop-actor.invariant.gathered

pub returns-clause-knows : goal.returns-clause-knows
returns-clause-knows c =
    let none : length c.loop-actor.actors.items ≡ 0 = search rules in
    gathers_all c.args.locks.now c.args.actors.items c.loop-actor.parts.items
    (subst (λ (z : List Actor). Gathers c.args.locks.now c.args.actors.items z c.loop-actor.parts.items) (nil_from_length _ none) c.loop-actor.invariant.gathers)
