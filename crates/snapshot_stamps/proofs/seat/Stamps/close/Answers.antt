use Rattle.std.proofs.Common.{rules, length, List, ◌≡◌, [], ◌∷◌, ◌++◌, Some, sym, subst}
use Rattle.std.proofs.lemmas.List.{nil_from_length}
use Rattle.std.proofs.lemmas.List.Elements.{All-pop}
use Rattle.snapshot_stamps.specs.declared.seat.StampSeat.{StampSeat}
use Rattle.snapshot_stamps.specs.Seats.{watch, IsSeatOf}
use Rattle.snapshot_stamps.proofs.Closing.{Gathered, gathers_one, gathers_more, ends_all}
use Rattle.snapshot_stamps.proofs.seat.Stamps.close.Goals as goal

pub loop-seat-init : goal.loop-seat-init
loop-seat-init c =
    let e : c.args.seats.items ≡ c.pop.new.self.items ++ c.in-Some.whole ∷ [] = c.in-Some.ensures.items in
    let each = All-pop (IsSeatOf c.args.self) c.args.seats.items c.pop.new.self.items (Some c.in-Some.whole) e c.requires.0 in
    (each.1, each.0, subst (λ (z : List StampSeat). Gathered z c.pop.new.self.items (watch c.in-Some.whole)) (sym e) (gathers_one c.pop.new.self.items c.in-Some.whole))

pub unite-whole-requires : goal.unite-whole-requires
unite-whole-requires c =
    let e : c.loop-seat.seats.items ≡ c.pop-in-loop-seat.new.self.items ++ c.in-Some-pop.seat ∷ [] = c.in-Some-pop.ensures.items in
    let each = All-pop (IsSeatOf c.args.self) c.loop-seat.seats.items c.pop-in-loop-seat.new.self.items (Some c.in-Some-pop.seat) e c.loop-seat.invariant.1 in
    record { seats = (c.loop-seat.invariant.0, each.1) }

pub loop-seat-preserved : goal.loop-seat-preserved
loop-seat-preserved c =
    let e : c.loop-seat.seats.items ≡ c.pop-in-loop-seat.new.self.items ++ c.in-Some-pop.seat ∷ [] = c.in-Some-pop.ensures.items in
    let each = All-pop (IsSeatOf c.args.self) c.loop-seat.seats.items c.pop-in-loop-seat.new.self.items (Some c.in-Some-pop.seat) e c.loop-seat.invariant.1 in (
      c.unite-whole.ensures.seat,
      each.0,
      gathers_more c.args.seats.items c.pop-in-loop-seat.new.self.items (watch c.loop-seat.whole) (watch c.unite-whole.result) c.in-Some-pop.seat
          (subst (λ (z : List StampSeat). Gathered c.args.seats.items z (watch c.loop-seat.whole)) e c.loop-seat.invariant.2)
          c.unite-whole.ensures.learned,
    )

pub returns : goal.returns
returns c =
    let none : length c.loop-seat.seats.items ≡ 0 = search rules in
    ends_all c.args.self c.args.seats.items c.loop-seat.whole c.close_with.result
    (subst (λ (z : List StampSeat). Gathered c.args.seats.items z (watch c.loop-seat.whole)) (nil_from_length _ none) c.loop-seat.invariant.2)
    c.close_with.ensures
