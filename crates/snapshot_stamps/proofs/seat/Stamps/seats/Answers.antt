use Rattle.std.proofs.Common.{◌+◌, List, Bool, true, ◌≡◌, [], ◌∷◌, ◌++◌, if◌then◌else◌, arith, sym, subst, ap, ◌∙◌}
use mathlib.Core.Bool.{not}
use Rattle.std.specs.Result.{is_ok}
use Rattle.snapshot_stamps.specs.declared.watch.Watch.{Watch}
use Rattle.snapshot_stamps.specs.declared.seat.StampSeat.{StampSeat}
use Rattle.snapshot_stamps.specs.Seats.{lane_count, began_at}
use Rattle.snapshot_stamps.proofs.Seating.{Seated, seated_more, all_seated, lane_taken}
use Rattle.snapshot_stamps.proofs.Steps.{Mine}
use Rattle.snapshot_stamps.proofs.seat.Stamps.seats.Goals as goal

pub loop-taken-preserved : goal.loop-taken-preserved
loop-taken-preserved c =
    let seat : StampSeat = c.first_seat-seat.result.0 in
    let old : List StampSeat = c.loop-taken.seats.items in
    let ok : is_ok c.push.result ≡ true = c.is_err.ensures.negation ∙ ap not c.if-is_err.false in
    let pushed : c.push.new.self.items ≡ old ++ seat ∷ [] = c.push.ensures.items ∙ ap (λ (b : Bool). if b then old ++ seat ∷ [] else old) ok in
    let rest = ap (λ (z : Mine). z.0) c.loop-taken.invariant.1 in
    let taken = lane_taken (began_at c.args.self.now) c.loop-taken._taken c.args.lanes c.loop-taken.rest.me.0 rest c.loop-taken-test.true in
    let first = c.first_seat-seat.ensures.first in
    let others = c.first_seat-seat.ensures.others in (
      others.0,
      others.1 ∙ ap (λ (z : Watch). (z, [])) taken.1,
      subst (λ (z : List StampSeat). Seated c.args.self.now (c.loop-taken._taken + 1) z) (sym pushed)
          (seated_more c.args.self.now c.loop-taken._taken old seat c.loop-taken.invariant.2 first.0 (first.1 ∙ taken.0)),
    )

pub returns : goal.returns
returns c =
    let all : c.loop-taken._taken ≡ lane_count c.args.self.now = let lanes = c.requires.lanes in omega arith in
    all_seated c.args.self.now c.loop-taken._taken c.loop-taken.seats.items c.loop-taken.invariant.2 all
