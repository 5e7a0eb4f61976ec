use Rattle.std.proofs.Common.{◌≡◌, ℕ, ◌+◌, ◌-◌, ◌≤◌, List, [], ◌∷◌, length, sym, refl, ap, ◌∙◌, subst, arith, length-append}
use Rattle.std.specs.Vec.{with_items}
use Rattle.std.proofs.lemmas.List.{with_items_is}
use Rattle.snapshot_stamps.specs.declared.seat.StampSeat.{StampSeat}
use Rattle.turnstile.specs.Entries.{up_to}
use Rattle.transaction_part.specs.declared.part.Part.{Part}
use Rattle.farm_commit.specs.declared.actor.Actor.{Actor}
use Rattle.farm_commit.specs.Nodes.{Lock}
use Rattle.farm_commit.specs.Making.{AreFresh}
use Rattle.farm_commit.proofs.Founding.{made_more}
use Rattle.farm_commit.proofs.building.actors_of.Goals as goal

pub loop-seat-preserved : goal.loop-seat-preserved
loop-seat-preserved c =
    let ls : List Lock = c.args.locks.now in
    let v = c.loop-seat.invariant in
    let left : List StampSeat = c.pop.new.self.items in
    let cut : List Part = c.cut_parts.new.rest in
    let one_less : length c.loop-seat.seats.items ≡ length left + 1 =
    ap (length {A = StampSeat}) c.in-Some.ensures.items ∙ length-append left (c.in-Some.seat ∷ []) in
    let few : length c.loop-seat.seats.items ≤ c.args.actors = v.few in
    let said = c.len.ensures in
    let held = c.pop.new.self.ok.0 in
    let number : c.len.result + 1 ≡ length left + 1 = omega (arith, said, held) in
    let x : Actor = record { number = c.len.result + 1; begun = 0; seat = c.in-Some.seat; parts = c.in_ok-parts.parts; reads = c.new.result } in
    record {
      few = omega arith;
      rest = λ some.
          let fresh = c.in_ok-parts.ensures.rest (omega arith) in
          let now : length cut ≡ length ls = fresh.count in
          let was : length c.loop-seat.rest.items ≡ length ls = (v.rest (omega arith)).count in
          let room = c.loop-seat.rest.ok.0 in
          let kept : (with_items c.loop-seat.rest cut).items ≡ cut = with_items_is c.loop-seat.rest cut (omega (arith, room)) in
          let less : c.len.result + 1 - 1 ≡ length left = omega arith in
          subst (λ (ps : List Part). AreFresh ls (up_to (length left)) ps) (sym kept)
          (subst (λ (n : ℕ). AreFresh ls (up_to n) cut) less fresh);
      made = made_more ls c.args._stamps.now c.args.actors c.loop-seat.seats.items left c.loop-seat.all.items c.push.new.self.items x
          c.in-Some.ensures.items c.in_ok-push.ensures.items number refl c.new.ensures.items c.in_ok-parts.ensures.own v.made;
    }
