-- The seats of all lanes at the end of the clock.
use Rattle.std.proofs.Common.{sum_by, ◌≡◌, ℕ, ◌+◌, ◌≤◌, min, List, [], ◌∷◌, ◌++◌, length, length-append, All, Some, refl, sym, ap, ◌∙◌, arith}
use Rattle.std.proofs.lemmas.List.Elements.{All-nil, All-cons, All-head, All-push, All-pop}
use mathlib.Core.Option.{some, some-injective}
use lib.ListN.{get_elem?}
use Rattle.atomic_table.specs.Table.{Final, Seen}
use Rattle.a1_base.proofs.Sums.{sum_more, sum_one}
use Rattle.snapshot_stamps.specs.declared.watch.Watch.{Watch}
use Rattle.snapshot_stamps.specs.declared.seat.StampSeat.{StampSeat}
use Rattle.snapshot_stamps.specs.declared.seat.Stamps.{Stamps}
use Rattle.snapshot_stamps.specs.Watched.{joined, Learned}
use Rattle.a1_base.specs.declared.limits.TheConstants.{LAST_STAMP}
use Rattle.snapshot_stamps.specs.Clock.{times, once_between, Clock}
use Rattle.snapshot_stamps.specs.Seats.{watch, lane_count, began_at, IsSeatOf, HaveAllLanes, ClockCloses}
use Rattle.snapshot_stamps.proofs.Sums.{sum_only}
use Rattle.snapshot_stamps.proofs.Counts.{times_append}
use Rattle.snapshot_stamps.proofs.Steps.{no_length}

-- a view with all lanes has all additions and has drawn all stamps
pub ends : (lanes from id : ℕ) (v : Watch) (words : List ℕ) (slots : List (Unit {0})) (clock answer : ℕ)
    → Final (Seen (Clock lanes from) id v) words slots → get_elem? words 0 ≡ some clock → length v.lanes ≡ lanes → answer ≡ min clock LAST_STAMP
    → (answer ≡ min (from + v.additions) LAST_STAMP) × (v.known ≤ answer) × ((x : ℕ) → times x v.drawn ≡ once_between from answer x)
ends lanes from id v words slots clock answer final there all is =
    let s = final.0 in
    let k = final.1.0 in
    let at = final.1.1 in
    let stands : k.clock ≡ clock = some-injective k.clock clock (ap (λ (z : List ℕ). get_elem? z 0) (sym k.words ∙ final.2) ∙ there) in
    let mine = k.fits id v at in
    let lanes_out = k.lanes_out ∙ sym all in
    let added : sum_by (λ (z : Watch). z.additions) s.views ≡ v.additions
    = sum_only (λ z. z.additions) (λ z. length z.lanes) s.views id v (λ i u e none. ((k.fits i u e).no_lane (no_length u.lanes none)).0) at lanes_out in
    let counted = k.counted in
    let known = mine.known in
    let within = mine.within in (
      omega arith,
      omega arith,
      λ x.
          let drew : sum_by (λ (z : Watch). times x z.drawn) s.views ≡ times x v.drawn
          = sum_only (λ z. times x z.drawn) (λ z. length z.lanes) s.views id v (λ i u e none. ap (times x) ((k.fits i u e).no_lane (no_length u.lanes none)).1) at lanes_out in
          sym drew ∙ k.drawn x ∙ ap (λ (z : ℕ). once_between from z x) (omega arith),
    )

pub ends_one : (stamps : Stamps) (s : StampSeat) (words : List ℕ) (slots : List (Unit {0})) (clock answer : ℕ)
    → Final (Seen (Clock (lane_count stamps) (began_at stamps)) s.seat.id (watch s)) words slots → get_elem? words 0 ≡ some clock
    → length (watch s).lanes ≡ lane_count stamps → answer ≡ min clock LAST_STAMP → ClockCloses stamps (s ∷ []) answer
ends_one stamps s words slots clock answer final there all is =
    let t = ends (lane_count stamps) (began_at stamps) s.seat.id (watch s) words slots clock answer final there all is in
    let P : StampSeat → Type 0 = λ (s : StampSeat). (watch s).known ≤ answer in
    let a = t.0 in
    let one = sum_one (λ s. (watch s).additions) s in
    (omega arith, All-cons P s [] t.1 (All-nil P), λ x. let d = t.2 x in let one = sum_one (λ s. times x (watch s).drawn) s in omega arith)

-- of all seats these are left, and one knows and has what the others did
pub record Gathered (all left : List StampSeat) (v : Watch) : Type 0 where
  pub additions : sum_by (λ (s : StampSeat). (watch s).additions) left + v.additions ≡ sum_by (λ (s : StampSeat). (watch s).additions) all
  pub lanes : sum_by (λ (s : StampSeat). length (watch s).lanes) left + length v.lanes ≡ sum_by (λ (s : StampSeat). length (watch s).lanes) all
  pub drawn : (x : ℕ) → sum_by (λ (s : StampSeat). times x (watch s).drawn) left + times x v.drawn ≡ sum_by (λ (s : StampSeat). times x (watch s).drawn) all
  pub known : (n : ℕ) → v.known ≤ n → All (λ (s : StampSeat). (watch s).known ≤ n) left → All (λ (s : StampSeat). (watch s).known ≤ n) all

pub gathers_one : (left : List StampSeat) (s : StampSeat) → Gathered (left ++ s ∷ []) left (watch s)
gathers_one left s = record {
  additions = sym (sum_more (λ s. (watch s).additions) left s);
  lanes = sym (sum_more (λ s. length (watch s).lanes) left s);
  drawn = λ x. sym (sum_more (λ s. times x (watch s).drawn) left s);
  known = λ n le each. All-push (λ (s : StampSeat). (watch s).known ≤ n) left s each le;
}

pub gathers_more : (all left : List StampSeat) (v w : Watch) (s : StampSeat) → Gathered all (left ++ s ∷ []) v → Learned (joined v (watch s)) w → Gathered all left w
gathers_more all left v w s g l =
    let e = l.2 in
    let a : w.additions ≡ v.additions + (watch s).additions = ap (λ (z : Watch). z.additions) e in
    let b : length w.lanes ≡ length (v.lanes ++ (watch s).lanes) = ap (λ (z : Watch). length z.lanes) e in
    let k = l.0 in
    record {
      additions = let t = sum_more (λ s. (watch s).additions) left s in let h = g.additions in omega arith;
      lanes = let t = sum_more (λ s. length (watch s).lanes) left s in let h = g.lanes in let c = length-append v.lanes (watch s).lanes in omega arith;
      drawn = λ x.
          let t = sum_more (λ s. times x (watch s).drawn) left s in
          let h = g.drawn x in
          let d : times x w.drawn ≡ times x (v.drawn ++ (watch s).drawn) = ap (λ (z : Watch). times x z.drawn) e in
          let c = times_append x v.drawn (watch s).drawn in
          omega arith;
      known = λ n le each. g.known n (omega arith) (All-push (λ (s : StampSeat). (watch s).known ≤ n) left s each (omega arith));
    }

pub ends_all : (stamps : Stamps) (all : List StampSeat) (s : StampSeat) (answer : ℕ) → Gathered all [] (watch s) → ClockCloses stamps (s ∷ []) answer → ClockCloses stamps all answer
ends_all stamps all s answer g end =
    let a = g.additions in
    let p = end.0 in
    let one = sum_one (λ s. (watch s).additions) s in (
      omega arith,
      g.known answer (All-head (λ (s : StampSeat). (watch s).known ≤ answer) s [] end.1) (All-nil (λ (s : StampSeat). (watch s).known ≤ answer)),
      λ x. let d = g.drawn x in let q = end.2 x in let one = sum_one (λ s. times x (watch s).drawn) s in omega arith,
    )

-- a seat goes back to the others, with its lanes
pub given_back : (stamps : Stamps) (others : List StampSeat) (s t : StampSeat) → HaveAllLanes stamps (others ++ s ∷ []) → IsSeatOf stamps t → (watch t).lanes ≡ (watch s).lanes
    → HaveAllLanes stamps (others ++ t ∷ [])
given_back stamps others s t all is lanes =
    let f : StampSeat → ℕ = λ s. length (watch s).lanes in
    let old = sum_more f others s in
    let new = sum_more f others t in
    let same : f t ≡ f s = ap (λ (l : List ℕ). length l) lanes in
    let sum = all.1 in
    let each = All-pop (IsSeatOf stamps) (others ++ s ∷ []) others (Some s) refl all.0 in
    (All-push (IsSeatOf stamps) others t each.0 is, omega arith)
