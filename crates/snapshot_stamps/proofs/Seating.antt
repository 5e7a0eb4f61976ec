-- A seat for each lane, one lane after another.
use Rattle.std.proofs.Common.{sum_by, ◌≡◌, ℕ, suc, ◌+◌, ◌-◌, ◌<◌, List, [], ◌∷◌, ◌++◌, length, All, map, refl, sym, ap, ◌∙◌, arith}
use Rattle.std.proofs.lemmas.List.{map-append}
use Rattle.std.proofs.lemmas.List.Elements.{All-push}
use Rattle.std.proofs.lemmas.List.Sums.{sum_by-cons}
use Rattle.snapshot_stamps.specs.declared.watch.Watch.{Watch}
use Rattle.snapshot_stamps.specs.declared.seat.Stamps.{Stamps}
use Rattle.snapshot_stamps.specs.declared.seat.StampSeat.{StampSeat}
use Rattle.snapshot_stamps.specs.Watched.{newcomer, lanes_from, first_lane, other_lanes}
use Rattle.snapshot_stamps.specs.Seats.{watch, lane_count, began_at, IsSeatOf, AreSeatsOf, HaveAllLanes}
use Rattle.snapshot_stamps.proofs.Counts.{lanes_length, lanes_snoc}

-- these are the seats of the first n lanes
abbrev pub Seated : Stamps → ℕ → List StampSeat → Type 0
Seated stamps n seats = All (IsSeatOf stamps) seats × (map watch seats ≡ map (λ k. newcomer (began_at stamps) (k ∷ [])) (lanes_from 1 n))

pub seated_more : (stamps : Stamps) (n : ℕ) (seats : List StampSeat) (s : StampSeat) → Seated stamps n seats → IsSeatOf stamps s → watch s ≡ newcomer (began_at stamps) ((n + 1) ∷ [])
    → Seated stamps (n + 1) (seats ++ s ∷ [])
seated_more stamps n seats s old is new =
    let f : ℕ → Watch = λ k. newcomer (began_at stamps) (k ∷ []) in
    let next : n + 1 ≡ suc n = omega arith in
    let last : 1 + n ≡ n + 1 = omega arith in
    let lanes : lanes_from 1 (n + 1) ≡ lanes_from 1 n ++ (n + 1) ∷ [] = ap (lanes_from 1) next ∙ lanes_snoc 1 n ∙ ap (λ (k : ℕ). lanes_from 1 n ++ k ∷ []) last in (
      All-push (IsSeatOf stamps) seats s old.0 is,
      map-append watch seats (s ∷ []) ∙ ap (λ (z : List Watch). z ++ watch s ∷ []) old.1 ∙ ap (λ (z : Watch). map f (lanes_from 1 n) ++ z ∷ []) new
          ∙ sym (map-append f (lanes_from 1 n) ((n + 1) ∷ [])) ∙ ap (map f) (sym lanes),
    )

first_of : (from n left : ℕ) (v : Watch) → v ≡ newcomer from (lanes_from (n + 1) left) → (m : ℕ) → left ≡ suc m
    → (first_lane v ≡ newcomer from ((n + 1) ∷ [])) × (other_lanes v ≡ newcomer from (lanes_from (n + 1 + 1) m))
first_of from n left v is m left_is =
    let e : v ≡ newcomer from (lanes_from (n + 1) (suc m)) = is ∙ ap (λ (z : ℕ). newcomer from (lanes_from (n + 1) z)) left_is in
    (ap first_lane e, ap other_lanes e ∙ ap (λ (z : ℕ). newcomer from (lanes_from z m)) (omega arith))

-- of the lanes above the first n one is taken
pub lane_taken : (from n lanes : ℕ) (v : Watch) → v ≡ newcomer from (lanes_from (n + 1) (lanes - n)) → n < lanes
    → (first_lane v ≡ newcomer from ((n + 1) ∷ [])) × (other_lanes v ≡ newcomer from (lanes_from (n + 1 + 1) (lanes - (n + 1))))
lane_taken from n lanes v is less = first_of from n (lanes - n) v is (lanes - (n + 1)) (omega arith)

lanes_total : (from : ℕ) (seats : List StampSeat) (numbers : List ℕ) → map watch seats ≡ map (λ k. newcomer from (k ∷ [])) numbers
    → sum_by (λ (s : StampSeat). length (watch s).lanes) seats ≡ length numbers
lanes_total from [] [] is = refl
lanes_total from [] (k ∷ ks) is = cc
lanes_total from (s ∷ seats) [] is = cc
lanes_total from (s ∷ seats) (k ∷ ks) is =
    let first : watch s ≡ newcomer from (k ∷ []) = cc in
    let others : map watch seats ≡ map (λ k. newcomer from (k ∷ [])) ks = cc in
    let one : length (watch s).lanes ≡ 1 = ap (λ (v : Watch). length v.lanes) first in
    let r = lanes_total from seats ks others in
    let whole = sum_by-cons (λ (s : StampSeat). length (watch s).lanes) s seats in
    omega arith

pub all_seated : (stamps : Stamps) (n : ℕ) (seats : List StampSeat) → Seated stamps n seats → n ≡ lane_count stamps → AreSeatsOf stamps seats × HaveAllLanes stamps seats
all_seated stamps n seats seated all =
    let f : ℕ → Watch = λ k. newcomer (began_at stamps) (k ∷ []) in
    let are : map watch seats ≡ map f (lanes_from 1 (lane_count stamps)) = seated.1 ∙ ap (λ (k : ℕ). map f (lanes_from 1 k)) all in
    ((seated.0, are), (seated.0, lanes_total (began_at stamps) seats (lanes_from 1 (lane_count stamps)) are ∙ lanes_length 1 (lane_count stamps)))
