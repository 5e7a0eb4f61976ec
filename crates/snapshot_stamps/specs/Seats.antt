-- Seats and notes, as clauses name them.
use Rattle.std.specs.Prelude.{◌≡◌, ℕ, ◌+◌, ◌≤◌, min, List, [], ◌∷◌, length, All, map, sum_by}
use Rattle.snapshot_stamps.specs.declared.watch.Watch.{Watch}
use Rattle.snapshot_stamps.specs.declared.seat.Stamps.{Stamps}
use Rattle.snapshot_stamps.specs.declared.seat.StampSeat.{StampSeat}
use Rattle.snapshot_stamps.specs.declared.seat.Note.{Note}
use Rattle.snapshot_stamps.specs.Watched.{newcomer, lanes_from}
use Rattle.a1_base.specs.declared.limits.TheConstants.{LAST_STAMP}
use Rattle.snapshot_stamps.specs.Clock.{times, once_between}

-- how many lanes the clock has, and where it began
abbrev pub lane_count : Stamps → ℕ
lane_count stamps = stamps.table.shared.key.lanes

abbrev pub began_at : Stamps → ℕ
began_at stamps = stamps.table.shared.key.from

-- what the seat knows; what the note knows
abbrev pub watch : StampSeat → Watch
watch seat = seat.seat.me.0

abbrev pub noted_watch : Note → Watch
noted_watch note = note.seat.me.0

abbrev pub IsSeatOf : Stamps → StampSeat → Type 0
IsSeatOf stamps seat = seat.seat.table_id ≡ stamps.table.shared.table_id

abbrev pub IsNoteOf : Stamps → Note → Type 0
IsNoteOf stamps note = note.seat.table_id ≡ stamps.table.shared.table_id

-- one seat for each lane, each knowing where the clock began
abbrev pub AreSeatsOf : Stamps → List StampSeat → Type 0
AreSeatsOf stamps seats =
    All (IsSeatOf stamps) seats
    × (map watch seats ≡ map (λ lane. newcomer (began_at stamps) (lane ∷ [])) (lanes_from 1 (lane_count stamps)))

-- all lanes are in the hands of these seats
abbrev pub HaveAllLanes : Stamps → List StampSeat → Type 0
HaveAllLanes stamps seats =
    All (IsSeatOf stamps) seats × (sum_by (λ (s : StampSeat). length (watch s).lanes) seats ≡ lane_count stamps)

-- The answer at the end: where the clock began plus all additions of these seats, at most the last stamp. It is at
-- least what each
-- knew, and each stamp above the beginning and at most the answer was drawn by one of these seats, once, and no other
-- stamp was
abbrev pub ClockCloses : Stamps → List StampSeat → ℕ → Type 0
ClockCloses stamps seats answer =
    (answer ≡ min (began_at stamps + sum_by (λ (s : StampSeat). (watch s).additions) seats) LAST_STAMP)
    × All (λ (s : StampSeat). (watch s).known ≤ answer) seats
    × ((x : ℕ) → sum_by (λ (s : StampSeat). times x (watch s).drawn) seats ≡ once_between (began_at stamps) answer x)
