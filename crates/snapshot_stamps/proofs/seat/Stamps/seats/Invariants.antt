use Rattle.std.proofs.Common.{◌≡◌, ◌+◌, ◌-◌, []}
use Rattle.snapshot_stamps.specs.Watched.{lanes_from, newcomer}
use Rattle.snapshot_stamps.specs.Seats.{began_at}
use Rattle.snapshot_stamps.proofs.Seating.{Seated}
use Rattle.snapshot_stamps.proofs.seat.Stamps.seats.Given as goal

abbrev pub invariant-loop-taken : goal.invariant-loop-taken
invariant-loop-taken l =
    (l.rest.table_id ≡ l.self.table.shared.table_id)
    × (l.rest.me ≡ (newcomer (began_at l.self) (lanes_from (l._taken + 1) (l.lanes - l._taken)), []))
    × Seated l.self l._taken l.seats.items
