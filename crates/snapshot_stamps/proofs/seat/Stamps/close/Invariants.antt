use Rattle.std.proofs.Common.{All, vec_len}
use Rattle.snapshot_stamps.specs.Seats.{watch, IsSeatOf}
use Rattle.snapshot_stamps.proofs.Closing.{Gathered}
use Rattle.snapshot_stamps.proofs.seat.Stamps.close.Given as goal

abbrev pub invariant-loop-seat : goal.invariant-loop-seat
invariant-loop-seat l =
    IsSeatOf l.self l.whole
    × All (IsSeatOf l.self) l.seats.items
    × Gathered l.fn.seats.items l.seats.items (watch l.whole)

abbrev pub decreases-loop-seat : goal.decreases-loop-seat
decreases-loop-seat l = vec_len l.seats
