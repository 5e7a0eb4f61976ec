use Rattle.snapshot_stamps.specs.Watched.{Learned}
use Rattle.snapshot_stamps.specs.Seats.{watch, IsSeatOf}
use Rattle.snapshot_stamps.proofs.seat.Stamps.reach.Given as goal

abbrev pub invariant-loop : goal.invariant-loop
invariant-loop g l =
    (goal.iterator-loop g).can_next l.iterator' × (goal.iterator-loop g).is_finite l.iterator'
    × IsSeatOf l.self l.seat
    × Learned (watch l.initial.seat) (watch l.seat)
