use Rattle.snapshot_stamps.specs.Seats.{IsSeatOf}
use Rattle.snapshot_stamps.proofs.tests.drawn.Given as goal

abbrev pub invariant-loop : goal.invariant-loop
invariant-loop l = IsSeatOf l.stamps l.seat
