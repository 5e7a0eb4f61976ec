use Rattle.std.proofs.Common.{vec_len}
use Rattle.snapshot_stamps.specs.Seats.{watch, IsSeatOf}
use Rattle.snapshot_stamps.proofs.Closing.{Gathered}
use Rattle.farm_commit.specs.Closing.{seats_of}
use Rattle.farm_commit.proofs.Ends.{Gathers}
use Rattle.farm_commit.proofs.closing.all_in_one.Given as goal

abbrev pub invariant-loop-actor : goal.invariant-loop-actor
invariant-loop-actor l = record {
  seat : IsSeatOf l.stamps l.seat;
  gathered : Gathered (seats_of l.fn.actors.items) (seats_of l.actors.items) (watch l.seat);
  gathers : Gathers l.locks l.fn.actors.items l.actors.items l.parts.items;
}

abbrev pub decreases-loop-actor : goal.decreases-loop-actor
decreases-loop-actor l = vec_len l.actors
