use Rattle.std.proofs.Common.{◌<◌, ◌≤◌, length}
use Rattle.turnstile.specs.Entries.{up_to}
use Rattle.farm_commit.specs.Making.{AreFresh, AreMade}
use Rattle.farm_commit.proofs.building.actors_of.Given as goal

abbrev pub invariant-loop-seat : goal.invariant-loop-seat
invariant-loop-seat l = record {
  few : length l.seats.items ≤ l.actors;
  rest : 0 < length l.seats.items → AreFresh l.locks (up_to (length l.seats.items)) l.rest.items;
  made : AreMade l.locks l._stamps l.actors l.seats.items l.all.items;
}

abbrev pub decreases-loop-seat : goal.decreases-loop-seat
decreases-loop-seat l = length l.seats.items
