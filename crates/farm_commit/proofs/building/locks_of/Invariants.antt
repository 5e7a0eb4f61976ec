use Rattle.std.proofs.Common.{◌≡◌, ℕ, ◌≤◌, length}
use Rattle.turnstile.specs.Entries.{up_to}
use Rattle.farm_commit.specs.Building.{part_of, AreApart, AreLoaded, ArePlaces}
use Rattle.farm_commit.specs.Nodes.{HavePasses}
use Rattle.farm_commit.specs.Making.{AreFresh}
use Rattle.farm_commit.proofs.building.locks_of.Given as goal

abbrev pub invariant-loop-node : goal.invariant-loop-node
invariant-loop-node l = record {
  places : ArePlaces l.nodes l.rest.items;
  apart : AreApart l.rest.items;
  left : (j : ℕ) → l.node ≤ j → part_of l.nodes j l.rest.items ≡ part_of l.nodes j l.fn.heap.items;
  count : length l.locks.items ≡ l.node;
  loaded : AreLoaded l.locks.items l.nodes l.actors l.stamp l.fn.heap.items;
  passes : HavePasses l.locks.items l.actors;
  parts : AreFresh l.locks.items (up_to l.actors) l.parts.items;
}
