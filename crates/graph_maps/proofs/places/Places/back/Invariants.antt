use Rattle.std.proofs.Common.{◌≡◌, ◌≤◌, take, length}
use Rattle.graph_maps.specs.Places.{kept, led_back, AreSound}
use Rattle.graph_maps.proofs.places.Places.back.Given as goal

abbrev pub invariant-loop-at : goal.invariant-loop-at
invariant-loop-at g l = record {
  within : l.at ≤ length l.self-inside.trail.items;
  sound : AreSound g.K.Ord.cmp g.K.ExactOrd.IsSound l.self-inside.trail.items l.self-inside.map.entries;
  was : kept (led_back g.K.Ord.cmp (take l.at l.self-inside.trail.items) l.self-inside.map.entries) ≡ l.fn.self.was;
}
