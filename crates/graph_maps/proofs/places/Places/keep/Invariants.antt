use Rattle.std.proofs.Common.{◌≡◌, vec_len}
use Rattle.std.specs.List.{AllByRecursion}
use Rattle.std.specs.Map.{keys_of}
use Rattle.a1_base.specs.Maps.{IsOrdered}
use Rattle.graph_maps.specs.Places.{kept}
use Rattle.graph_maps.proofs.places.Places.keep.Given as goal

abbrev pub invariant-loop-key : goal.invariant-loop-key
invariant-loop-key g l = record {
  ordered : IsOrdered g.K.Ord.cmp l.self-inside.map.entries;
  sound : AllByRecursion g.K.ExactOrd.IsSound (keys_of l.self-inside.map.entries);
  same : kept l.self-inside.map.entries ≡ l.fn.self.now;
}

abbrev pub decreases-loop-key : goal.decreases-loop-key
decreases-loop-key g l = vec_len l.self-inside.trail
