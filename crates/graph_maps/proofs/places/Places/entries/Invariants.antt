use Rattle.std.proofs.Common.{◌≡◌, map}
use Rattle.graph_maps.specs.Places.{kept}
use Rattle.graph_maps.proofs.places.Places.entries.Given as goal

abbrev pub invariant-loop-key : goal.invariant-loop-key
invariant-loop-key g l = map (λ e. (e.0.now, e.1.now)) l.rows.items ≡ kept (map (λ e. (e.0.now, e.1.now)) l.yielded)
