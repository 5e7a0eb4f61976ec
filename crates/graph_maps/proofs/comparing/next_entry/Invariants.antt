use Rattle.std.proofs.Common.{◌≡◌}
use Rattle.graph_maps.specs.Places.{kept}
use Rattle.graph_maps.proofs.comparing.next_entry.Given as goal

abbrev pub invariant-loop-key : goal.invariant-loop-key
invariant-loop-key g l = kept l.places ≡ kept l.initial.places
