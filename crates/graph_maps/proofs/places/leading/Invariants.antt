use Rattle.std.proofs.Common.{◌≡◌, ◌++◌, map, length}
use Rattle.std.specs.List.{take_while}
use Rattle.graph_maps.specs.Places.{kept}
use Rattle.graph_maps.proofs.places.leading.Given as goal

abbrev pub invariant-loop-key : goal.invariant-loop-key
invariant-loop-key g l =
    map (λ e. (e.0.now, e.1.now)) l.rows.items ++ kept (take_while (λ e. g.P.Part.has l.part e.0) l.places)
    ≡ kept (take_while (λ e. g.P.Part.has l.part e.0) l.initial.places)

abbrev pub decreases-loop-key : goal.decreases-loop-key
decreases-loop-key g l = length l.places
