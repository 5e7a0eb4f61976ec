use Rattle.std.proofs.Common.{◌≡◌, ◌↔◌, length}
use Rattle.graph_maps.specs.Places.{kept}
use Rattle.graph_maps.proofs.comparing.same_entries.Given as goal

abbrev pub invariant-loop-entry : goal.invariant-loop-entry
invariant-loop-entry g l =
    (kept l.ours ≡ kept l.theirs) ↔ (kept l.initial.ours ≡ kept l.initial.theirs)

abbrev pub decreases-loop-entry : goal.decreases-loop-entry
decreases-loop-entry g l = length (kept l.ours)
