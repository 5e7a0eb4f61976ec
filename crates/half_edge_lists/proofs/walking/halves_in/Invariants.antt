use Rattle.std.proofs.Common.{◌≡◌, List}
use Rattle.std.specs.Prelude.{map}
use Rattle.std.specs.List.{AllByRecursion}
use Rattle.object_view.specs.Layout.{entries}
use Rattle.type_schema.specs.declared.objects.Half.{Half}
use Rattle.type_schema.specs.Objects.{IsHalf, half_entry}
use Rattle.half_edge_lists.proofs.Decoding.{Halfway}
use Rattle.half_edge_lists.proofs.walking.halves_in.Given as goal

abbrev pub invariant-each : goal.invariant-each
invariant-each l = (halves : List Half) → AllByRecursion IsHalf halves → l.body ≡ entries (map half_entry halves)
    → Halfway halves l.limit l.out.items l.rest l.left

abbrev pub decreases-each : goal.decreases-each
decreases-each l = l.left
