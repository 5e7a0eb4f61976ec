use Rattle.std.proofs.Common.{◌≡◌, List, map, take}
use Rattle.object_view.specs.Layout.{entries}
use Rattle.type_schema.specs.declared.objects.Half.{Half}
use Rattle.type_schema.specs.Objects.{half_entry}
use Rattle.half_edge_lists.specs.Forms.{half_pair}
use Rattle.half_edge_lists.proofs.shrinking.spelled.Given as goal

abbrev pub invariant-loop-pair : goal.invariant-loop-pair
invariant-loop-pair l = (halves : List Half) → l.pairs ≡ map half_pair halves
    → l.out ≡ entries (map half_entry (take l.pair-index halves))
