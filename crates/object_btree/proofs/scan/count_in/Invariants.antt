use Rattle.std.proofs.Common.{◌≡◌, ◌+◌, ◌≤◌, List, length}
use Rattle.std.specs.List.{AllByRecursion}
use Rattle.object_view.specs.Layout.{Entry, IsEntry, entries}
use Rattle.object_btree.proofs.scan.count_in.Given as goal

abbrev pub invariant-each : goal.invariant-each
invariant-each l = (l.count ≤ 65536) × ((es : List Entry) → AllByRecursion IsEntry es → l.bytes ≡ entries es
    → (fs : List Entry) × AllByRecursion IsEntry fs × (l.rest ≡ entries fs) × (length es ≡ l.count + length fs))

abbrev pub decreases-each : goal.decreases-each
decreases-each l = length l.rest
