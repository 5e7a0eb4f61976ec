use Rattle.std.proofs.Common.{◌≡◌, ◌+◌, ◌++◌, ◌≤◌, List, length}
use Rattle.std.specs.List.{AllByRecursion}
use Rattle.object_view.specs.Layout.{Entry, IsEntry, entries}
use Rattle.object_btree.proofs.scan.split_in.Given as goal

abbrev pub invariant-each : goal.invariant-each
invariant-each l = (l.left ≤ l.count) × ((es : List Entry) → AllByRecursion IsEntry es → l.bytes ≡ entries es
    → l.count ≤ length es → (low : List Entry) × (fs : List Entry) × AllByRecursion IsEntry fs × (l.rest ≡ entries fs)
    × (l.bytes ≡ entries low ++ l.rest) × (es ≡ low ++ fs) × (length low + l.left ≡ l.count))

abbrev pub decreases-each : goal.decreases-each
decreases-each l = l.left
