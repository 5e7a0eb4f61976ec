use Rattle.std.proofs.Common.{◌≡◌, List, length}
use Rattle.std.specs.List.{AllByRecursion}
use Rattle.object_view.specs.Layout.{Entry, IsEntry, entries}
use Rattle.object_btree.specs.Steps.{Passed}
use Rattle.object_btree.proofs.scan.route_in.Given as goal

abbrev pub invariant-each : goal.invariant-each
invariant-each l = (es : List Entry) → AllByRecursion IsEntry es → l.bytes ≡ entries es
    → Passed l.key es l.bytes l.rest l.found

abbrev pub decreases-each : goal.decreases-each
decreases-each l = length l.rest
