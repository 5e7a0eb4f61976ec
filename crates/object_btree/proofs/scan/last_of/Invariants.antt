use Rattle.std.proofs.Common.{◌≡◌, ◌++◌, ◌∷◌, [], List, length}
use Rattle.std.specs.List.{AllByRecursion}
use Rattle.object_view.specs.Layout.{Entry, IsEntry, entries}
use Rattle.object_btree.proofs.scan.last_of.Given as goal

abbrev pub invariant-each : goal.invariant-each
invariant-each l = (low : List Entry) (e : Entry) → AllByRecursion IsEntry (low ++ e ∷ [])
    → l.bytes ≡ entries (low ++ e ∷ [])
    → (p : List Entry) × (q : List Entry) × (low ≡ p ++ q) × (l.bytes ≡ entries p ++ l.rest)
    × (l.rest ≡ entries (q ++ e ∷ [])) × AllByRecursion IsEntry (q ++ e ∷ [])

abbrev pub decreases-each : goal.decreases-each
decreases-each l = length l.rest
