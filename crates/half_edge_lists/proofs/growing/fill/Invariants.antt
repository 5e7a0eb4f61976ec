use Rattle.std.proofs.Common.{◌≡◌, ◌≤◌, List, [], length, map}
use Rattle.std.specs.List.{AllByRecursion}
use Rattle.a1_base.specs.declared.place.Addr.{Addr}
use Rattle.object_view.specs.Agreement.{Heap, Agrees, stood}
use Rattle.object_view.specs.Layout.{entries}
use Rattle.object_view.specs.Parts.{Onward}
use Rattle.object_view.specs.Trees.{IsTree}
use Rattle.type_schema.specs.declared.objects.Half.{Half}
use Rattle.type_schema.specs.Objects.{IsHalf, half_entry}
use Rattle.type_schema.specs.Structures.{Rising}
use Rattle.half_edge_lists.specs.Steps.{Filled}
use Rattle.half_edge_lists.proofs.growing.fill.Given as goal

abbrev pub invariant-each : goal.invariant-each
invariant-each g l = record {
  onward : Onward g.V.View.trace g.V.View.overlay g.V.View.reaches g.V.View.count g.V.View.kept l.fn.view l.view;
  filled : (heap : Heap) (halves : List Half) (places : List Addr)
      → Agrees heap (g.V.View.trace l.view) (g.V.View.overlay l.view) → AllByRecursion IsHalf halves
      → Rising (map half_entry halves) → length halves ≤ 1001 → l.body ≡ entries (map half_entry halves)
      → IsTree (g.V.View.count l.fn.view) (stood heap (g.V.View.overlay l.fn.view)) l.tree.anchor l.at [] places
      → Filled (g.V.View.count l.fn.view) (stood heap (g.V.View.overlay l.fn.view))
      (stood heap (g.V.View.overlay l.view)) l.tree.anchor l.at places halves l.rest l.count;
}

abbrev pub decreases-each : goal.decreases-each
decreases-each g l = length l.rest
