use Rattle.std.proofs.Common.{◌≡◌, length}
use Rattle.a1_base.specs.declared.place.Addr.{Addr}
use Rattle.object_view.specs.Agreement.{stood}
use Rattle.object_view.specs.Slots.{overlay_of, heap_in}
use Rattle.object_view.proofs.mem_view.settled.Given as goal

abbrev pub invariant-each : goal.invariant-each
invariant-each l = (a : Addr) → stood (heap_in l.heap) (overlay_of l.over) a ≡ stood (heap_in l.fn.heap)
    (overlay_of l.fn.over) a

abbrev pub decreases-each : goal.decreases-each
decreases-each l = length l.over.entries
