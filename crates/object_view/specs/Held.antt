-- What contracts see of a view over memory.
use Rattle.std.specs.Prelude.{◌≡◌, ℕ, List, map, Result, Ok, Err}
use Rattle.a1_base.specs.declared.place.Addr.{Addr}
use Rattle.object_view.specs.declared.view.ViewFault.{ViewFault}
use Rattle.object_view.specs.declared.view.ViewFault.TheVariants as fault
use Rattle.object_view.specs.declared.mem_view.MemView.{MemView}
use Rattle.object_view.specs.Agreement.{Seen, Overlay, Heap}
use Rattle.object_view.specs.Calls.{noted, IsPlace}
use Rattle.object_view.specs.Slots.{overlay_of, heap_in, IsVacant, IsTakenBelow, place_at}

abbrev pub overlay_in : MemView → Overlay
overlay_in v = overlay_of v.over

-- the heap under the view
abbrev pub heap_of : MemView → Heap
heap_of v = heap_in v.heap

-- of each address that was read what the heap has there
abbrev pub trace_of : MemView → List Seen
trace_of v = map (λ a. noted a 0 (heap_of v a)) v.reads.items

-- no place of the node is vacant
abbrev pub IsFull : MemView → ℕ → Type 0
IsFull v node = (a : Addr) → IsPlace v.nodes node a → IsVacant v.over v.heap a → ⊥

-- the vacant place of the lowest number
abbrev pub IsFirstVacant : MemView → ℕ → Addr → Type 0
IsFirstVacant v node a = (number : ℕ) ×
    (a ≡ place_at v.nodes node number) × IsVacant v.over v.heap a × IsTakenBelow v.over v.heap v.nodes node number

-- an alloc answers the first vacant place, and Spent exactly where there is none
abbrev pub AllocGives : MemView → ℕ → Result Addr ViewFault → MemView → Type 0
AllocGives v node (Ok a) new = IsFirstVacant v node a
AllocGives v node (Err fault.Memory) new = IsFull v node → ⊥
AllocGives v node (Err (fault.Spent n)) new = IsFull v node
