-- A slot seen as a write, and stored bytes seen as an object.
use Rattle.std.specs.Prelude.{◌≡◌, ℕ, ◌+◌, ◌*◌, ◌/◌, ◌%◌, ◌<◌, ◌≤◌, length, List, Option, Some, None}
use Rattle.std.specs.List.{IsDistinct}
use Rattle.std.specs.Map.{lookup, keys_of}
use Rattle.std.specs.BTreeMap.{get, BTreeMap}
use Rattle.a1_base.specs.declared.place.Addr.{Addr}
use Rattle.a1_base.specs.declared.limits.TheConstants.{REGION_WIDTH, REGION_LIMIT, OBJECT_LIMIT, OPENING_STAMP}
use Rattle.object_view.specs.declared.mem_view.Slot.{Slot}
use Rattle.object_view.specs.Agreement.{Heap, Overlay, State, Write, addr_order, same_addr, object_of}

abbrev pub write_of : Option Slot → Option Write
write_of None = None
write_of (Some s) = Some (record { made = s.made; bytes = s.bytes })

abbrev pub overlay_of : BTreeMap Addr Slot → Overlay
overlay_of over a = write_of (get addr_order over a)

-- each object at the opening stamp
abbrev pub heap_in : BTreeMap Addr (List ℕ) → Heap
heap_in heap a = object_of OPENING_STAMP (get addr_order heap a)

-- nothing stands there, and nothing was freed there
abbrev pub IsVacant : BTreeMap Addr Slot → BTreeMap Addr (List ℕ) → Addr → Type 0
IsVacant over heap a = (get addr_order over a ≡ None) × (get addr_order heap a ≡ None)

-- the places of a node, numbered
abbrev pub place_at : ℕ → ℕ → ℕ → Addr
place_at nodes node number = record { region = node + nodes * (number / REGION_WIDTH); offset = number % REGION_WIDTH }

-- each place of the node below this number has an object, or had one that was freed
abbrev pub IsTakenBelow : BTreeMap Addr Slot → BTreeMap Addr (List ℕ) → ℕ → ℕ → ℕ → Type 0
IsTakenBelow over heap nodes node number = (q : ℕ) → q < number → IsVacant over heap (place_at nodes node q) → ⊥

-- the object that a list of objects has at an address
abbrev pub found_at : List (Addr × List ℕ) → State
found_at objects a = lookup (same_addr a) objects

-- an address of some node, and as many bytes as an object may have
abbrev pub IsStored : ℕ → Addr → List ℕ → Type 0
IsStored nodes a bytes = (a.region < REGION_LIMIT * nodes) × (a.offset < REGION_WIDTH) × (1 ≤ length bytes) ×
    (length bytes ≤ OBJECT_LIMIT)

-- objects at distinct addresses, each at a place of some node
pub record IsObjectList (nodes : ℕ) (objects : List (Addr × List ℕ)) : Type 0 where
  pub distinct : IsDistinct same_addr (keys_of objects)
  pub stored : (a : Addr) (bytes : List ℕ) → found_at objects a ≡ Some bytes → IsStored nodes a bytes

abbrev pub bytes_written : Option Write → Option (List ℕ)
bytes_written None = None
bytes_written (Some w) = w.bytes
