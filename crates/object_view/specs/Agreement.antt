-- What was read and written through a view, and which heaps agree with it.
use Rattle.std.specs.Prelude.{◌≡◌, ℕ, Bool, true, false, List, Option, Some, None}
use Rattle.std.specs.List.{AllByRecursion}
use Rattle.std.specs.declared.cmp.Ordering.{Ordering}
use Rattle.std.specs.Ordering.{nat_cmp, ordering_then, is_eq}
use Rattle.a1_base.specs.declared.place.Addr.{Addr}
use Rattle.object_view.specs.declared.view.Object.{Object}

-- what one read found: bytes, or that no object was there
pub record Seen : Type 0 where
  pub at : Addr
  pub stamp : ℕ
  pub bytes : Option (List ℕ)

-- what was written at an address: bytes, or that the object was freed; and whether this view made the object
pub record Write : Type 0 where
  pub made : Bool
  pub bytes : Option (List ℕ)

-- at each address an object or nothing
abbrev pub Heap : Type 0
Heap = Addr → Option Object

-- at each address what was written, if anything was
abbrev pub Overlay : Type 0
Overlay = Addr → Option Write

-- at each address bytes or nothing
abbrev pub State : Type 0
State = Addr → Option (List ℕ)

-- by region, then by offset
abbrev pub addr_order : Addr → Addr → Ordering
addr_order a b = ordering_then (nat_cmp a.region b.region) (nat_cmp a.offset b.offset)

abbrev pub same_addr : Addr → Addr → Bool
same_addr a b = is_eq (addr_order a b)

-- the object of these bytes at this stamp
abbrev pub object_of : ℕ → Option (List ℕ) → Option Object
object_of stamp None = None
object_of stamp (Some b) = Some (record { stamp = stamp; bytes = b })

abbrev pub bytes_of : Option Object → Option (List ℕ)
bytes_of None = None
bytes_of (Some o) = Some o.bytes

-- the heap has there what was read
abbrev pub IsSeenIn : Heap → Seen → Type 0
IsSeenIn h s = h s.at ≡ object_of s.stamp s.bytes

abbrev pub is_made : Option Write → Bool
is_made None = false
is_made (Some w) = w.made

-- the heap has at each address of the trace what was read there, and nothing where the view made an object
pub record Agrees (h : Heap) (trace : List Seen) (over : Overlay) : Type 0 where
  pub seen : AllByRecursion (IsSeenIn h) trace
  pub room : (a : Addr) → is_made (over a) ≡ true → h a ≡ None

abbrev pub covered : Option Write → Option Object → Option Object
covered None here = here
covered (Some w) here = object_of 0 w.bytes

-- the view: the heap with the overlay upon it
abbrev pub upon : Heap → Overlay → Heap
upon h over a = covered (over a) (h a)

-- its bytes alone
abbrev pub stood : Heap → Overlay → State
stood h over a = bytes_of (upon h over a)
