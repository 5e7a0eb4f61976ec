-- The heap under a view over memory agrees with it.
use Rattle.std.proofs.Common.{◌≡◌, ℕ, List, [], ◌∷◌, Option, Some, None, refl, sym, ◌∙◌, map}
use Rattle.std.specs.BTreeMap.{get}
use Rattle.std.specs.List.{AllByRecursion}
use Rattle.std.specs.Prelude.{IsSome}
use Rattle.a1_base.specs.declared.place.Addr.{Addr}
use Rattle.object_view.specs.declared.view.Object.{Object}
use Rattle.object_view.specs.declared.mem_view.MemView.{MemView}
use Rattle.object_view.specs.Agreement.{Heap, addr_order, Write, IsSeenIn, Agrees, object_of, bytes_of, covered, stood}
use Rattle.object_view.specs.Calls.{noted, StandsIn, IsObject}
use Rattle.object_view.specs.Slots.{IsStored, bytes_written}
use Rattle.object_view.specs.Held.{overlay_in, trace_of, heap_of}

noted_there : (h : Heap) (a : Addr) (found : Option Object) → h a ≡ found → IsSeenIn h (noted a 0 found)
noted_there h a None e = e
noted_there h a (Some o) e = e

reads_seen : (h : Heap) (reads : List Addr) → AllByRecursion (IsSeenIn h) (map (λ a. noted a 0 (h a)) reads)
reads_seen h [] = tt
reads_seen h (a ∷ rest) = (noted_there h a (h a) refl, reads_seen h rest)

pub own_agrees : (v : MemView) → Agrees (heap_of v) (trace_of v) (overlay_in v)
own_agrees v = record { seen = reads_seen (heap_of v) v.reads.items; room = v.room }

pub bytes_back : (stamp : ℕ) (o : Option (List ℕ)) → bytes_of (object_of stamp o) ≡ o
bytes_back stamp None = refl
bytes_back stamp (Some b) = refl

stored_there : (P : List ℕ → Type 0) (w : Option Write) (o : Option (List ℕ)) → ((b : List ℕ) → o ≡ Some b → P b)
    → ((b : List ℕ) → bytes_written w ≡ Some b → P b) → (b : List ℕ)
    → bytes_of (covered w (object_of 1 o)) ≡ Some b → P b
stored_there P None o below above b e = below b (sym (bytes_back 1 o) ∙ e)
stored_there P (Some w) o below above b e = above b (sym (bytes_back 0 w.bytes) ∙ e)

-- what stands in the view has a place and the size of an object
pub stood_stored : (v : MemView) (a : Addr) (b : List ℕ) → stood (heap_of v) (overlay_in v) a ≡ Some b
    → IsStored v.nodes a b
stood_stored v a = stored_there (IsStored v.nodes a) (overlay_in v a) (get addr_order v.heap a) (v.stored a)
    (v.written a)

some_is : (o : Option (List ℕ)) → IsSome o → (b : List ℕ) × (o ≡ Some b)
some_is None h = absurd cc
some_is (Some b) h = (b, refl)

pub stands_stored : (v : MemView) (a : Addr) (b : List ℕ) → StandsIn (trace_of v) (overlay_in v) a → IsObject b
    → IsStored v.nodes a b
stands_stored v a b stands object =
    let there = some_is (stood (heap_of v) (overlay_in v) a) (stands (heap_of v) (own_agrees v)) in
    let here : IsStored v.nodes a there.0 = stood_stored v a there.0 there.1 in
    (here.0, here.1, object.some, object.few)
