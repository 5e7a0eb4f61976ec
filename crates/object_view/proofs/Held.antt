-- One more write in the overlay of a view over memory.
use Rattle.std.proofs.Common.{◌≡◌, inl, inr, ℕ, Bool, true, false, Option, Some, None, Result, Ok, Err, List, refl, ap, sym, subst, ◌∙◌, OnOk, OnErr, cond}
use Rattle.std.specs.BTreeMap.{BTreeMap, get, is_at, Updates, IsUnchanged}
use Rattle.std.specs.Map.{lookup}
use Rattle.a1_base.specs.declared.place.Addr.{Addr}
use Rattle.object_view.specs.declared.mem_view.Slot.{Slot}
use Rattle.object_view.specs.Agreement.{addr_order, same_addr, is_made}
use Rattle.object_view.specs.Calls.{written_at}
use Rattle.object_view.specs.Slots.{overlay_of, heap_in, write_of, bytes_written, place_at, IsStored, IsTakenBelow}
use Rattle.object_view.proofs.Addresses.{same_or}

write_cond : (b : Bool) (s : Slot) (o : Option Slot)
    → write_of (cond b (Some s) o) ≡ cond b (Some (record { made = s.made; bytes = s.bytes })) (write_of o)
write_cond true s o = refl
write_cond false s o = refl

pub overlay_put : (old new : BTreeMap Addr Slot) (at : Addr) (slot : Slot)
    → Updates addr_order old new at (Some slot) → overlay_of new ≡ written_at at slot.made slot.bytes (overlay_of old)
overlay_put old new at slot up = λ i b. (ap write_of (up.0 b)
    ∙ write_cond (same_addr at b) slot (get addr_order old b)) i

none_before : {A : Type 0} (b : Bool) (x : A) (o : Option A) → cond b (Some x) o ≡ None → o ≡ None
none_before true x o e = absurd cc
none_before false x o e = e

module _ {E : Type 0} (old new : BTreeMap Addr Slot) (heap : BTreeMap Addr (List ℕ)) (at : Addr) (slot : Slot) where
  pub room_put : (r : Result (Option Slot) E) → OnOk r (Updates addr_order old new at (Some slot))
      → OnErr r (IsUnchanged old new)
      → (slot.made ≡ true → heap_in heap at ≡ None)
      → ((a : Addr) → is_made (overlay_of old a) ≡ true → heap_in heap a ≡ None)
      → (a : Addr) → is_made (overlay_of new a) ≡ true → heap_in heap a ≡ None
  room_put (Ok x) up same here room a m =
      let cased = λ (t : Bool). write_of (cond t (Some slot) (get addr_order old a)) in
      elim (same_or at a) [
        | inl e ↦ subst (λ (x : Addr). heap_in heap x ≡ None) e.1 (here (ap (λ (t : Bool). is_made (cased t))
            (sym e.0) ∙ (ap (λ (o : Option Slot). is_made (write_of o)) (sym (up.0 a)) ∙ m)))
        | inr f ↦ room a (ap (λ (t : Bool). is_made (cased t)) (sym f)
            ∙ (ap (λ (o : Option Slot). is_made (write_of o)) (sym (up.0 a)) ∙ m))
      ]
  room_put (Err x) up same here room a m = room a (ap (λ es. is_made (write_of (lookup (is_at (addr_order a)) es)))
      (sym same) ∙ m)

  pub taken_put : (r : Result (Option Slot) E) → OnOk r (Updates addr_order old new at (Some slot))
      → OnErr r (IsUnchanged old new)
      → (nodes node number : ℕ) → IsTakenBelow old heap nodes node number → IsTakenBelow new heap nodes node number
  taken_put (Ok x) up same nodes node number below q low v =
      let a = place_at nodes node q in
      below q low (none_before (same_addr at a) slot (get addr_order old a) (sym (up.0 a) ∙ v.0), v.1)
  taken_put (Err x) up same nodes node number below q low v =
      below q low (ap (λ es. lookup (is_at (addr_order (place_at nodes node q))) es) (sym same) ∙ v.0, v.1)

  pub written_put : (r : Result (Option Slot) E) → OnOk r (Updates addr_order old new at (Some slot))
      → OnErr r (IsUnchanged old new)
      → (nodes : ℕ) → ((b : List ℕ) → slot.bytes ≡ Some b → IsStored nodes at b)
      → ((a : Addr) (b : List ℕ) → bytes_written (overlay_of old a) ≡ Some b → IsStored nodes a b)
      → (a : Addr) (b : List ℕ) → bytes_written (overlay_of new a) ≡ Some b → IsStored nodes a b
  written_put (Ok x) up same nodes here all a b e =
      let now = λ (o : Option Slot). bytes_written (write_of o) in
      let cased = λ (t : Bool). now (cond t (Some slot) (get addr_order old a)) in
      elim (same_or at a) [
        | inl s ↦ subst (λ (x : Addr). IsStored nodes x b) s.1 (here b (ap cased (sym s.0)
            ∙ (ap now (sym (up.0 a)) ∙ e)))
        | inr f ↦ all a b (ap cased (sym f) ∙ (ap now (sym (up.0 a)) ∙ e))
      ]
  written_put (Err x) up same nodes here all a b e = all a b (ap (λ es. bytes_written (write_of (lookup (is_at
      (addr_order a)) es))) (sym same) ∙ e)
