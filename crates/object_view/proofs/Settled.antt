-- The overlay settled into the heap, write by write.
use Rattle.std.proofs.Common.{◌≡◌, inl, inr, ℕ, Bool, List, Option, Some, None, ap, sym, subst, ◌∙◌, cond}
use Rattle.std.specs.BTreeMap.{BTreeMap, get, Updates}
use Rattle.a1_base.specs.declared.place.Addr.{Addr}
use Rattle.object_view.specs.declared.mem_view.Slot.{Slot}
use Rattle.object_view.specs.Agreement.{addr_order, same_addr, stood, bytes_of, covered, object_of}
use Rattle.object_view.specs.Slots.{overlay_of, heap_in, write_of}
use Rattle.object_view.proofs.Addresses.{same_or}
use Rattle.object_view.proofs.Agreed.{bytes_back}

-- what stands where the maps have these
abbrev pub standing : Option Slot → Option (List ℕ) → Option (List ℕ)
standing s o = bytes_of (covered (write_of s) (object_of 1 o))

pub settled : (heap later : BTreeMap Addr (List ℕ)) (over rest : BTreeMap Addr Slot) (at : Addr) (slot : Slot)
    → Updates addr_order over rest at None → get addr_order over at ≡ Some slot
    → ((a : Addr) → get addr_order later a ≡ cond (same_addr at a) slot.bytes (get addr_order heap a))
    → (a : Addr) → stood (heap_in later) (overlay_of rest) a ≡ stood (heap_in heap) (overlay_of over) a
settled heap later over rest at slot up was is a =
    let step : standing (get addr_order rest a) (get addr_order later a) ≡ standing (cond (same_addr at a) None
    (get addr_order over a)) (cond (same_addr at a) slot.bytes (get addr_order heap a))
    = ap (λ (s : Option Slot). standing s (get addr_order later a)) (up.0 a)
    ∙ ap (standing (cond (same_addr at a) None (get addr_order over a))) (is a) in
    let cased = λ (t : Bool). standing (cond t None (get addr_order over a)) (cond t slot.bytes
    (get addr_order heap a)) in
    elim (same_or at a) [
      | inl s ↦
          let there : get addr_order over a ≡ Some slot = subst (λ
          (x : Addr). get addr_order over x ≡ Some slot) s.1 was in
          step ∙ ap cased s.0 ∙ bytes_back 1 slot.bytes ∙ sym (bytes_back 0 slot.bytes)
          ∙ ap (λ (o : Option Slot). standing o (get addr_order heap a)) (sym there)
      | inr f ↦ step ∙ ap cased f
    ]
