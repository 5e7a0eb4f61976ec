-- Objects in a list and in a map.
use Rattle.std.proofs.Common.{◌≡◌, ℕ, List, sym, subst, ◌∙◌, refl}
use Rattle.std.specs.Ordering.{eq_by_cmp}
use Rattle.std.specs.List.Sorted.{IsStrictlySortedBy}
use Rattle.std.specs.Map.{keys_of}
use Rattle.std.specs.BTreeMap.{BTreeMap, get, IsFromIterResult}
use Rattle.std.proofs.lemmas.Cmp.{eq_by_cmp_equiv}
use Rattle.std.proofs.lemmas.Map.Made.{update_all_none}
use Rattle.std.proofs.lemmas.Map.Keys.{IsDistinct-from_sorted}
use Rattle.a1_base.specs.declared.place.Addr.{Addr}
use Rattle.object_view.specs.declared.mem_view.MemView.{MemView}
use Rattle.object_view.specs.Agreement.{addr_order, stood}
use Rattle.object_view.specs.Slots.{IsObjectList, found_at}
use Rattle.object_view.specs.Held.{overlay_in, heap_of}
use Rattle.object_view.proofs.Addresses.{addr_total}
use Rattle.object_view.proofs.Agreed.{stood_stored}

pub mapped : (nodes : ℕ) (objects : List (Addr × List ℕ)) (m : BTreeMap Addr (List ℕ))
    → IsObjectList nodes objects → IsFromIterResult addr_order objects m
    → (a : Addr) → get addr_order m a ≡ found_at objects a
mapped nodes objects m list made a = made.0 a
    ∙ update_all_none (eq_by_cmp_equiv addr_total) (eq_by_cmp addr_order) (λ x y. refl) objects a list.distinct

pub listed : (v : MemView) (all : BTreeMap Addr (List ℕ)) (objects : List (Addr × List ℕ)) → objects ≡ all.entries
    → IsStrictlySortedBy addr_order (keys_of all.entries) → ((a : Addr)
    → get addr_order all a ≡ stood (heap_of v) (overlay_in v) a)
    → IsObjectList v.nodes objects
listed v all objects same sorted is = subst (IsObjectList v.nodes) (sym same) (record {
  distinct = IsDistinct-from_sorted addr_order (keys_of all.entries) sorted;
  stored = λ a bytes e. stood_stored v a bytes (sym (is a) ∙ e);
})
