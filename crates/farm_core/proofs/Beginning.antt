-- A begin.
use Rattle.std.proofs.Common.{◌≡◌, ℕ, ◌+◌, ◌<◌, ◌≤◌, max, eqb, true, false, not, is_some, List, length, get_or, Option, Some, None, Ok, sym, refl, ap, ◌∙◌, subst, inl, inr, arith}
use Rattle.std.proofs.Math.ListN.{set}
use Rattle.std.proofs.lemmas.Bool.{not-true, and_parts, and_from, both_ways, cond-true, cond-false, eqb-true, eq-eqb, ne_eqb}
use Rattle.farm_core.proofs.Words.{ACTOR_LIMIT, Addr, TxnId, Hold, Node, Entry, Cell, NodeState, Adds, story, Active, Slot, Farm, begun_at, State}
use Rattle.farm_core.proofs.Words.{home, node_at, adding_to_all, moving, counting_begin, loading_over, HoldsLockAt, Meets, IsActor, plains, NodesStand}
use Rattle.farm_core.proofs.Words.{StandsOpen, in_list, OpenStands, SlotStands, Stands, StepsTo, AddsEach, may_begin}
use Rattle.farm_node.specs.declared.entry.Entry.TheVariants as entry
use Rattle.farm_core.specs.declared.event.Event.TheVariants as event
use Rattle.farm_core.specs.declared.event.Answer.TheVariants as answer
use Rattle.farm_node.proofs.Decided.{HasLock}
use Rattle.farm_core.proofs.Held.{HoldingCell}
use Rattle.farm_core.proofs.Good.{Good, NoneOpen, self_moved, other_stays}
use Rattle.farm_core.proofs.Changes.{good}
use Rattle.farm_core.proofs.Farming.{none_of, reached_more, slot_of, stands_set, each_added, held_each}

module _ (farm : Farm) (s : State) (st : Stands farm s) (t : TxnId) (actor : IsActor t) where
  g : Good s
  g = good s st.reached

  module _ (slot : Slot) (there : slot ≡ get_or farm.slots.items t.actor slot) where
    slot_is : SlotStands slot t.actor s
    slot_is = slot_of farm s st t actor slot there

    pub begin_meets : may_begin slot t.number ≡ true → Meets s (event.Begin t)
    begin_meets may =
        let z = and_parts (not (is_some slot.open)) (eqb (slot.begins + 1) t.number) may in (
          subst (λ (o : Option Active). OpenStands o t.actor s) (none_of slot.open (not-true _ z.0)) slot_is.current,
          sym (eqb-true (slot.begins + 1) t.number z.1) ∙ ap (λ (n : ℕ). n + 1) slot_is.begins,
        )

    meets_begin : Meets s (event.Begin t) → may_begin slot t.number ≡ true
    meets_begin meets = and_from (not (is_some slot.open)) (eqb (slot.begins + 1) t.number) (by slot.open slot_is.current)
        (eq-eqb (slot.begins + 1) t.number (ap (λ (n : ℕ). n + 1) slot_is.begins ∙ sym meets.1)) where
          by : (o : Option Active) → OpenStands o t.actor s → not (is_some o) ≡ true
          by None none = refl
          by (Some x) now = let u : TxnId = record { actor = t.actor; number = s.begins t.actor } in
              let closed : (s.transactions u).is_open ≡ false = meets.0 u refl in
              let is_open : (s.transactions u).is_open ≡ true = now.0.is_open in
              absurd (both_ways (s.transactions u).is_open closed is_open)

    pub begin_no : may_begin slot t.number ≡ false → StepsTo s (event.Begin t) (Ok answer.No) (Stands farm)
    begin_no may = (s, inr (λ meets. both_ways (may_begin slot t.number) may (meets_begin meets), (refl, refl)), st)

  -- each node can be pinned at the clock

  pub begin_free : NoneOpen s t.actor → (nodes : List Node) → nodes ≡ farm.nodes.items → (n : ℕ) → n < length nodes → (t.actor ≤ (plains nodes n).actors) × ((plains nodes n).pins t.actor ≡ None)
  begin_free none nodes same n low =
      let number : length nodes ≡ s.nodes = ap length same ∙ st.nodes_stand.number in
      let less : n < s.nodes = omega arith in
      let is : plains nodes n ≡ node_at s n = ap (λ (ns : List Node). plains ns n) same ∙ st.nodes_stand.each n less in
      let actors : (node_at s n).actors ≡ ACTOR_LIMIT = (g.base.lists n less).actors in
      let high : t.actor ≤ ACTOR_LIMIT = actor.1 in
      (subst (λ (p : NodeState). t.actor ≤ p.actors) (sym is) (omega arith), ap (λ (p : NodeState). p.pins t.actor) is ∙ g.pins.none_at t.actor n less none)

  module _ (meets : Meets s (event.Begin t)) where
    abbrev new_entry : Entry
    new_entry = entry.Open t.actor s.clock s.clock

    abbrev begun : State
    begun = loading_over (moving t (λ x. begun_at s.clock) (counting_begin t.actor (adding_to_all (entry.Open t.actor s.clock s.clock) s)))

    adds_entry : (nodes later : List Node) → nodes ≡ farm.nodes.items → AddsEach (λ p. entry.Open t.actor farm.clock (max farm.clock p.floor)) nodes later → (n : ℕ) → n < s.nodes → Adds (plains farm.nodes.items n) new_entry (plains later n)
    adds_entry nodes later same adds n less =
        let number : length nodes ≡ s.nodes = ap length same ∙ st.nodes_stand.number in
        let is : plains nodes n ≡ node_at s n = ap (λ (ns : List Node). plains ns n) same ∙ st.nodes_stand.each n less in
        let floor : (node_at s n).floor ≤ s.clock = (g.base.lists n less).low.floor in
        let pin : max farm.clock (plains nodes n).floor ≡ s.clock = (λ i. max (st.clock_is i) (is i).floor) ∙ (let top : max s.clock (node_at s n).floor ≡ s.clock = omega arith in top) in
        subst (λ (z : List Node × ℕ × ℕ). Adds (plains z.0 n) (entry.Open t.actor z.1 z.2) (plains later n)) (λ i. (same i, st.clock_is i, pin i)) (adds n (omega arith))

    held_none : (u : TxnId) (a : Addr) → HoldsLockAt begun u a → HoldsLockAt s u a
    held_none u a held = held_each s g new_entry (λ v b takes. takes) u a held

    -- it holds nothing yet
    none_held : (a : Addr) → HoldsLockAt s t a → ⊥
    none_held a held =
        let holding : HoldingCell t (s.transactions t) (Some held.0) (story a (s.logs (home s a))) =
        subst (λ (c : Option Cell). HoldingCell t (s.transactions t) c (story a (s.logs (home s a)))) held.2 (g.base.held t actor.0 a).holding in
        let is_open : (s.transactions t).is_open ≡ true = (holding (subst (λ (l : Option Hold). HasLock t l) (sym held.3) held.4)).is_open in
        both_ways (s.transactions t).is_open (meets.0 t refl) is_open

    number_is : t.number ≡ begun.begins t.actor
    number_is = meets.1 ∙ sym (cond-true (eqb t.actor t.actor) _ _ (eq-eqb t.actor t.actor refl))

    own_slot : (x : Active) → StandsOpen x (begun_at s.clock) → SlotStands (record { begins = t.number; «open» = Some x }) t.actor begun
    own_slot x open_now = record {
      begins = number_is;
      current = subst (λ (u : TxnId). StandsOpen x (begun.transactions u) × ((a : Addr) → HoldsLockAt begun u a → in_list a x.locked.items ≡ true)) (λ i. record { actor = t.actor; number = number_is i })
          (subst (StandsOpen x) (sym (self_moved t (begun_at s.clock) s.transactions)) open_now, λ a held. absurd (none_held a (held_none t a held)));
    }

    pub begin_stands : (x : Active) (nodes later : List Node) (after : Farm) → StandsOpen x (begun_at farm.clock) → nodes ≡ farm.nodes.items → length later ≡ length nodes
        → AddsEach (λ p. entry.Open t.actor farm.clock (max farm.clock p.floor)) nodes later
        → after.nodes.items ≡ later → after.clock ≡ farm.clock → after.loading ≡ false → after.slots.items ≡ set farm.slots.items t.actor (record { begins = t.number; «open» = Some x })
        → StepsTo s (event.Begin t) (Ok (answer.At farm.clock)) (Stands after)
    begin_stands x nodes later after open_now same number adds nodes_are clock_is loading_is slots_are = (
      begun,
      inl (meets, (ap answer.At st.clock_is, refl)),
      stands_set farm s st t actor after begun _ (reached_more s (event.Begin t) (answer.At s.clock) begun st.reached actor (inl (meets, (refl, refl))) refl) (clock_is ∙ st.clock_is) loading_is
          (subst (λ (ns : List Node). NodesStand ns begun.nodes begun.logs) (sym nodes_are)
          (each_added s g new_entry farm.nodes.items later st.nodes_stand (number ∙ ap length same) (adds_entry nodes later same adds)))
          slots_are
          (own_slot x (subst (λ (n : ℕ). StandsOpen x (begun_at n)) st.clock_is open_now))
          (λ k differ. cond-false (eqb t.actor k) _ _ (ne_eqb t.actor k differ))
          (λ u. other_stays t u (begun_at s.clock) s.transactions)
          (λ u a other. held_none u a),
    )
