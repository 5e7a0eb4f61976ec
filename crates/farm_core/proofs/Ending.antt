-- The end of a transaction.
use Rattle.std.proofs.Common.{◌≡◌, ◌≢◌, ◌↔◌, ℕ, ◌-◌, ◌<◌, option_to_list, Bool, true, false, List, [], ◌∷◌, ◌++◌, length, get_or, Option, Some, None, Ok, IsTrue, sym, refl, ap, ◌∙◌, subst, inl, inr, ⊎_elim, arith}
use Rattle.std.proofs.Math.ListN.{set}
use Rattle.std.proofs.lemmas.Bool.{both_ways, cond_both, false_from_ne_true}
use Rattle.farm_core.proofs.Words.{Addr, TxnId, Node, Entry, same_txn, NodeState, Adds, Active, Slot, Farm, ended, State, adding_to_all, moving}
use Rattle.farm_core.proofs.Words.{HoldsLock, Meets, IsActor, read_set, Reached, plains, NodesStand, in_list, stage_of, At, AtClock, holds_at}
use Rattle.farm_core.proofs.Words.{OpenStands, SlotAt, Stands, StepsTo, AddsEach, Shuts}
use Rattle.farm_node.specs.declared.entry.Entry.TheVariants as entry
use Rattle.farm_node.proofs.Sound.{txn_self}
use Rattle.farm_core.specs.declared.event.Event.TheVariants as event
use Rattle.farm_core.specs.declared.event.Answer.TheVariants as answer
use Rattle.farm_core.proofs.Good.{Good, other_stays}
use Rattle.farm_core.proofs.Opens.{sole}
use Rattle.farm_core.proofs.Changes.{good}
use Rattle.farm_core.proofs.Actives.{in_front, front_or_last, open_like}
use Rattle.farm_core.proofs.Conditions.{holding_iff}
use Rattle.farm_core.proofs.Slots.{slot_active, slot_back, not_latest, none_open}
use Rattle.farm_core.proofs.Farming.{reached_more, slot_of, stands_set, each_added, held_each}

-- an address that is not held goes from the end

pub last_popped : (all shown rest : List Addr) (len : ℕ) (a : Addr) (taken : Option Addr) → shown ≡ all → length shown ≡ len → a ≡ get_or shown (length shown - 1) a → taken ≡ Some (get_or all (len - 1) a)
    → all ≡ rest ++ option_to_list taken → all ≡ rest ++ a ∷ []
last_popped all shown rest len a taken same count last is left =
    let one : taken ≡ Some a = is ∙ ap Some ((λ i. get_or (sym same i) (sym count i - 1) a) ∙ sym last) in
    left ∙ ap (λ (o : Option Addr). rest ++ option_to_list o) one

module _ (nodes : List Node) (t : TxnId) (first all rest : List Addr) (a : Addr) (is : all ≡ rest ++ a ∷ []) where
  pub fewer_left : ((b : Addr) → in_list b all ≡ true → in_list b first ≡ true) → (b : Addr) → in_list b rest ≡ true → in_list b first ≡ true
  fewer_left fewer b there = fewer b (ap (in_list b) is ∙ in_front b a rest there)

  pub held_left : holds_at nodes t a ≡ false → ((b : Addr) → holds_at nodes t b ≡ true → in_list b first ≡ true → in_list b all ≡ true)
      → (b : Addr) → holds_at nodes t b ≡ true → in_list b first ≡ true → in_list b rest ≡ true
  held_left free held b holds there = ⊎_elim
      (λ front. front)
      (λ last. absurd (both_ways (holds_at nodes t a) free (ap (holds_at nodes t) (sym last) ∙ holds)))
      (front_or_last b a rest (ap (in_list b) (sym is) ∙ held b holds there))

-- whether a lock is held

module _ (s : State) (r : Reached s) (t : TxnId) (x z : Active) (nodes : List Node) (at : At x nodes t s) where
  pub asked_still : (z.phase ≡ x.phase) × (z.read_stamp ≡ x.read_stamp) × (z.write_stamp ≡ x.write_stamp) → read_set z.reads ≡ read_set x.reads
      → ((a : Addr) → in_list a z.locked.items ≡ true → in_list a x.locked.items ≡ true)
      → ((a : Addr) → holds_at nodes t a ≡ true → in_list a x.locked.items ≡ true → in_list a z.locked.items ≡ true) → At z nodes t s
  asked_still like sets fewer held = record {
    nodes_stand = at.nodes_stand;
    active = open_like x (s.transactions t) at.active z _ (ap stage_of like.0 ∙ at.active.stage) (like.1, like.2) sets fewer;
    held = λ a has. held a ((holding_iff s r t x nodes at a).1 has) (at.held a has);
  }

  pub asked_is : (result : Bool) → ((a : Addr) → holds_at nodes t a ≡ true → in_list a x.locked.items ≡ true → in_list a z.locked.items ≡ true)
      → (IsTrue result → (a : Addr) × (holds_at nodes t a ≡ true)) → (result ≡ false → z.locked.items ≡ []) → IsTrue result ↔ HoldsLock s t
  asked_is result held some none = (λ is. let found = some is in (found.0, (holding_iff s r t x nodes at found.0).0 found.1), by result none) where
    by : (b : Bool) → (b ≡ false → z.locked.items ≡ []) → HoldsLock s t → IsTrue b
    by true none has = refl
    by false none has =
        let there : in_list has.0 z.locked.items ≡ true = held has.0 ((holding_iff s r t x nodes at has.0).1 has.1) (at.held has.0 has.1) in
        absurd (both_ways (in_list has.0 z.locked.items) (ap (in_list has.0) (none refl)) there)

-- the slot

module _ (slot : Slot) (nodes : List Node) (t : TxnId) where
  pub shut_other : slot.begins ≢ t.number → Shuts slot nodes t false slot
  shut_other differ s clock r at = (λ meets. not_latest s r t slot nodes clock at differ meets.0, at)

  pub shut_none : slot.open ≡ None → Shuts slot nodes t false slot
  shut_none is s clock r at = (λ meets. none_open s r t slot nodes clock at is meets.0, at)

  module _ (same : slot.begins ≡ t.number) (x z : Active) (is : slot.open ≡ Some x) (result : Bool) (asks : (s : State) → Reached s → At x nodes t s → (IsTrue result ↔ HoldsLock s t) × At z nodes t s) where
    pub shut_held : result ≡ true → Shuts slot nodes t false (record slot { «open» = Some z })
    shut_held holds s clock r at =
        let now : AtClock x nodes clock t s = slot_active s r t slot nodes clock at x is same in
        let told = asks s r now.standing in
        (λ meets. meets.1 (told.0.0 holds), slot_back s r t slot nodes clock at z nodes clock s same refl (record { standing = told.1; clock_is = now.clock_is }))

    pub shut_free : result ≡ false → (later : Slot) → later.begins ≡ slot.begins → later.open ≡ None → Shuts slot nodes t true later
    shut_free free later begins none = (
      λ s clock r at. (
          let now : AtClock x nodes clock t s = slot_active s r t slot nodes clock at x is same in
          let told = asks s r now.standing in
          (now.standing.active.is_open, λ holds. both_ways result free (told.0.1 holds))
          ),
      begins,
      none,
    )

-- the farm

module _ (farm : Farm) (s : State) (st : Stands farm s) (t : TxnId) (actor : IsActor t) where
  g : Good s
  g = good s st.reached

  -- an event that lacks its condition, which may leave the slot another way
  pub shut_no : (slot : Slot) (nodes : List Node) (after : Farm) → (Meets s (event.Shut t) → ⊥) × SlotAt slot nodes farm.clock t s → after.nodes.items ≡ farm.nodes.items → after.clock ≡ farm.clock → after.loading ≡ farm.loading
      → after.slots.items ≡ set farm.slots.items t.actor slot → StepsTo s (event.Shut t) (Ok answer.No) (Stands after)
  shut_no slot nodes after lacks nodes_are clock_is loading_is slots_are = (
    s,
    inr (lacks.0, (refl, refl)),
    stands_set farm s st t actor after s slot st.reached (clock_is ∙ st.clock_is) (loading_is ∙ st.loading_is) (subst (λ (ns : List Node). NodesStand ns s.nodes s.logs) (sym nodes_are) st.nodes_stand)
        slots_are lacks.1.slot_stands (λ k differ. refl) (λ u other. refl) (λ u a other held. held),
  )

  module _ (meets : Meets s (event.Shut t)) where
    pub shut_pins : (nodes : List Node) → nodes ≡ farm.nodes.items → (n : ℕ) → n < length nodes → (x : ℕ) × ((plains nodes n).pins t.actor ≡ Some x)
    shut_pins nodes same n low =
        let number : length nodes ≡ s.nodes = ap length same ∙ st.nodes_stand.number in
        let less : n < s.nodes = omega arith in
        ((s.transactions t).read_stamp, ap (λ (ns : List Node). (plains ns n).pins t.actor) same ∙ (ap (λ (p : NodeState). p.pins t.actor) (st.nodes_stand.each n less) ∙ g.pins.open_at t n less meets.0))

    abbrev new_entry : Entry
    new_entry = entry.Shut t.actor

    abbrev shut : State
    shut = moving t ended (adding_to_all (entry.Shut t.actor) s)

    none_left : (u : TxnId) → u.actor ≡ t.actor → (shut.transactions u).is_open ≡ false
    none_left u same = cond_both (same_txn t u) (ended (s.transactions t)) (s.transactions u) (λ x. x.is_open ≡ false) (λ is. refl)
        (λ is. false_from_ne_true _ (λ now. both_ways (same_txn t u) is (ap (same_txn t) (sym (sole s g t u meets.0 now (sym same))) ∙ txn_self t)))

    pub shut_stands : (slot : Slot) (later : Slot) (nodes after_nodes : List Node) (after : Farm) → slot ≡ get_or farm.slots.items t.actor slot → later.begins ≡ slot.begins → later.open ≡ None
        → nodes ≡ farm.nodes.items → length after_nodes ≡ length nodes → AddsEach (λ p. entry.Shut t.actor) nodes after_nodes
        → after.nodes.items ≡ after_nodes → after.clock ≡ farm.clock → after.loading ≡ farm.loading → after.slots.items ≡ set farm.slots.items t.actor later
        → StepsTo s (event.Shut t) (Ok answer.Shut) (Stands after)
    shut_stands slot later nodes after_nodes after there begins none same number adds nodes_are clock_is loading_is slots_are = (
      shut,
      inl (meets, (refl, refl)),
      stands_set farm s st t actor after shut later (reached_more s (event.Shut t) answer.Shut shut st.reached actor (inl (meets, (refl, refl))) refl) (clock_is ∙ st.clock_is) (loading_is ∙ st.loading_is)
          (subst (λ (ns : List Node). NodesStand ns shut.nodes shut.logs) (sym nodes_are)
          (each_added s g new_entry farm.nodes.items after_nodes st.nodes_stand (number ∙ ap length same)
          (λ n less. let count : length nodes ≡ s.nodes = ap length same ∙ st.nodes_stand.number in
          subst (λ (ns : List Node). Adds (plains ns n) new_entry (plains after_nodes n)) same (adds n (omega arith)))))
          slots_are
          (record { begins = begins ∙ (slot_of farm s st t actor slot there).begins; current = subst (λ (o : Option Active). OpenStands o t.actor shut) (sym none) none_left })
          (λ k differ. refl)
          (λ u. other_stays t u (ended (s.transactions t)) s.transactions)
          (λ u a other. held_each s g new_entry (λ v b takes. takes) u a),
    )

-- where a shut leads
pub ruleset shuts = (shut_other, shut_held, shut_none, shut_free)
