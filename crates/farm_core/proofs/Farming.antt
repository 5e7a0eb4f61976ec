-- What the farm stands for after a step.
use Rattle.std.proofs.Common.{is_some, ◌≡◌, ◌≢◌, ℕ, ◌+◌, ◌<◌, ◌≤◌, true, false, List, [], ◌∷◌, ◌++◌, length, get_or, get_or-set_other, get_or-set_same, Option, Some, None, Result, Ok, Err, sym, refl, ap, ◌∙◌, subst, ⊎_elim, arith}
use Rattle.std.proofs.Math.ListN.{set, length-set}
use Rattle.std.proofs.lemmas.Bool.{cases_eq}
use Rattle.farm_core.proofs.Words.{IsStamp, same_txn, ACTOR_LIMIT, Memory, Addr, TxnId, Node, Entry, NodeState, Adds, after, Event, Answer, Active, Slot}
use Rattle.farm_core.proofs.Words.{Farm, Transaction, State, adding_to_all, HoldsLockAt, Steps, IsActor, InRange, Runs, fresh, Reached, plains}
use Rattle.farm_core.proofs.Words.{NodesStand, StandsOpen, in_list, Aside, Stepped, IsOf, OpenStands, SlotStands, SlotAt, Stands, StepsTo}
use Rattle.farm_core.specs.declared.event.Event.TheVariants as event
use Rattle.farm_core.proofs.Good.{Good, all_grown, another}
use Rattle.farm_core.proofs.Events.{all_grown_node}
use Rattle.farm_core.proofs.Slots.{aside_self}
use Rattle.farm_core.proofs.Changes.{Takes, good, held_grown}

-- one event more

pub runs_more : (events : List Event) (start : State) (answers : List Answer) (s : State) (e : Event) (x : Answer) (later : State) → Runs start events answers s → InRange s.nodes e → Steps s e x later
    → Runs start (events ++ e ∷ []) (answers ++ x ∷ []) later
runs_more [] start [] s e x later runs range steps =
    subst (λ (z : State). InRange z.nodes e → Steps z e x later → Runs start (e ∷ []) (x ∷ []) later) (sym runs) (λ r st. (r, (later, st, refl))) range steps
runs_more (f ∷ fs) start (y ∷ ys) s e x later runs range steps =
    let next = runs.1 in
    (runs.0, (next.0, next.1, runs_more fs next.0 ys s e x later next.2 range steps))
runs_more events start answers s e x later runs range steps = absurd runs

pub reached_more : (s : State) (e : Event) (x : Answer) (later : State) → Reached s → InRange s.nodes e → Steps s e x later → later.nodes ≡ s.nodes → Reached later
reached_more s e x later r range steps same =
    subst (λ (n : ℕ). (0 < n) × (n ≤ 16) × ((events : List Event) × (answers : List Answer) × Runs (fresh n) events answers later)) (sym same)
    (r.0, r.1, (r.2.0 ++ e ∷ [], r.2.1 ++ x ∷ [], runs_more r.2.0 (fresh s.nodes) r.2.1 s e x later r.2.2 range steps))

-- a slot that an event leaves alone

pub slot_kept : (slot : Slot) (k : ℕ) (s later : State) → later.begins k ≡ s.begins k → ((u : TxnId) → u.actor ≡ k → later.transactions u ≡ s.transactions u)
    → ((u : TxnId) (a : Addr) → u.actor ≡ k → HoldsLockAt later u a → HoldsLockAt s u a) → SlotStands slot k s → SlotStands slot k later
slot_kept slot k s later begins others held stands = record { begins = stands.begins ∙ sym begins; current = by slot.open stands.current } where
  by : (o : Option Active) → OpenStands o k s → OpenStands o k later
  by None none = λ u is. ap (λ (x : Transaction). x.is_open) (others u is) ∙ none u is
  by (Some x) now =
      let t : TxnId = record { actor = k; number = s.begins k } in
      let moved : StandsOpen x (later.transactions t) × ((a : Addr) → HoldsLockAt later t a → in_list a x.locked.items ≡ true) =
      (subst (StandsOpen x) (sym (others t refl)) now.0, λ a has. now.1 a (held t a refl has)) in
      subst (λ (n : ℕ). let u : TxnId = record { actor = k; number = n } in StandsOpen x (later.transactions u) × ((a : Addr) → HoldsLockAt later u a → in_list a x.locked.items ≡ true)) (sym begins) moved

-- an event of a transaction

pub actor_of : (nodes : ℕ) (t : TxnId) (e : Event) → IsOf t e → InRange nodes e → IsActor t
actor_of nodes t (event.Read u a) own range = subst IsActor own range.0
actor_of nodes t (event.Alloc u n bytes) own range = subst IsActor own range.0
actor_of nodes t (event.Lock u a new) own range = subst IsActor own range.0
actor_of nodes t (event.Draw u) own range = subst IsActor own range
actor_of nodes t (event.Check u a) own range = subst IsActor own range.0
actor_of nodes t (event.Put u a) own range = subst IsActor own range.0
actor_of nodes t (event.Unlock u a) own range = subst IsActor own range.0
actor_of nodes t e own range = absurd own

pub none_of : {A : Type 0} (o : Option A) → is_some o ≡ false → o ≡ None
none_of None is = refl
none_of (Some x) is = absurd (cc)

pub clock_low : (farm : Farm) (s : State) → Stands farm s → IsStamp farm.clock
clock_low farm s st = subst IsStamp (sym st.clock_is) (good s st.reached).base.clock.1

-- the farm after an event that leaves the slots
pub stands_kept : (farm : Farm) (s : State) (st : Stands farm s) (after : Farm) (later : State) → Reached later → after.clock ≡ later.clock → after.loading ≡ later.loading
    → NodesStand after.nodes.items later.nodes later.logs → after.slots.items ≡ farm.slots.items → later.begins ≡ s.begins → later.transactions ≡ s.transactions
    → ((u : TxnId) (a : Addr) → HoldsLockAt later u a → HoldsLockAt s u a) → Stands after later
stands_kept farm s st after later r clock_is loading_is nodes slots_are begins same held = record {
  reached = r;
  clock_is = clock_is;
  loading_is = loading_is;
  nodes_stand = nodes;
  count = ap length slots_are ∙ st.count;
  slots_stand = λ k d low high. slot_kept (get_or after.slots.items k d) k s later (ap (λ (b : ℕ → ℕ). b k) begins) (λ u is. ap (λ (all : TxnId → Transaction). all u) same) (λ u a is. held u a)
      (subst (λ (all : List Slot). SlotStands (get_or all k d) k s) (sym slots_are) (st.slots_stand k d low high));
}

module _ (farm : Farm) (s : State) (st : Stands farm s) (t : TxnId) (actor : IsActor t) where
  pub slot_of : (slot : Slot) → slot ≡ get_or farm.slots.items t.actor slot → SlotStands slot t.actor s
  slot_of slot is = subst (λ (z : Slot). SlotStands z t.actor s) (sym is) (st.slots_stand t.actor slot actor.0 actor.1)

  pub slot_at : (slot : Slot) (nodes : List Node) → slot ≡ get_or farm.slots.items t.actor slot → nodes ≡ farm.nodes.items → SlotAt slot nodes farm.clock t s
  slot_at slot nodes is same = record {
    nodes_stand = subst (λ (ns : List Node). NodesStand ns s.nodes s.logs) (sym same) st.nodes_stand;
    clock_is = st.clock_is;
    slot_stands = slot_of slot is;
  }

  -- the farm after an event of this transaction
  pub stands_set : (after : Farm) (later : State) (slot : Slot) → Reached later → after.clock ≡ later.clock → after.loading ≡ later.loading → NodesStand after.nodes.items later.nodes later.logs
      → after.slots.items ≡ set farm.slots.items t.actor slot → SlotStands slot t.actor later → ((k : ℕ) → t.actor ≢ k → later.begins k ≡ s.begins k)
      → ((u : TxnId) → same_txn t u ≡ false → later.transactions u ≡ s.transactions u) → ((u : TxnId) (a : Addr) → same_txn t u ≡ false → HoldsLockAt later u a → HoldsLockAt s u a) → Stands after later
  stands_set after later slot r clock_is loading_is nodes slots_are own begins others held = record {
    reached = r;
    clock_is = clock_is;
    loading_is = loading_is;
    nodes_stand = nodes;
    count = ap length slots_are ∙ (length-set farm.slots.items t.actor slot ∙ st.count);
    slots_stand = λ k d low high. subst (λ (all : List Slot). SlotStands (get_or all k d) k later) (sym slots_are) (⊎_elim
        (λ (same : t.actor ≡ k). subst (λ (j : ℕ). SlotStands (get_or (set farm.slots.items t.actor slot) j d) j later) same
        (subst (λ (z : Slot). SlotStands z t.actor later) (sym (get_or-set_same farm.slots.items t.actor slot d (let size : length farm.slots.items ≡ ACTOR_LIMIT + 1 = st.count in let high : t.actor ≤ ACTOR_LIMIT = actor.1 in omega arith))) own))
        (λ (differ : t.actor ≢ k). subst (λ (z : Slot). SlotStands z k later) (sym (get_or-set_other farm.slots.items t.actor k slot d (λ same. differ (sym same))))
        (slot_kept (get_or farm.slots.items k d) k s later (begins k differ) (λ u is. others u (another t u k differ is)) (λ u a is. held u a (another t u k differ is)) (st.slots_stand k d low high)))
        (cases_eq t.actor k));
  }

  pub farm_stepped : (e : Event) → InRange s.nodes e → (slot : Slot) (nodes : List Node) (clock : ℕ) (after : Farm) → after.nodes.items ≡ nodes → after.clock ≡ clock → after.loading ≡ farm.loading
      → after.slots.items ≡ set farm.slots.items t.actor slot → (result : Result Answer Memory) → Stepped t s e result (SlotAt slot nodes clock t) → StepsTo s e result (Stands after)
  farm_stepped e range slot nodes clock after nodes_are clock_is loading_is slots_are = by where
    stands : (later : State) → Reached later → Aside t s later → SlotAt slot nodes clock t later → Stands after later
    stands later r aside at = stands_set after later slot r (clock_is ∙ at.clock_is) (loading_is ∙ (st.loading_is ∙ sym aside.loading))
        (subst (λ (ns : List Node). NodesStand ns later.nodes later.logs) (sym nodes_are) at.nodes_stand) slots_are at.slot_stands (λ k differ. ap (λ (b : ℕ → ℕ). b k) aside.begins) aside.others aside.held

    by : (result : Result Answer Memory) → Stepped t s e result (SlotAt slot nodes clock t) → StepsTo s e result (Stands after)
    by (Ok x) stepped = (stepped.0, stepped.1, stands stepped.0 (reached_more s e x stepped.0 st.reached range stepped.1 stepped.2.nodes) stepped.2 stepped.3)
    by (Err m) stepped = stands s st.reached (aside_self t s) stepped

-- one entry behind each node's list

module _ (s : State) (g : Good s) (e : Entry) where
  pub each_added : (nodes later : List Node) → NodesStand nodes s.nodes s.logs → length later ≡ length nodes → ((n : ℕ) → n < s.nodes → Adds (plains nodes n) e (plains later n))
      → NodesStand later s.nodes (adding_to_all e s).logs
  each_added nodes later stand number adds = record {
    number = number ∙ stand.number;
    each = λ n less. (adds n less).state ∙ (ap (λ (p : NodeState). after p e) (stand.each n less) ∙ sym (all_grown_node s g n e less));
  }

  pub held_each : ((u : TxnId) (a : Addr) → Takes u a e → ⊥) → (u : TxnId) (a : Addr) → HoldsLockAt (adding_to_all e s) u a → HoldsLockAt s u a
  held_each none u a held = ⊎_elim (λ before. before) (λ takes. absurd (none u a takes)) (held_grown _ s e _ g (all_grown s e) u a held)
