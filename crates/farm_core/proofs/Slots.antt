-- The slot of an actor, and the events of its transactions.
use Rattle.std.proofs.Common.{◌≡◌, ◌≢◌, ℕ, true, false, List, Option, Some, None, Result, Ok, Err, sym, refl, ap, ◌∙◌, subst, inr, ⊎_elim}
use Rattle.farm_core.proofs.Words.{Memory, Addr, TxnId, Node, Event, Answer, Active, Slot, State, HoldsLockAt, Meets, Reached, StandsOpen, in_list, At, AtClock}
use Rattle.farm_core.proofs.Words.{Aside, Stepped, IsOf, OpenStands, SlotAt}
use Rattle.farm_core.specs.declared.event.Event.TheVariants as event
use Rattle.farm_core.specs.declared.event.Answer.TheVariants as answer
use Rattle.farm_core.proofs.Good.{Good}
use Rattle.farm_core.proofs.Changes.{good}

pub aside_self : (t : TxnId) (s : State) → Aside t s s
aside_self t s = record { nodes = refl; begins = refl; loading = refl; others = λ u other. refl; held = λ u a other held. held }

meets_open : (s : State) (t : TxnId) (e : Event) → IsOf t e → Meets s e → (s.transactions t).is_open ≡ true
meets_open s t (event.Read u a) own meets = ap (λ (v : TxnId). (s.transactions v).is_open) (sym own) ∙ meets.0.0
meets_open s t (event.Alloc u n bytes) own meets = ap (λ (v : TxnId). (s.transactions v).is_open) (sym own) ∙ meets.0
meets_open s t (event.Lock u a new) own meets = ap (λ (v : TxnId). (s.transactions v).is_open) (sym own) ∙ meets.0.0
meets_open s t (event.Draw u) own meets = ap (λ (v : TxnId). (s.transactions v).is_open) (sym own) ∙ meets.0.0
meets_open s t (event.Check u a) own meets = ap (λ (v : TxnId). (s.transactions v).is_open) (sym own) ∙ meets.0.0
meets_open s t (event.Put u a) own meets = ap (λ (v : TxnId). (s.transactions v).is_open) (sym own) ∙ ⊎_elim (λ z. z.0) (λ z. z.0) meets.0
meets_open s t (event.Unlock u a) own meets = ap (λ (v : TxnId). (s.transactions v).is_open) (sym own) ∙ ⊎_elim (λ z. z.0) (⊎_elim (λ z. z.0) (λ z. z.0)) meets.0
meets_open s t e own meets = absurd own

module _ (s : State) (r : Reached s) (t : TxnId) (slot : Slot) (nodes : List Node) (clock : ℕ) (at : SlotAt slot nodes clock t s) where
  g : Good s
  g = good s r

  -- the transaction of the slot
  pub t_is : (n : ℕ) → t.number ≡ n → t ≡ record { actor = t.actor; number = n }
  t_is n is = λ i. record { actor = t.actor; number = is i }

  pub slot_active : (x : Active) → slot.open ≡ Some x → slot.begins ≡ t.number → AtClock x nodes clock t s
  slot_active x is same =
      let now : OpenStands (Some x) t.actor s = subst (λ (o : Option Active). OpenStands o t.actor s) is at.slot_stands.current in
      let here : t ≡ record { actor = t.actor; number = s.begins t.actor } = t_is (s.begins t.actor) (sym same ∙ at.slot_stands.begins) in
      record {
        standing = subst (λ (u : TxnId). At x nodes u s) (sym here) (record { nodes_stand = at.nodes_stand; active = now.0; held = now.1 });
        clock_is = at.clock_is;
      }

  pub slot_back : (z : Active) (after : List Node) (later_clock : ℕ) (later : State) → slot.begins ≡ t.number → later.begins ≡ s.begins → AtClock z after later_clock t later
      → SlotAt (record slot { «open» = Some z }) after later_clock t later
  slot_back z after later_clock later same begins now =
      let is : slot.begins ≡ later.begins t.actor = at.slot_stands.begins ∙ ap (λ (b : ℕ → ℕ). b t.actor) (sym begins) in
      let here : t ≡ record { actor = t.actor; number = later.begins t.actor } = t_is (later.begins t.actor) (sym same ∙ is) in
      record {
        nodes_stand = now.standing.nodes_stand;
        clock_is = now.clock_is;
        slot_stands = record {
          begins = is;
          current = subst (λ (u : TxnId). StandsOpen z (later.transactions u) × ((a : Addr) → HoldsLockAt later u a → in_list a z.locked.items ≡ true)) here (now.standing.active, now.standing.held);
        };
      }

  pub slot_stepped : (e : Event) (z : Active) (after : List Node) (later_clock : ℕ) (result : Result Answer Memory) → slot.begins ≡ t.number
      → Stepped t s e result (AtClock z after later_clock t) → Stepped t s e result (SlotAt (record slot { «open» = Some z }) after later_clock t)
  slot_stepped e z after later_clock (Ok x) same stepped = (stepped.0, stepped.1, stepped.2, slot_back z after later_clock stepped.0 same stepped.2.begins stepped.3)
  slot_stepped e z after later_clock (Err m) same stepped = slot_back z after later_clock s same refl stepped

  pub not_open : (e : Event) → ((s.transactions t).is_open ≡ true → ⊥) → IsOf t e → Stepped t s e (Ok answer.No) (SlotAt slot nodes clock t)
  not_open e closed own = (s, inr (λ meets. closed (meets_open s t e own meets), (refl, refl)), aside_self t s, at)

  pub not_latest : slot.begins ≢ t.number → (s.transactions t).is_open ≡ true → ⊥
  not_latest differ is_open = differ (at.slot_stands.begins ∙ sym ((g.base.sane t).current is_open))

  pub none_open : slot.open ≡ None → (s.transactions t).is_open ≡ true → ⊥
  none_open is is_open =
      let now : OpenStands None t.actor s = subst (λ (o : Option Active). OpenStands o t.actor s) is at.slot_stands.current in
      let closed : (s.transactions t).is_open ≡ false = now t refl in
      cc
