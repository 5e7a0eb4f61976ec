-- A begin and a shut keep a state good.
use Rattle.std.proofs.Common.{◌≡◌, ℕ, ◌+◌, ◌<◌, ◌≤◌, eqb, cond, true, false, Some, None, sym, refl, ap, ◌∙◌, subst, arith}
use Rattle.std.proofs.lemmas.Bool.{both_ways, cond-true, cond-false, cond_both, eq-eqb, eqb-true, eqb-false, ne_eqb}
use Rattle.farm_core.proofs.Words.{ACTOR_LIMIT, TxnId, Entry, same_txn, NodeState, Fits, Transaction, unbegun, begun_at, ended, State, home, node_at}
use Rattle.farm_core.proofs.Words.{adding_to_all, set_transaction, moving, counting_begin, loading_over, HoldsLock}
use Rattle.farm_node.specs.declared.entry.Entry.TheVariants as entry
use Rattle.farm_node.proofs.Sound.{txn_self}
use Rattle.farm_core.proofs.Held.{Holds, holds_held, held_begun, held_ended}
use Rattle.farm_core.proofs.Good.{Sane, Base, NoneOpen, Pinned, Good, base_adding_to_all, base_moving, base_counting, base_loading_over, moved, self_moved, other_stays, another}
use Rattle.farm_core.proofs.Phases.{sane_next, sane_begun, is_unbegun, started, open_stage}
use Rattle.farm_core.proofs.Events.{less_home, all_grown_node}

-- an actor has one transaction open
pub sole : (s : State) (g : Good s) (t u : TxnId) → (s.transactions t).is_open ≡ true → (s.transactions u).is_open ≡ true → t.actor ≡ u.actor → t ≡ u
sole s g t u is_open also same =
    let number : t.number ≡ u.number = (g.base.sane t).current is_open ∙ (ap s.begins same ∙ sym ((g.base.sane u).current also)) in
    λ i. record { actor = same i; number = number i }

module _ (s : State) (g : Good s) where
  -- the change of a transaction opens none of another actor
  none_still : (t : TxnId) (x : Transaction) (k : ℕ) → eqb t.actor k ≡ false → ((u : TxnId) → u.actor ≡ k → (set_transaction t x s.transactions u).is_open ≡ false) → NoneOpen s k
  none_still t x k is closed u actor = sym (ap (λ (y : Transaction). y.is_open) (other_stays t u x s.transactions (another t u k (eqb-false t.actor k is) actor))) ∙ closed u actor

  -- begin

  module _ (t : TxnId) (actor : 0 < t.actor) (few : t.actor ≤ ACTOR_LIMIT) (none : NoneOpen s t.actor) (next_number : t.number ≡ s.begins t.actor + 1) where
    abbrev open_entry : Entry
    open_entry = entry.Open t.actor s.clock s.clock

    abbrev opened : State
    opened = counting_begin t.actor (adding_to_all (entry.Open t.actor s.clock s.clock) (loading_over s))

    abbrev begun : State
    begun = moving t (λ x. begun_at s.clock) opened

    open_fits : (n : ℕ) → n < s.nodes → Fits (node_at s n) open_entry
    open_fits n less =
        let l = g.base.lists n less in
        let actors : (node_at s n).actors ≡ ACTOR_LIMIT = l.actors in
        let floor : (node_at s n).floor ≤ s.clock = l.low.floor in
        (actor, omega arith, g.pins.none_at t.actor n less none, g.base.clock.1, omega arith)

    was_unbegun : s.transactions t ≡ unbegun
    was_unbegun =
        let y : Sane s.clock s.begins t (s.transactions t) = g.base.sane t in
        y.fresh (is_unbegun (s.transactions t).stage (λ begun. let old : t.number ≤ s.begins t.actor = (y.begun begun).2 in omega arith))

    base_opened : Base opened
    base_opened = base_counting (adding_to_all open_entry (loading_over s)) t.actor
        (base_adding_to_all (loading_over s) open_entry (base_loading_over s g.base) refl (λ u. tt) open_fits tt)
        none

    base_begun : Base begun
    base_begun = base_moving opened t (λ x. begun_at s.clock) base_opened refl
        (sane_begun s.clock opened.begins t g.base.clock.0 actor few (next_number ∙ sym (cond-true (eqb t.actor t.actor) _ _ (eq-eqb t.actor t.actor refl))))
        (λ a low. held_begun t (s.transactions t) a _ _ _ _ s.clock was_unbegun (base_opened.held t low a))
        (λ a same. absurd (cc))
        (λ u drawn is. absurd (omega arith))

    pin_is : (n : ℕ) → n < s.nodes → (k : ℕ) → (node_at begun n).pins k ≡ cond (eqb t.actor k) (Some s.clock) ((node_at s n).pins k)
    pin_is n less k = ap (λ (p : NodeState). p.pins k) (all_grown_node s g n open_entry less)

    pins_begun : Pinned begun
    pins_begun = record {
      open_at = λ u n less. moved (λ z x. x.is_open ≡ true → (node_at begun n).pins z.actor ≡ Some x.read_stamp) t u (begun_at s.clock) s.transactions
          (λ is_open. pin_is n less t.actor ∙ cond-true (eqb t.actor t.actor) _ _ (eq-eqb t.actor t.actor refl))
          (λ is_open. pin_is n less u.actor
          ∙ (cond-false (eqb t.actor u.actor) _ _ (ne_eqb t.actor u.actor (λ same. both_ways _ (none u (sym same)) is_open)) ∙ g.pins.open_at u n less is_open));
      none_at = λ k n less closed. pin_is n less k ∙ cond_both (eqb t.actor k) _ _ (λ pin. pin ≡ None)
          (λ is. absurd (both_ways _ (closed t (eqb-true t.actor k is)) (ap (λ (x : Transaction). x.is_open) (self_moved t (begun_at s.clock) s.transactions))))
          (λ is. g.pins.none_at k n less (none_still t (begun_at s.clock) k is closed));
    }

    pub good_begin : (next : State) → next ≡ loading_over (moving t (λ x. begun_at s.clock) (counting_begin t.actor (adding_to_all (entry.Open t.actor s.clock s.clock) s))) → Good next
    good_begin next is = subst Good (sym is) (record { base = base_begun; pins = pins_begun })

  -- shut

  module _ (t : TxnId) (is_open : (s.transactions t).is_open ≡ true) (free : HoldsLock s t → ⊥) where
    abbrev unpinned : State
    unpinned = adding_to_all (entry.Shut t.actor) s

    abbrev shut : State
    shut = moving t ended unpinned

    base_unpinned : Base unpinned
    base_unpinned = base_adding_to_all s (entry.Shut t.actor) g.base (started s g t is_open) (λ u. tt) (λ n less. ((s.transactions t).read_stamp, g.pins.open_at t n less is_open)) tt

    base_shut : Base shut
    base_shut = base_moving unpinned t ended base_unpinned (started s g t is_open)
        (sane_next s.clock s.begins t (s.transactions t) _ false _ _ _ _ (g.base.sane t) (open_stage s g t is_open) (open_stage s g t is_open) (λ none. absurd (cc)) (g.base.sane t).write
        (g.base.sane t).undrawn (g.base.sane t).drawn (g.base.sane t).all_same)
        (λ a low. held_ended t (s.transactions t) a _ _ _ _
        (λ has. free (a, holds_held (node_at s (home s a)) t a (subst (λ (p : NodeState). Holds t (p.cells a)) (all_grown_node s g (home s a) (entry.Shut t.actor) (less_home s g a)) has)))
        (base_unpinned.held t low a))
        (base_unpinned.same t)
        (base_unpinned.apart t)

    unpin_is : (n : ℕ) → n < s.nodes → (k : ℕ) → (node_at shut n).pins k ≡ cond (eqb t.actor k) None ((node_at s n).pins k)
    unpin_is n less k = ap (λ (p : NodeState). p.pins k) (all_grown_node s g n (entry.Shut t.actor) less)

    pins_shut : Pinned shut
    pins_shut = record {
      open_at = λ u n less. cond_both (same_txn t u) (ended (s.transactions t)) (s.transactions u) (λ x. x.is_open ≡ true → (node_at shut n).pins u.actor ≡ Some x.read_stamp)
          (λ is now. absurd (both_ways _ refl now))
          (λ is now. unpin_is n less u.actor
          ∙ (cond-false (eqb t.actor u.actor) _ _ (ne_eqb t.actor u.actor (λ same. both_ways _ is (ap (same_txn t) (sym (sole s g t u is_open now same)) ∙ txn_self t))) ∙ g.pins.open_at u n less now));
      none_at = λ k n less closed. unpin_is n less k ∙ cond_both (eqb t.actor k) _ _ (λ pin. pin ≡ None) (λ is. refl)
          (λ is. g.pins.none_at k n less (none_still t (ended (s.transactions t)) k is closed));
    }

    pub good_shut : (next : State) → next ≡ moving t ended (adding_to_all (entry.Shut t.actor) s) → Good next
    good_shut next is = subst Good (sym is) (record { base = base_shut; pins = pins_shut })
