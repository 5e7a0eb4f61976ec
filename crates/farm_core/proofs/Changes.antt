-- What one entry more, and a change of one transaction, leave of what the core stands for.
use Rattle.std.proofs.Common.{◌≡◌, ◌⊎◌, ℕ, ◌<◌, eqb, true, false, List, [], ◌∷◌, ◌++◌, length, get_or, Option, Some, None, Ok, sym, refl, ap, ◌∙◌, subst, inl, inr, ⊎_elim, arith}
use Rattle.std.proofs.Math.ListN.{set, length-set}
use Rattle.std.proofs.lemmas.Bool.{both_ways, cond_both, eqb-true, eqb-false}
use Rattle.farm_core.proofs.Words.{node_of, set_log, Addr, TxnId, same_addr, cut, Hold, Node, Entry, Bytes, Cell, same_txn, raised_to, locked_by, installed, released}
use Rattle.farm_core.proofs.Words.{goes, collected, NodeState, HeldBy, Adds, set_cell, new_floor, after, replay, plain_of, Active, Transaction, State, home}
use Rattle.farm_core.proofs.Words.{node_at, adding, moving, HoldsLockAt, Reached, plains, NodesStand, StandsOpen, in_list, At, Aside}
use Rattle.farm_node.specs.declared.entry.Entry.TheVariants as entry
use Rattle.farm_node.proofs.Addresses.{addr_eq}
use Rattle.farm_node.proofs.Sound.{txn_self}
use Rattle.farm_core.proofs.Lists.{replay_more}
use Rattle.farm_node.proofs.Decided.{HasLock}
use Rattle.farm_core.proofs.Held.{Holds, holds_held}
use Rattle.farm_core.proofs.Good.{Good, Grown, home_low, set_at, one_grown, grown_at, self_moved, other_stays}
use Rattle.farm_core.proofs.Runs.{good_run}
use Rattle.farm_core.proofs.NodeLists.{plains_index, plains_set, plains_other}

pub good : (s : State) → Reached s → Good s
good s r = good_run s.nodes r.2.0 r.2.1 s r.0 r.1 r.2.2

-- the entry gives the transaction the lock
abbrev pub Takes : TxnId → Addr → Entry → Type 0
Takes u a (entry.Alloc t r v placed) = (t ≡ u) × (placed.at ≡ a)
Takes u a (entry.Lock t b r new (Ok given)) = (t ≡ u) × (b ≡ a)
Takes u a e = ⊥

pub held_holds : (p : NodeState) (t : TxnId) (a : Addr) → HeldBy p t a → Holds t (p.cells a)
held_holds p t a held = subst (λ (c : Option Cell). Holds t c) (sym held.2) (subst (λ (l : Option Hold). HasLock t l) (sym held.3) held.4)

module _ (u : TxnId) where
  -- a cell that is set, at its address and elsewhere
  pub holds_set : (b a : Addr) (c : Option Cell) (cells : Addr → Option Cell) (P : Type 0) → (Holds u c → b ≡ a → Holds u (cells b) ⊎ P) → Holds u (set_cell b c cells a) → Holds u (cells a) ⊎ P
  holds_set b a c cells P set = cond_both (same_addr b a) c (cells a) (λ d. Holds u d → Holds u (cells a) ⊎ P)
      (λ is holds. ⊎_elim (λ old. inl (subst (λ (z : Addr). Holds u (cells z)) (addr_eq b a is) old)) (λ p. inr p) (set holds (addr_eq b a is)))
      (λ is holds. inl holds)

  holds_raised : (s : ℕ) (c : Option Cell) → Holds u (raised_to s c) → Holds u c
  holds_raised s None holds = holds
  holds_raised s (Some c) holds = holds

  holds_locked : (t : TxnId) (new : Option Bytes) (c : Option Cell) → Holds u (locked_by t new c) → t ≡ u
  holds_locked t new None holds = absurd holds
  holds_locked t new (Some c) holds = holds

  none_installed : (w : ℕ) (c : Option Cell) → Holds u (installed w c) → ⊥
  none_installed w None holds = holds
  none_installed w (Some c) holds = holds

  none_released : (c : Option Cell) → Holds u (released c) → ⊥
  none_released None = λ holds. holds
  none_released (Some c) = elim c.versions as (λ vs. Holds u (elim vs as (λ _. Option Cell) [ [] ↦ None | v ∷ more ↦ Some (record c { lock = None }) ]) → ⊥) [ [] ↦ λ holds. holds | v ∷ more ↦ λ holds. holds ]

  holds_collected : (floor : ℕ) (c : Option Cell) → Holds u (collected floor c) → Holds u c
  holds_collected floor None = λ holds. holds
  holds_collected floor (Some c) = cond_both (goes floor c) None (Some (record c { versions = cut floor c.versions })) (λ d. Holds u d → Holds u (Some c)) (λ is holds. absurd holds) (λ is holds. holds)

  holds_after : (p : NodeState) (e : Entry) (a : Addr) → Holds u ((after p e).cells a) → Holds u (p.cells a) ⊎ Takes u a e
  holds_after p (entry.Read k b s (Ok found)) a = holds_set b a (raised_to s (p.cells b)) p.cells _ (λ holds is. inl (holds_raised s (p.cells b) holds))
  holds_after p (entry.Alloc t r v placed) a = holds_set placed.at a _ p.cells _ (λ holds is. inr (holds, is))
  holds_after p (entry.Lock t b r new (Ok given)) a = holds_set b a (locked_by t new (p.cells b)) p.cells _ (λ holds is. inr (holds_locked t new (p.cells b) holds, is))
  holds_after p (entry.Check t b r w (Ok same)) a = holds_set b a (raised_to w (p.cells b)) p.cells _ (λ holds is. inl (holds_raised w (p.cells b) holds))
  holds_after p (entry.Put t b w) a = holds_set b a (installed w (p.cells b)) p.cells _ (λ holds is. absurd (none_installed w (p.cells b) holds))
  holds_after p (entry.Unlock t b) a = holds_set b a (released (p.cells b)) p.cells _ (λ holds is. absurd (none_released (p.cells b) holds))
  holds_after p (entry.Collect k f removed) a = λ holds. inl (holds_collected (new_floor p f) (p.cells a) holds)
  holds_after p e a = λ holds. inl holds

  pub held_after : (p : NodeState) (e : Entry) (a : Addr) → HeldBy (after p e) u a → HeldBy p u a ⊎ Takes u a e
  held_after p e a held = ⊎_elim (λ holds. inl (holds_held p u a holds)) (λ takes. inr takes) (holds_after p e a (held_holds (after p e) u a held))

pub not_own : (t u : TxnId) → same_txn t u ≡ false → t ≡ u → ⊥
not_own t u other same = both_ways (same_txn t u) other (ap (same_txn t) (sym same) ∙ txn_self t)

-- whose lock is there after one entry more
pub held_grown : (On : ℕ → Type 0) (s : State) (e : Entry) (logs : ℕ → List Entry) → Good s → Grown On s e logs → (u : TxnId) (a : Addr) → HoldsLockAt (record s { logs = logs }) u a
    → HoldsLockAt s u a ⊎ Takes u a e
held_grown On s e logs g grown u a = grown_at On s e logs grown (home s a) (λ log. HeldBy (replay log) u a → HoldsLockAt s u a ⊎ Takes u a e)
    (λ on held. held_after u (node_of s a) e a (subst (λ (p : NodeState). HeldBy p u a) (replay_more (s.logs (home s a)) e (g.base.lists (home s a) (home_low s a g.base.count.0)).lawful) held))
    (λ held. inl held)

module _ (s : State) (g : Good s) where
  pub held_adding : (n : ℕ) (e : Entry) (u : TxnId) (a : Addr) → HoldsLockAt (adding n e s) u a → HoldsLockAt s u a ⊎ Takes u a e
  held_adding n e = held_grown _ s e _ g (one_grown s n e)

  module _ (nodes : List Node) (stand : NodesStand nodes s.nodes s.logs) (n : ℕ) (d v : Node) (less : n < s.nodes) where
    low : n < length nodes
    low = let number : length nodes ≡ s.nodes = stand.number in omega arith

    pub old_is : plain_of (get_or nodes n d) ≡ node_at s n
    old_is = plains_index nodes n d low ∙ stand.each n less

    -- one node is written, and its list
    pub nodes_set : (log : List Entry) → plain_of v ≡ replay log → NodesStand (set nodes n v) s.nodes (set_log n log s.logs)
    nodes_set log is = record {
      number = length-set nodes n v ∙ stand.number;
      each = λ m lower. cond_both (eqb n m) log (s.logs m) (λ l. plains (set nodes n v) m ≡ replay l)
          (λ same. ap (plains (set nodes n v)) (sym (eqb-true n m same)) ∙ (plains_set nodes n v low ∙ is))
          (λ other. plains_other nodes n m v (eqb-false n m other) ∙ stand.each m lower);
    }

    pub nodes_written : (e : Entry) → Adds (plain_of (get_or nodes n d)) e (plain_of v) → NodesStand (set nodes n v) s.nodes (adding n e s).logs
    nodes_written e adds = nodes_set (s.logs n ++ e ∷ []) (adds.state ∙ (ap (λ (p : NodeState). after p e) old_is ∙ sym (replay_more (s.logs n) e (g.base.lists n less).lawful)))

    pub nodes_kept : plain_of v ≡ plain_of (get_or nodes n d) → NodesStand (set nodes n v) s.nodes s.logs
    nodes_kept same = record {
      number = length-set nodes n v ∙ stand.number;
      each = λ m lower. (nodes_set (s.logs n) (same ∙ old_is)).each m lower ∙ set_at (λ l. replay l ≡ node_at s m) n m (s.logs n) s.logs (ap (node_at s)) refl;
    }

  module _ (t : TxnId) (n : ℕ) (e : Entry) (own : (u : TxnId) (a : Addr) → Takes u a e → t ≡ u) where
    aside_held : (u : TxnId) (a : Addr) → same_txn t u ≡ false → HoldsLockAt (adding n e s) u a → HoldsLockAt s u a
    aside_held u a other held = ⊎_elim (λ before. before) (λ takes. absurd (not_own t u other (own u a takes))) (held_adding n e u a held)

    pub aside_moved : (change : Transaction → Transaction) → Aside t s (moving t change (adding n e s))
    aside_moved change = record { nodes = refl; begins = refl; loading = refl; others = λ u. other_stays t u (change (s.transactions t)) s.transactions; held = aside_held }

    pub aside_added : Aside t s (adding n e s)
    aside_added = record { nodes = refl; begins = refl; loading = refl; others = λ u other. refl; held = aside_held }

  pub aside_still : (t : TxnId) (change : Transaction → Transaction) → Aside t s (moving t change s)
  aside_still t change = record { nodes = refl; begins = refl; loading = refl; others = λ u. other_stays t u (change (s.transactions t)) s.transactions; held = λ u a other held. held }

  pub at_moved : (t : TxnId) (n : ℕ) (e : Entry) (change : Transaction → Transaction) (y : Active) (later : List Node) → NodesStand later s.nodes (adding n e s).logs
      → StandsOpen y (change (s.transactions t)) → ((a : Addr) → HoldsLockAt s t a ⊎ Takes t a e → in_list a y.locked.items ≡ true) → At y later t (moving t change (adding n e s))
  at_moved t n e change y later nodes stands held = record {
    nodes_stand = nodes;
    active = subst (StandsOpen y) (sym (self_moved t (change (s.transactions t)) s.transactions)) stands;
    held = λ a has. held a (held_adding n e t a has);
  }

  pub at_still : (t : TxnId) (change : Transaction → Transaction) (y : Active) (later : List Node) → NodesStand later s.nodes s.logs → StandsOpen y (change (s.transactions t))
      → ((a : Addr) → HoldsLockAt s t a → in_list a y.locked.items ≡ true) → At y later t (moving t change s)
  at_still t change y later nodes stands held = record {
    nodes_stand = nodes;
    active = subst (StandsOpen y) (sym (self_moved t (change (s.transactions t)) s.transactions)) stands;
    held = held;
  }
