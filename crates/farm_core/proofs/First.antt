-- The states before the first begin and the first collect: each list is its first entry.
use Rattle.std.proofs.Common.{◌≡◌, ℕ, ◌+◌, ◌*◌, ◌/◌, ◌%◌, ◌<◌, ◌≤◌, true, List, [], ◌∷◌, Some, None, sym, refl, ap, ◌∙◌, subst, ⊎_elim, arith}
use Rattle.std.proofs.Math.Nat.{div-lt_iff_lt-mul}
use Rattle.std.proofs.lemmas.Bool.{both_ways, cond_both}
use Rattle.farm_core.proofs.Words.{Occupancy, NODE_LIMIT, Addr, TxnId, region_count, same_addr, IsPlace, Start, Entry, Bytes, loaded_cell, occupancy, loaded_cells, begun}
use Rattle.farm_core.proofs.Words.{Loads, Lawful, replay, IsStart, IsStamp, Installed, Story, nobody, loaded_puts, story_begun, IsAmong, Transaction, unbegun}
use Rattle.farm_core.proofs.Words.{State, fresh, start_of, home, node_of, set_log, log_loaded, IsAddr}
use Rattle.farm_node.specs.declared.entry.Entry.TheVariants as entry
use Rattle.farm_node.proofs.Stories.{Ends, ends}
use Rattle.farm_core.proofs.Low.{BoundLow}
use Rattle.farm_core.proofs.Held.{HoldingCell}
use Rattle.farm_core.proofs.Good.{Listed, Sane, HeldAt, IsFirst, Good, home_low, set_at}

sane_unbegun : (clock : ℕ) (begins : ℕ → ℕ) (t : TxnId) → Sane clock begins t unbegun
sane_unbegun clock begins t = record {
  fresh = λ is. refl;
  begun = λ begun. absurd (begun refl);
  current = λ is_open. absurd (cc);
  read = omega arith;
  write = omega arith;
  undrawn = λ is. (refl, λ a. refl);
  drawn = λ is. absurd (⊎_elim (λ drawn. cc) (λ installing. cc) is);
  all_same = λ is. absurd (cc);
}

-- what was loaded is nobody's

loaded_nobody : (a : Addr) (stamp : ℕ) (heap : List (Addr × Bytes)) (i : Installed) → IsAmong i (loaded_puts a stamp heap) → i.by ≡ nobody
loaded_nobody a stamp [] i there = absurd there
loaded_nobody a stamp (x ∷ xs) i there = cond_both (same_addr x.0 a) (record { by = nobody; read = 0; stamp = stamp; value = Some x.1 } ∷ []) (loaded_puts a stamp xs) (λ puts. IsAmong i puts → i.by ≡ nobody)
    (λ is here. ⊎_elim (λ same. ap (λ (z : Installed). z.by) (sym same)) (λ none. absurd none) here)
    (λ is. loaded_nobody a stamp xs i)
    there

loaded_free : (t : TxnId) (a : Addr) (stamp : ℕ) (heap : List (Addr × Bytes)) (h : Story) → HoldingCell t unbegun (loaded_cells stamp heap a) h
loaded_free t a stamp [] h = tt
loaded_free t a stamp (x ∷ xs) h = cond_both (same_addr x.0 a) (Some (loaded_cell stamp x.1)) (loaded_cells stamp xs a) (λ c. HoldingCell t unbegun c h) (λ is has. absurd has) (λ is. loaded_free t a stamp xs h)

held_first : (t : TxnId) (a : Addr) (m : Start) → 0 < t.actor → Lawful (entry.Made m ∷ []) → HeldAt t unbegun a (entry.Made m ∷ [])
held_first t a m actor lawful =
    let end : Ends a (entry.Made m ∷ []) = ends a (entry.Made m ∷ []) lawful in
    record {
      below = end.tells.below;
      puts = λ i there mine. let is : t.actor ≡ 0 = ap (λ (u : TxnId). u.actor) (sym mine ∙ loaded_nobody a m.stamp m.heap i there) in absurd (omega arith);
      holding = loaded_free t a m.stamp m.heap (story_begun a m);
      locked = λ locked going. absurd (cc);
    }

module _ (s : State) (count : (0 < s.nodes) × (s.nodes ≤ NODE_LIMIT)) (clock : (0 < s.clock) × IsStamp s.clock)
    (lists : (n : ℕ) → n < s.nodes → Listed s.clock s.nodes n (s.logs n)) (firsts : (n : ℕ) → n < s.nodes → IsFirst (s.logs n))
    (none : (t : TxnId) → s.transactions t ≡ unbegun) where
  first_held : (t : TxnId) (a : Addr) → 0 < t.actor → HeldAt t unbegun a (s.logs (home s a))
  first_held t a actor =
      let less : home s a < s.nodes = home_low s a count.0 in
      let f : IsFirst (s.logs (home s a)) = firsts (home s a) less in
      let l : Listed s.clock s.nodes (home s a) (s.logs (home s a)) = lists (home s a) less in
      subst (λ (log : List Entry). HeldAt t unbegun a log) (sym f.1) (held_first t a f.0 actor (subst Lawful f.1 l.lawful))

  pub good_first : Good s
  good_first = record {
    base = record {
      count = count;
      clock = clock;
      lists = lists;
      sane = λ t. subst (λ (x : Transaction). Sane s.clock s.begins t x) (sym (none t)) (sane_unbegun s.clock s.begins t);
      held = λ t actor a. subst (λ (x : Transaction). HeldAt t x a (s.logs (home s a))) (sym (none t)) (first_held t a actor);
      same = λ t a same. absurd (both_ways _ (ap (λ (x : Transaction). x.is_same a) (none t)) same);
      apart = λ t u drawn is. let undrawn : (s.transactions t).write_stamp ≡ 0 = ap (λ (x : Transaction). x.write_stamp) (none t) in absurd (omega arith);
      first = λ loading. (firsts, none);
    };
    pins = record {
      open_at = λ t n less is_open. absurd (both_ways _ (ap (λ (x : Transaction). x.is_open) (none t)) is_open);
      none_at = λ k n less nobody_open. ap (λ (log : List Entry). (replay log).pins k) (firsts n less).1;
    };
  }

pub good_fresh : (nodes : ℕ) → 0 < nodes → nodes ≤ NODE_LIMIT → Good (fresh nodes)
good_fresh nodes low high = good_first (fresh nodes) (low, high) (omega arith, omega arith)
    (λ n less. record {
      lawful = ((less, high, omega arith, omega arith, tt), tt);
      number = refl;
      count = refl;
      actors = refl;
      low = record { cells = λ a. tt; past = omega arith; floor = omega arith };
    })
    (λ n less. (start_of nodes n, refl))
    (λ t. refl)

-- a load

loads_same : (m : Start) (new heap : List (Addr × Bytes)) → Loads m heap → Loads (record m { heap = new }) heap
loads_same m new [] loads = tt
loads_same m new (x ∷ xs) loads = (loads.0, loads.1, loads_same m new xs loads.2)

-- an address is a place of its node
pub is_place : (o : Occupancy) (nodes : ℕ) (a : Addr) → 0 < nodes → IsAddr nodes a → o.node ≡ a.region % nodes → o.nodes ≡ nodes → IsPlace o a
is_place o nodes a low there number count =
    let quotient : a.region / nodes < region_count = (div-lt_iff_lt-mul {k = nodes} {x = a.region} {y = region_count} low).1 there.0 in
    let whole : a.region ≡ a.region % nodes + a.region / nodes * nodes = omega arith in
    ((a.region / nodes, quotient, whole ∙ (λ i. sym number i + a.region / nodes * sym count i)), there.1)

listed_loaded : (clock nodes n : ℕ) (a : Addr) (bytes : Bytes) (m : Start) → 0 < nodes → IsAddr nodes a → a.region % nodes ≡ n → loaded_cells m.stamp m.heap a ≡ None
    → Listed clock nodes n (entry.Made m ∷ []) → Listed clock nodes n (entry.Made (record m { heap = (a, bytes) ∷ m.heap }) ∷ [])
listed_loaded clock nodes n a bytes m low there at_home empty l =
    let b : IsStart m = l.lawful.0 in
    let stamp : m.stamp ≤ clock = l.low.floor in
    record {
      lawful = ((b.0, b.1, b.2, b.3, (is_place (occupancy (begun m)) nodes a low there (l.number ∙ sym at_home) l.count, empty, loads_same m ((a, bytes) ∷ m.heap) m.heap b.4)), tt);
      number = l.number;
      count = l.count;
      actors = l.actors;
      low = record {
        cells = λ c. cond_both (same_addr a c) _ _ (BoundLow clock) (λ is. stamp) (λ is. l.low.cells c);
        past = l.low.past;
        floor = l.low.floor;
      };
    }

pub good_load : (s : State) (a : Addr) (bytes : Bytes) → Good s → IsAddr s.nodes a → s.loading ≡ true → (node_of s a).cells a ≡ None
    → Good (record s { logs = set_log (home s a) (log_loaded a bytes (s.logs (home s a))) s.logs })
good_load s a bytes g there loading empty = good_first (record s { logs = set_log (home s a) (log_loaded a bytes (s.logs (home s a))) s.logs }) g.base.count g.base.clock
    (λ n less. set_at (Listed s.clock s.nodes n) (home s a) n (log_loaded a bytes (s.logs (home s a))) s.logs (λ is. subst (λ (z : ℕ). Listed s.clock s.nodes z (log_loaded a bytes (s.logs (home s a)))) is here) (g.base.lists n less))
    (λ n less. set_at IsFirst (home s a) n (log_loaded a bytes (s.logs (home s a))) s.logs (λ is. first_here) (one.0 n less))
    one.1 where
      one : ((n : ℕ) → n < s.nodes → IsFirst (s.logs n)) × ((t : TxnId) → s.transactions t ≡ unbegun)
      one = g.base.first loading

      less_home : home s a < s.nodes
      less_home = home_low s a g.base.count.0

      f : IsFirst (s.logs (home s a))
      f = one.0 (home s a) less_home

      here : Listed s.clock s.nodes (home s a) (log_loaded a bytes (s.logs (home s a)))
      here = subst (λ (log : List Entry). Listed s.clock s.nodes (home s a) (log_loaded a bytes log)) (sym f.1)
          (listed_loaded s.clock s.nodes (home s a) a bytes f.0 g.base.count.0 there refl
          (sym (ap (λ (log : List Entry). (replay log).cells a) f.1) ∙ empty)
          (subst (Listed s.clock s.nodes (home s a)) f.1 (g.base.lists (home s a) less_home)))

      first_here : IsFirst (log_loaded a bytes (s.logs (home s a)))
      first_here = (record f.0 { heap = (a, bytes) ∷ f.0.heap }, ap (log_loaded a bytes) f.1)
