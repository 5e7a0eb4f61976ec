-- The ways of a transaction: each next phase is sane, and keeps a state good.
use Rattle.std.proofs.Common.{◌≡◌, ◌≢◌, ◌⊎◌, ℕ, ◌+◌, ◌<◌, ◌≤◌, Bool, true, false, refl, ap, subst, ⊎_elim, arith}
use Rattle.std.proofs.lemmas.Bool.{both_ways, false_from_ne_true}
use Rattle.farm_core.proofs.Words.{ACTOR_LIMIT, Addr, TxnId, IsStamp, Stage, Unbegun, Reading, Drawn, Installing, Refused, Transaction, begun_at, in_stage}
use Rattle.farm_core.proofs.Words.{drawn_at, with_addr, with_locked, State, home, node_at, moving}
use Rattle.farm_core.proofs.Held.{Holds, held_staged, held_locked, held_drawn}
use Rattle.farm_core.proofs.Good.{Sane, SameIn, Good, home_low, base_counts, good_moving}

-- what a transaction still has to show in its next stage
pub sane_next : (clock : ℕ) (begins : ℕ → ℕ) (t : TxnId) (x : Transaction) (stage : Stage) (is_open : Bool) (w : ℕ) (reads locks sames : Addr → Bool) → Sane clock begins t x
    → x.stage ≢ Unbegun → stage ≢ Unbegun → (is_open ≡ true → x.is_open ≡ true) → w ≤ clock → (stage ≡ Reading → (w ≡ 0) × ((a : Addr) → sames a ≡ false))
    → ((stage ≡ Drawn) ⊎ (stage ≡ Installing) → x.read_stamp < w) → (stage ≡ Installing → (a : Addr) → reads a ≡ true → locks a ≡ false → sames a ≡ true)
    → Sane clock begins t (record x { stage = stage; is_open = is_open; write_stamp = w; has_read = reads; had_locked = locks; is_same = sames })
sane_next clock begins t x stage is_open w reads locks sames y begun still opens low undrawn drawn all_same = record {
  fresh = λ none. absurd (still none);
  begun = λ is. y.begun begun;
  current = λ is. y.current (opens is);
  read = y.read;
  write = low;
  undrawn = undrawn;
  drawn = drawn;
  all_same = all_same;
}

module _ (clock : ℕ) (begins : ℕ → ℕ) (t : TxnId) (x : Transaction) (y : Sane clock begins t x) where
  -- it reads and locks
  pub sane_reading : (reads locks : Addr → Bool) → x.stage ≡ Reading → Sane clock begins t (record x { has_read = reads; had_locked = locks })
  sane_reading reads locks is = sane_next clock begins t x _ _ _ reads locks _ y (λ none. cc) (λ none. cc) (λ o. o) y.write y.undrawn y.drawn (λ installing. absurd (cc))

pub sane_begun : (clock : ℕ) (begins : ℕ → ℕ) (t : TxnId) → 0 < clock → 0 < t.actor → t.actor ≤ ACTOR_LIMIT → t.number ≡ begins t.actor → Sane clock begins t (begun_at clock)
sane_begun clock begins t low actor few current = record {
  fresh = λ none. absurd (cc);
  begun = λ is. (actor, few, omega arith, low);
  current = λ is_open. current;
  read = omega arith;
  write = omega arith;
  undrawn = λ reading. (refl, λ a. refl);
  drawn = λ is. absurd (⊎_elim (λ drawn. cc) (λ installing. cc) is);
  all_same = λ installing. absurd (cc);
}

-- who is not unbegun has begun

pub is_unbegun : (stage : Stage) → (stage ≢ Unbegun → ⊥) → stage ≡ Unbegun
is_unbegun Unbegun never = refl
is_unbegun stage never = absurd (never (λ is. cc))

module _ (s : State) (g : Good s) where
  pub started : (t : TxnId) → (s.transactions t).is_open ≡ true → s.loading ≡ false
  started t is_open = false_from_ne_true s.loading (λ is. both_ways _ (ap (λ (z : Transaction). z.is_open) ((g.base.first is).1 t)) is_open)

  pub open_stage : (t : TxnId) → (s.transactions t).is_open ≡ true → (s.transactions t).stage ≢ Unbegun
  open_stage t is_open none = both_ways _ (ap (λ (z : Transaction). z.is_open) ((g.base.sane t).fresh none)) is_open

  -- a new stage, with what was read and is the same
  pub good_staged : (t : TxnId) (stage : Stage) (reads sames : Addr → Bool) → s.loading ≡ false
      → Sane s.clock s.begins t (record (s.transactions t) { stage = stage; has_read = reads; is_same = sames })
      → (stage ≢ Refused → (s.transactions t).stage ≢ Refused)
      → ((a : Addr) → sames a ≡ true → SameIn (s.logs (home s a)) t a (s.transactions t).read_stamp (s.transactions t).write_stamp)
      → Good (moving t (λ x. record x { stage = stage; has_read = reads; is_same = sames }) s)
  good_staged t stage reads sames going sane stays same = good_moving s t (λ x. record x { stage = stage; has_read = reads; is_same = sames }) g going refl refl sane
      (λ a actor. held_staged t (s.transactions t) a _ _ _ _ stage reads sames stays (g.base.held t actor a))
      same
      (g.base.apart t)

  pub good_refused : (t : TxnId) → (s.transactions t).is_open ≡ true → Good (moving t (in_stage Refused) s)
  good_refused t is_open = good_staged t Refused (s.transactions t).has_read (s.transactions t).is_same (started t is_open)
      (sane_next s.clock s.begins t (s.transactions t) Refused _ _ _ _ _ (g.base.sane t) (open_stage t is_open) (λ none. cc) (λ o. o) (g.base.sane t).write (λ reading. absurd (cc))
      (λ is. absurd (⊎_elim (λ drawn. cc) (λ installing. cc) is)) (λ installing. absurd (cc)))
      (λ going. absurd (going refl))
      (g.base.same t)

  -- a lock that it has
  pub good_locked : (t : TxnId) (a : Addr) → (s.transactions t).is_open ≡ true → (s.transactions t).stage ≡ Reading → Holds t ((node_at s (home s a)).cells a) → Good (moving t (with_locked a) s)
  good_locked t a is_open reading has = good_moving s t (with_locked a) g (started t is_open) refl refl
      (sane_reading s.clock s.begins t (s.transactions t) (g.base.sane t) (s.transactions t).has_read (with_addr a (s.transactions t).had_locked) reading)
      (λ b actor. held_locked t (s.transactions t) b _ _ _ _ a (λ is. subst (λ (z : Addr). Holds t ((node_at s (home s z)).cells z)) is has) (g.base.held t actor b))
      (g.base.same t)
      (g.base.apart t)

  -- a draw
  pub good_drawn : (t : TxnId) → (s.transactions t).is_open ≡ true → (s.transactions t).stage ≡ Reading → IsStamp (s.clock + 1)
      → Good (moving t (drawn_at (s.clock + 1)) (record s { clock = s.clock + 1 }))
  good_drawn t is_open reading stamp = good_moving (record s { clock = s.clock + 1 }) t (drawn_at (s.clock + 1)) ticked (started t is_open) refl refl
      (sane_next (s.clock + 1) s.begins t (s.transactions t) Drawn _ (s.clock + 1) _ _ _ (ticked.base.sane t) (open_stage t is_open) (λ none. cc) (λ o. o) (omega arith) (λ reading. absurd (cc))
      (λ is. let low : (s.transactions t).read_stamp ≤ s.clock = (g.base.sane t).read in omega arith) (λ installing. absurd (cc)))
      (λ a actor. held_drawn t (s.transactions t) a _ _ _ _ s.clock (s.clock + 1) undrawn.0 (λ refused. cc) ((g.base.lists (home s a) (home_low s a g.base.count.0)).low.cells a) (omega arith) (g.base.held t actor a))
      (λ a same. let none : (s.transactions t).is_same a ≡ false = undrawn.1 a in absurd (cc))
      (λ u drawn is. let low : (s.transactions u).write_stamp ≤ s.clock = (g.base.sane u).write in absurd (omega arith)) where
        ticked : Good (record s { clock = s.clock + 1 })
        ticked = record { base = base_counts s (s.clock + 1) s.begins g.base (omega arith) stamp (λ k. omega arith) (λ u. (g.base.sane u).current); pins = record { open_at = g.pins.open_at; none_at = g.pins.none_at } }

        undrawn : ((s.transactions t).write_stamp ≡ 0) × ((a : Addr) → (s.transactions t).is_same a ≡ false)
        undrawn = (g.base.sane t).undrawn reading
