-- Each event keeps a state good.
use Rattle.std.proofs.Common.{◌≡◌, ◌⊎◌, ℕ, ◌+◌, ◌*◌, ◌%◌, ◌<◌, ◌≤◌, max, cond, Bool, true, List, [], ◌∷◌, ◌++◌, Option, Some, Result, Ok, Err, sym, refl, ap, ◌∙◌, subst, inl, inr, ⊎_elim, arith}
use Rattle.std.proofs.lemmas.Bool.{or_cases, eq-eqb, lt-ltb}
use Rattle.std.proofs.lemmas.Nat.{mod-mul-add}
use Rattle.farm_core.proofs.Words.{MayPut, COLLECTOR_ACTOR, LAST_STAMP, Addr, TxnId, same_addr, LeastFree, Hold, Found, Locked, CheckFault, Entry, Bytes, Cell}
use Rattle.farm_core.proofs.Words.{read_answer, made_by, locked_by, lock_answer, check_answer, NodeState, occupancy, PinnedBy, MayLock, FitsLock}
use Rattle.farm_core.proofs.Words.{after, replay, collect_answer, IsStamp, story, Reading, Drawn, Installing, Refused, with_addr, with_locked, in_stage, State}
use Rattle.farm_core.proofs.Words.{home, node_at, node_of, set_log, adding, adding_to_all, set_transaction, moving, loading_over, IsAt, HoldsLockAt, AllSame}
use Rattle.farm_core.proofs.Words.{Reads, Allocates, Locks, Draws, Checks, Collects}
use Rattle.farm_node.specs.declared.entry.Entry.TheVariants as entry
use Rattle.farm_node.proofs.Addresses.{addr_eq}
use Rattle.farm_node.proofs.Sound.{txn_self}
use Rattle.farm_node.proofs.Steps.{Askable, askable}
use Rattle.farm_node.proofs.ReadsStay.{set_self}
use Rattle.farm_core.proofs.Lists.{replay_more}
use Rattle.farm_node.proofs.Decided.{HasLock}
use Rattle.farm_core.proofs.Held.{Holds, HoldingCell, holds_held}
use Rattle.farm_core.proofs.Good.{Listed, SameIn, Good, home_low, base_loading_over, good_adding}
use Rattle.farm_core.proofs.Phases.{sane_next, sane_reading, started, open_stage, good_staged, good_refused, good_locked, good_drawn}

pub now_at : (n : ℕ) (log : List Entry) (logs : ℕ → List Entry) → set_log n log logs n ≡ log
now_at n log logs = ap (λ (g : Bool). cond g log (logs n)) (eq-eqb n n refl)

module _ (s : State) (g : Good s) where
  pub less_home : (a : Addr) → home s a < s.nodes
  less_home a = home_low s a g.base.count.0

  pub read_stamp : (t : TxnId) → IsStamp (s.transactions t).read_stamp
  read_stamp t = let low : (s.transactions t).read_stamp ≤ s.clock = (g.base.sane t).read in let top : IsStamp s.clock = g.base.clock.1 in omega arith

  pub write_stamp : (t : TxnId) → IsStamp (s.transactions t).write_stamp
  write_stamp t = let low : (s.transactions t).write_stamp ≤ s.clock = (g.base.sane t).write in let top : IsStamp s.clock = g.base.clock.1 in omega arith

  pub is_pinned : (t : TxnId) (n : ℕ) → n < s.nodes → (s.transactions t).is_open ≡ true → PinnedBy (node_at s n) t.actor (s.transactions t).read_stamp
  is_pinned t n less is_open = ((s.transactions t).read_stamp, g.pins.open_at t n less is_open, omega arith)

  -- what a reading transaction had locked it holds
  pub locked_held : (t : TxnId) (a : Addr) → IsAt Reading s t → (s.transactions t).had_locked a ≡ true → HoldsLockAt s t a
  locked_held t a going locked =
      let h = g.base.held t ((g.base.sane t).begun (open_stage s g t going.0)).0 a in
      let undrawn : (s.transactions t).write_stamp ≡ 0 = ((g.base.sane t).undrawn going.1).0 in
      ⊎_elim
      (λ holds. holds_held (node_of s a) t a holds)
      (λ put. let drawn : 0 < (s.transactions t).write_stamp = (h.puts put.0 put.1 put.2).drawn in absurd (omega arith))
      (h.locked locked (λ refused. let at_reading : (s.transactions t).stage ≡ Reading = going.1 in cc))

  -- what it holds when it has drawn it may put
  has_drawn : (t : TxnId) → (IsAt Drawn s t ⊎ IsAt Installing s t) → (s.transactions t).read_stamp < (s.transactions t).write_stamp
  has_drawn t at = (g.base.sane t).drawn (⊎_elim (λ x. inl x.1) (λ x. inr x.1) at)

  pub may_put : (t : TxnId) (a : Addr) → (IsAt Drawn s t ⊎ IsAt Installing s t) → HoldsLockAt s t a → MayPut (node_of s a) t a (s.transactions t).write_stamp
  may_put t a at has =
      let later : (s.transactions t).read_stamp < (s.transactions t).write_stamp = has_drawn t at in
      let actor : 0 < t.actor = ((g.base.sane t).begun (open_stage s g t (⊎_elim (λ x. x.0) (λ x. x.0) at))).0 in
      let holding : HoldingCell t (s.transactions t) (Some has.0) (story a (s.logs (home s a))) =
      subst (λ (c : Option Cell). HoldingCell t (s.transactions t) c (story a (s.logs (home s a)))) has.2 (g.base.held t actor a).holding in
      (has.0, has.1, has.2, has.3, has.4, (holding (subst (λ (l : Option Hold). HasLock t l) (sym has.3) has.4)).low (omega arith))

  -- a node after one entry more
  grown_node : (n : ℕ) (e : Entry) → n < s.nodes → node_at (adding n e s) n ≡ after (node_at s n) e
  grown_node n e less = ap replay (now_at n (s.logs n ++ e ∷ []) s.logs) ∙ replay_more (s.logs n) e (g.base.lists n less).lawful

  pub all_grown_node : (n : ℕ) (e : Entry) → n < s.nodes → node_at (adding_to_all e s) n ≡ after (node_at s n) e
  all_grown_node n e less = ap (λ (b : Bool). replay (cond b (s.logs n ++ e ∷ []) (s.logs n))) (lt-ltb n s.nodes less) ∙ replay_more (s.logs n) e (g.base.lists n less).lawful

  -- read

  read_more : (t : TxnId) (a : Addr) (y : Result Found TxnId) → IsAt Reading s t → y ≡ read_answer (s.transactions t).read_stamp ((node_of s a).cells a)
      → Good (adding (home s a) (entry.Read t.actor a (s.transactions t).read_stamp y) s)
  read_more t a y at due = good_adding s (home s a) (entry.Read t.actor a (s.transactions t).read_stamp y) g (started s g t at.0) (less_home a) tt
      (is_pinned t (home s a) (less_home a) at.0, read_stamp t, due) (g.base.sane t).read (λ u. tt)

  pub good_read : (t : TxnId) (a : Addr) (y : Result Found TxnId) (told : _) (next : State) → IsAt Reading s t → y ≡ read_answer (s.transactions t).read_stamp ((node_of s a).cells a)
      → Reads s t a (s.transactions t).read_stamp y told next → Good next
  good_read t a (Ok found) told next at due acts =
      let more : Good (adding (home s a) (entry.Read t.actor a (s.transactions t).read_stamp (Ok found)) s) = read_more t a (Ok found) at due in
      subst Good (sym acts.1) (good_staged (adding (home s a) (entry.Read t.actor a (s.transactions t).read_stamp (Ok found)) s) more t (s.transactions t).stage (with_addr a (s.transactions t).has_read) (s.transactions t).is_same (started s g t at.0)
      (sane_reading s.clock s.begins t (s.transactions t) (g.base.sane t) (with_addr a (s.transactions t).has_read) (s.transactions t).had_locked at.1)
      (λ going. going)
      (more.base.same t))
  good_read t a (Err by) told next at due acts = subst Good (sym acts.1) (read_more t a (Err by) at due)

  -- alloc

  reading_allows : (t u : TxnId) → IsAt Reading s t → t ≡ u
      → ((s.transactions u).is_open ≡ true) × ((s.transactions u).write_stamp ≡ 0) × ((s.transactions t).read_stamp ≡ (s.transactions u).read_stamp)
  reading_allows t u at mine =
      subst (λ (z : TxnId). ((s.transactions z).is_open ≡ true) × ((s.transactions z).write_stamp ≡ 0) × ((s.transactions t).read_stamp ≡ (s.transactions z).read_stamp)) mine
      (at.0, ((g.base.sane t).undrawn at.1).0, refl)

  place_home : (n : ℕ) (a : Addr) → n < s.nodes → LeastFree (occupancy (node_at s n)) a → n ≡ home s a
  place_home n a less free =
      let l : Listed s.clock s.nodes n (s.logs n) = g.base.lists n less in
      let place = free.place.0 in
      let is : a.region ≡ place.0 * s.nodes + n = place.2 ∙ ((λ i. l.number i + place.0 * l.count i) ∙ omega arith) in
      sym (ap (λ (z : ℕ). z % s.nodes) is ∙ mod-mul-add place.0 s.nodes n less)

  pub good_alloc : (t : TxnId) (n : ℕ) (bytes : Bytes) (told : _) (next : State) → IsAt Reading s t → n < s.nodes
      → Allocates s t n (s.transactions t).read_stamp bytes told next → Good next
  good_alloc t n bytes told next at less acts = ⊎_elim
      (λ x. subst Good (sym x.2.1) (placed x.0 x.1))
      (λ x. subst Good (sym x.1.1) (good_refused s g t at.0))
      acts where
        placed : (a : Addr) → LeastFree (occupancy (node_at s n)) a
            → Good (moving t (with_locked a) (adding n (entry.Alloc t (s.transactions t).read_stamp bytes (record { at = a; bound = max (node_at s n).past (s.transactions t).read_stamp })) s))
        placed a free =
            let e : Entry = entry.Alloc t (s.transactions t).read_stamp bytes (record { at = a; bound = max (node_at s n).past (s.transactions t).read_stamp }) in
            let more : Good (adding n e s) = good_adding s n e g (started s g t at.0) less tt
            (is_pinned t n less at.0, read_stamp t, free, refl) (g.base.sane t).read (λ u mine. reading_allows t u at mine) in
            let there : (node_at (adding n e s) n).cells a ≡ Some (made_by t bytes (max (node_at s n).past (s.transactions t).read_stamp)) =
            ap (λ (p : NodeState). p.cells a) (grown_node n e less) ∙ set_self a _ (node_at s n).cells in
            good_locked (adding n e s) more t a at.0 at.1
            (subst (λ (m : ℕ). Holds t ((node_at (adding n e s) m).cells a)) (place_home n a less free) (subst (λ (c : Option Cell). Holds t c) (sym there) refl))

  -- lock

  pub good_lock : (t : TxnId) (a : Addr) (new : Option Bytes) (y : Result Locked CheckFault) (told : _) (next : State) → IsAt Reading s t
      → MayLock (node_of s a) t a (s.transactions t).read_stamp → y ≡ lock_answer t (s.transactions t).read_stamp ((node_of s a).cells a)
      → Locks s t a (s.transactions t).read_stamp new y told next → Good next
  good_lock t a new (Ok given) told next at may due acts =
      let e : Entry = entry.Lock t a (s.transactions t).read_stamp new (Ok given) in
      let fits : FitsLock (node_of s a) t a (s.transactions t).read_stamp (Ok given) = record { pinned = is_pinned t (home s a) (less_home a) at.0; stamp = read_stamp t; may = may; due = due } in
      let more : Good (adding (home s a) e s) = good_adding s (home s a) e g (started s g t at.0) (less_home a) tt fits tt (λ u mine. reading_allows t u at mine) in
      let ask : Askable t ((node_of s a).cells a) = askable (node_of s a) t a (s.transactions t).read_stamp (Ok given) fits in
      let there : (node_at (adding (home s a) e s) (home s a)).cells a ≡ locked_by t new (Some ask.cell) =
      ap (λ (p : NodeState). p.cells a) (grown_node (home s a) e (less_home a)) ∙ (set_self a _ (node_of s a).cells ∙ ap (locked_by t new) ask.is) in
      subst Good (sym acts.1) (good_locked (adding (home s a) e s) more t a at.0 at.1 (subst (λ (c : Option Cell). Holds t c) (sym there) refl))
  good_lock t a new (Err fault) told next at may due acts =
      let e : Entry = entry.Lock t a (s.transactions t).read_stamp new (Err fault) in
      let fits : FitsLock (node_of s a) t a (s.transactions t).read_stamp (Err fault) = record { pinned = is_pinned t (home s a) (less_home a) at.0; stamp = read_stamp t; may = may; due = due } in
      let more : Good (adding (home s a) e s) = good_adding s (home s a) e g (started s g t at.0) (less_home a) tt fits tt (λ u. tt) in
      subst Good (sym acts.1) (good_refused (adding (home s a) e s) more t at.0)

  -- draw

  pub good_draw : (t : TxnId) (told : _) (next : State) → IsAt Reading s t → Draws s t told next → Good next
  good_draw t told next at acts = ⊎_elim
      (λ x. let low : s.clock < LAST_STAMP = x.0 in subst Good (sym x.1.1) (good_drawn s g t at.0 at.1 (omega arith)))
      (λ x. subst Good (sym x.1.1) (good_refused s g t at.0))
      acts

  -- check

  pub good_check : (t : TxnId) (a : Addr) (y : Result (Unit {0}) CheckFault) (told : _) (next : State) → IsAt Drawn s t → (HoldsLockAt s t a → ⊥)
      → y ≡ check_answer (s.transactions t).read_stamp ((node_of s a).cells a) → Checks s t a (s.transactions t).read_stamp (s.transactions t).write_stamp y told next → Good next
  good_check t a y told next at free due acts = by y due acts where
    more : (y : Result (Unit {0}) CheckFault) → y ≡ check_answer (s.transactions t).read_stamp ((node_of s a).cells a)
        → Good (adding (home s a) (entry.Check t a (s.transactions t).read_stamp (s.transactions t).write_stamp y) s)
    more y due = good_adding s (home s a) (entry.Check t a (s.transactions t).read_stamp (s.transactions t).write_stamp y) g (started s g t at.0) (less_home a) tt
        (record { pinned = is_pinned t (home s a) (less_home a) at.0; stamps = (read_stamp t, write_stamp t); not_own = free; due = due }) (g.base.sane t).write (λ u. tt)

    by : (y : Result (Unit {0}) CheckFault) → y ≡ check_answer (s.transactions t).read_stamp ((node_of s a).cells a)
        → Checks s t a (s.transactions t).read_stamp (s.transactions t).write_stamp y told next → Good next
    by (Ok same) due acts =
        let e : Entry = entry.Check t a (s.transactions t).read_stamp (s.transactions t).write_stamp (Ok tt) in
        let after_it : Good (adding (home s a) e s) = more (Ok tt) due in
        let here : SameIn ((adding (home s a) e s).logs (home s a)) t a (s.transactions t).read_stamp (s.transactions t).write_stamp =
        record { before = s.logs (home s a); rest = []; is = now_at (home s a) (s.logs (home s a) ++ e ∷ []) s.logs } in
        subst Good (sym acts.1) (good_staged (adding (home s a) e s) after_it t (s.transactions t).stage (s.transactions t).has_read (with_addr a (s.transactions t).is_same) (started s g t at.0)
        (sane_next s.clock s.begins t (s.transactions t) _ _ _ _ _ (with_addr a (s.transactions t).is_same) (g.base.sane t) (λ none. cc) (λ none. cc) (λ o. o) (g.base.sane t).write
        (λ reading. absurd (cc)) (g.base.sane t).drawn (λ installing. absurd (cc)))
        (λ going. going)
        (λ b same. ⊎_elim
        (λ is. subst (λ (z : Addr). SameIn ((adding (home s a) e s).logs (home s z)) t z (s.transactions t).read_stamp (s.transactions t).write_stamp) (addr_eq a b is) here)
        (λ old. after_it.base.same t b old)
        (or_cases (same_addr a b) ((s.transactions t).is_same b) same)))
    by (Err fault) due acts =
        subst Good (sym acts.1) (good_refused (adding (home s a) (entry.Check t a (s.transactions t).read_stamp (s.transactions t).write_stamp (Err fault)) s) (more (Err fault) due) t at.0)

  -- put

  pub good_put : (t : TxnId) (a : Addr) (next : State) → (IsAt Drawn s t ⊎ IsAt Installing s t) → HoldsLockAt s t a → AllSame (s.transactions t)
      → next ≡ moving t (in_stage Installing) (adding (home s a) (entry.Put t a (s.transactions t).write_stamp) s) → Good next
  good_put t a next at has same is =
      let is_open : (s.transactions t).is_open ≡ true = ⊎_elim (λ x. x.0) (λ x. x.0) at in
      let later : (s.transactions t).read_stamp < (s.transactions t).write_stamp = has_drawn t at in
      let more : Good (adding (home s a) (entry.Put t a (s.transactions t).write_stamp) s) = good_adding s (home s a) (entry.Put t a (s.transactions t).write_stamp) g (started s g t is_open) (less_home a) tt
      (may_put t a at has, write_stamp t) (g.base.sane t).write
      (λ u mine. subst (λ (z : TxnId). ((s.transactions t).write_stamp ≡ (s.transactions z).write_stamp) × (0 < (s.transactions z).write_stamp)) mine (refl, omega arith)) in
      subst Good (sym is) (good_staged (adding (home s a) (entry.Put t a (s.transactions t).write_stamp) s) more t Installing (s.transactions t).has_read (s.transactions t).is_same (started s g t is_open)
      (sane_next s.clock s.begins t (s.transactions t) Installing _ _ _ _ _ (g.base.sane t) (open_stage s g t is_open) (λ none. cc) (λ o. o) (g.base.sane t).write (λ reading. absurd (cc))
      (λ drawn. later) (λ installing. same))
      (λ going refused. ⊎_elim (λ (x : IsAt Drawn s t). let stage : (s.transactions t).stage ≡ Drawn = x.1 in cc) (λ (x : IsAt Installing s t). let stage : (s.transactions t).stage ≡ Installing = x.1 in cc) at)
      (more.base.same t))

  -- unlock

  pub good_unlock : (t : TxnId) (a : Addr) (next : State) → (s.transactions t).is_open ≡ true → HoldsLockAt s t a
      → next ≡ moving t (in_stage Refused) (adding (home s a) (entry.Unlock t a) s) → Good next
  good_unlock t a next is_open has is =
      subst Good (sym is) (good_adding (moving t (in_stage Refused) s) (home s a) (entry.Unlock t a) (good_refused s g t is_open) (started s g t is_open) (less_home a) tt has tt
      (λ u mine. subst (λ (z : TxnId). (set_transaction t (in_stage Refused (s.transactions t)) s.transactions z).stage ≡ Refused) mine
      (ap (λ (b : Bool). (cond b (in_stage Refused (s.transactions t)) (s.transactions t)).stage) (txn_self t))))

  -- collect

  pub good_collect : (n : ℕ) (told : _) (next : State) → n < s.nodes → Collects s n (collect_answer (node_at s n) s.clock) told next → Good next
  good_collect n told next less acts =
      subst Good (sym acts.1) (good_adding (loading_over s) n (entry.Collect COLLECTOR_ACTOR s.clock (collect_answer (node_at s n) s.clock))
      record { base = base_loading_over s g.base; pins = record { open_at = g.pins.open_at; none_at = g.pins.none_at } }
      refl less tt (omega arith, g.base.clock.1, refl) (omega arith) (λ u. tt))
