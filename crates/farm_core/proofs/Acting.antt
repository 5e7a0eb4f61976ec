-- What an open transaction's events need, and where they lead.
use Rattle.std.proofs.Common.{◌≡◌, ◌≢◌, ◌⊎◌, ℕ, ◌+◌, ◌^◌, ◌%◌, ◌<◌, max, Bool, true, false, not, ◌&&◌, ◌||◌, List, [], ◌∷◌, ◌++◌, length, get_or, Option, Result, Ok, Err, sym, refl, ap, ◌∙◌, subst, inl, inr, ⊎_elim, arith}
use Rattle.std.proofs.Math.ListN.{set}
use Rattle.std.proofs.lemmas.Bool.{false_from_ne_true}
use Rattle.farm_core.proofs.Words.{Event, Acts}
use Rattle.farm_core.proofs.Words.{LAST_STAMP, STAMP_LIMIT, Addr, TxnId, Memory, LeastFree, IsSpent, Node, Found, Locked, Placed, CheckFault, ReadFault}
use Rattle.farm_core.proofs.Words.{LockFault, Entry, Bytes, read_answer, lock_answer, check_answer, NodeState, PinnedBy, HeldBy, MayLock, MayPut, Adds}
use Rattle.farm_core.proofs.Words.{occupancy, IsStamp, plain_of, read_entry, lock_entry, AddsIfMade, Answer, Active, ReadMarks, Reading, Drawn}
use Rattle.farm_core.proofs.Words.{Installing, Refused, Transaction, in_stage, drawn_at, with_read, with_locked, with_same, State, home, node_at, node_of}
use Rattle.farm_core.proofs.Words.{adding, moving, IsAt, HoldsLockAt, found_answer, fault_answer, Reads, Locks, Checks, reading, checked, read_set, Reached}
use Rattle.farm_core.proofs.Words.{NodesStand, StandsOpen, in_list, At, AtClock, Acted, stage_of, read_fault, lock_fault}
use Rattle.farm_node.specs.declared.faults.ReadFault.TheVariants as reading_fault
use Rattle.farm_node.specs.declared.faults.LockFault.TheVariants as locking_fault
use Rattle.farm_node.specs.declared.entry.Entry.TheVariants as entry
use Rattle.farm_core.specs.declared.event.Event.TheVariants as event
use Rattle.farm_core.specs.declared.event.Answer.TheVariants as answer
use Rattle.farm_core.specs.declared.active.Phase.TheVariants as phase
use Rattle.farm_core.proofs.Good.{Good, self_moved, other_stays}
use Rattle.farm_core.proofs.Events.{less_home, read_stamp, write_stamp, is_pinned, locked_held, may_put}
use Rattle.farm_core.proofs.Actives.{in_front, is_last, open_staged, open_drawn, open_like, open_read, open_same, open_locked}
use Rattle.farm_core.proofs.Changes.{Takes, good, old_is, nodes_written, nodes_kept, aside_moved, aside_added, aside_still, at_moved, at_still, held_adding}

module _ (s : State) (r : Reached s) (t : TxnId) (x : Active) (nodes : List Node) (at : At x nodes t s) where
  abbrev y : Transaction
  y = s.transactions t

  g : Good s
  g = good s r

  -- the event is answered so, and afterwards these stand for the state
  abbrev pub Ends : Active → List Node → Event → Result Answer Memory → Type 0
  Ends z after e result = Acted t s e result (λ later. At z after t later × (later.clock ≡ s.clock))

  pub read_low : IsStamp x.read_stamp
  read_low = subst IsStamp (sym at.active.read_stamp) (read_stamp s g t)

  pub write_low : IsStamp x.write_stamp
  write_low = subst IsStamp (sym at.active.write_stamp) (write_stamp s g t)

  pub clock_fits : (clock : ℕ) → clock ≡ s.clock → clock + 1 < 2 ^ 64
  clock_fits clock is = let low : s.clock < STAMP_LIMIT = g.base.clock.1 in omega arith

  pub pinned_at : (n : ℕ) (d : Node) → n < s.nodes → y.is_open ≡ true → PinnedBy (plain_of (get_or nodes n d)) t.actor x.read_stamp
  pinned_at n d less is_open =
      subst (λ (z : NodeState × ℕ). PinnedBy z.0 t.actor z.1) (λ i. (sym (old_is s g nodes at.nodes_stand n d d less) i, sym at.active.read_stamp i)) (is_pinned s g t n less is_open)

  -- what it reads is not locked nor found the same
  module _ (a : Addr) (going : IsAt Reading s t) (free : HoldsLockAt s t a → ⊥) where
    unlocked : y.had_locked a ≡ false
    unlocked = false_from_ne_true (y.had_locked a) (λ locked. free (locked_held s g t a going locked))

    unfound : y.is_same a ≡ false
    unfound = ((g.base.sane t).undrawn going.1).1 a

    pub read_even : (read_set x.reads).read a ≡ (read_set x.reads).unchecked a
    read_even = ap (λ (m : Addr → Bool). m a) at.active.reads ∙ (even (y.has_read a) (y.had_locked a) (y.is_same a) unlocked unfound ∙ sym (ap (λ (m : Addr → Bool). m a) at.active.unchecked)) where
      even : (b l m : Bool) → l ≡ false → m ≡ false → b ≡ (b && not (l || m))
      even true l m first second = sym (ap (λ (k : Bool). not (k || m)) first ∙ ap not second)
      even false l m first second = refl

  -- an event with one entry more, and a change of the transaction
  acted : (n : ℕ) (f : Event) (told : Answer) (e : Entry) (change : Transaction → Transaction) (z : Active) (later : List Node) → NodesStand later s.nodes (adding n e s).logs
      → Acts s f told (moving t change (adding n e s)) → ((u : TxnId) (b : Addr) → Takes u b e → t ≡ u) → StandsOpen z (change y)
      → ((b : Addr) → HoldsLockAt s t b ⊎ Takes t b e → in_list b z.locked.items ≡ true) → Ends z later f (Ok told)
  acted n f told e change z later stand acts own opens held =
      (moving t change (adding n e s), acts, aside_moved s g t n e own change, (at_moved s g t n e change z later stand opens held, refl))

  -- each lock that it holds is listed, with the one that is new
  listed : (z : Active) (a b : Addr) → z.locked.items ≡ x.locked.items ++ a ∷ [] → HoldsLockAt s t b ⊎ (a ≡ b) → in_list b z.locked.items ≡ true
  listed z a b more held = ap (in_list b) more ∙ ⊎_elim
      (λ before. in_front b a x.locked.items (at.held b before))
      (λ same. subst (λ (c : Addr). in_list c (x.locked.items ++ a ∷ []) ≡ true) same (is_last a x.locked.items))
      held

  -- nothing came to pass
  unchanged : (n : ℕ) (d v : Node) (z : Active) → n < s.nodes → plain_of v ≡ plain_of (get_or nodes n d) → z.phase ≡ x.phase → (z.read_stamp ≡ x.read_stamp) × (z.write_stamp ≡ x.write_stamp)
      → read_set z.reads ≡ read_set x.reads → z.locked.items ≡ x.locked.items → At z (set nodes n v) t s × (s.clock ≡ s.clock)
  unchanged n d v z less same phases stamps sets locked = (
    record {
      nodes_stand = nodes_kept s g nodes at.nodes_stand n d v less same;
      active = open_like x y at.active z y.stage (ap stage_of phases ∙ at.active.stage) stamps sets (λ b there. ap (in_list b) (sym locked) ∙ there);
      held = λ b held. ap (in_list b) locked ∙ at.held b held;
    },
    refl,
  )

  -- draw

  pub draw_spent : (clock : ℕ) → clock ≡ s.clock → clock ≡ LAST_STAMP → Acted t s (event.Draw t) (Ok answer.Spent) (AtClock (record x { phase = phase.Refused }) nodes clock t)
  draw_spent clock is full = (
    moving t (in_stage Refused) s,
    inr (sym is ∙ full, (refl, refl)),
    aside_still s g t (in_stage Refused),
    record { standing = at_still s g t (in_stage Refused) _ nodes at.nodes_stand (open_staged x y at.active phase.Refused) at.held; clock_is = is },
  )

  pub draw_stamp : (clock : ℕ) → clock ≡ s.clock → clock ≢ LAST_STAMP
      → Acted t s (event.Draw t) (Ok (answer.Stamp (clock + 1))) (AtClock (record x { phase = phase.Drawn; write_stamp = clock + 1 }) nodes (clock + 1) t)
  draw_stamp clock is more = (
    moving t (drawn_at (s.clock + 1)) (record s { clock = s.clock + 1 }),
    inl (less, (ap (λ (n : ℕ). answer.Stamp (n + 1)) is, refl)),
    record { nodes = refl; begins = refl; loading = refl; others = λ u. other_stays t u (drawn_at (s.clock + 1) y) s.transactions; held = λ u a other held. held },
    record {
      standing = record {
        nodes_stand = at.nodes_stand;
        active = subst (StandsOpen z) (sym (self_moved t (drawn_at (s.clock + 1) y) s.transactions))
            (subst (λ (w : ℕ). StandsOpen z (drawn_at w y)) (ap (λ (n : ℕ). n + 1) is) (open_drawn x y at.active (clock + 1)));
        held = at.held;
      };
      clock_is = ap (λ (n : ℕ). n + 1) is;
    },
  ) where
    z : Active
    z = record x { phase = phase.Drawn; write_stamp = clock + 1 }

    less : s.clock < LAST_STAMP
    less = let low : s.clock < STAMP_LIMIT = g.base.clock.1 in omega arith

  module _ (a : Addr) (n : ℕ) (d : Node) (is : n ≡ a.region % length nodes) where
    abbrev old : Node
    old = get_or nodes n d

    n_is : n ≡ home s a
    n_is = is ∙ ap (λ (k : ℕ). a.region % k) at.nodes_stand.number

    less : n < s.nodes
    less = subst (λ (m : ℕ). m < s.nodes) (sym n_is) (less_home s g a)

    here : plain_of old ≡ node_of s a
    here = old_is s g nodes at.nodes_stand n d d less ∙ ap (node_at s) n_is

    pub pinned_here : y.is_open ≡ true → PinnedBy (plain_of old) t.actor x.read_stamp
    pinned_here = pinned_at n d less

    pub held_here : HoldsLockAt s t a → HeldBy (plain_of old) t a
    held_here = subst (λ (p : NodeState). HeldBy p t a) (sym here)

    pub free_here : (HoldsLockAt s t a → ⊥) → HeldBy (plain_of old) t a → ⊥
    free_here free held = free (subst (λ (p : NodeState). HeldBy p t a) here held)

    pub may_lock_here : MayLock (node_of s a) t a y.read_stamp → MayLock (plain_of old) t a x.read_stamp
    may_lock_here = subst (λ (z : NodeState × ℕ). MayLock z.0 t a z.1) (λ i. (sym here i, sym at.active.read_stamp i))

    pub may_put_here : (IsAt Drawn s t ⊎ IsAt Installing s t) → HoldsLockAt s t a → MayPut (plain_of old) t a x.write_stamp
    may_put_here going has = subst (λ (z : NodeState × ℕ). MayPut z.0 t a z.1) (λ i. (sym here i, sym at.active.write_stamp i)) (may_put s g t a going has)

    module _ (v : Node) where
      written : (e : Entry) → Adds (plain_of old) e (plain_of v) → NodesStand (set nodes n v) s.nodes (adding (home s a) e s).logs
      written e adds = subst (λ (m : ℕ). NodesStand (set nodes n v) s.nodes (adding m e s).logs) n_is (nodes_written s g nodes at.nodes_stand n d v less e adds)

      -- an event whose entry gives no lock
      quiet : (f : Event) (told : Answer) (e : Entry) (change : Transaction → Transaction) (z : Active) → Adds (plain_of old) e (plain_of v) → Acts s f told (moving t change (adding (home s a) e s))
          → ((u : TxnId) (b : Addr) → Takes u b e → ⊥) → StandsOpen z (change y) → z.locked.items ≡ x.locked.items → Ends z (set nodes n v) f (Ok told)
      quiet f told e change z adds acts none opens same = acted (home s a) f told e change z _ (written e adds) acts (λ u b takes. absurd (none u b takes)) opens
          (λ b held. ap (in_list b) same ∙ ⊎_elim (at.held b) (λ takes. absurd (none t b takes)) held)

      -- check

      check_acts : (result : Result (Unit {0}) CheckFault) (told : Answer) (change : Transaction → Transaction) (z : Active) → Adds (plain_of old) (entry.Check t a x.read_stamp x.write_stamp result) (plain_of v)
          → Checks s t a y.read_stamp y.write_stamp result told (moving t change (adding (home s a) (entry.Check t a y.read_stamp y.write_stamp result) s))
          → StandsOpen z (change y) → z.locked.items ≡ x.locked.items → Ends z (set nodes n v) (event.Check t a) (Ok told)
      check_acts result told change z adds acts = quiet (event.Check t a) told (entry.Check t a y.read_stamp y.write_stamp result) change z
          (subst (λ (w : ℕ × ℕ). Adds (plain_of old) (entry.Check t a w.0 w.1 result) (plain_of v)) (λ i. (at.active.read_stamp i, at.active.write_stamp i)) adds)
          (subst (λ (w : Result (Unit {0}) CheckFault). Checks s t a y.read_stamp y.write_stamp w told (moving t change (adding (home s a) (entry.Check t a y.read_stamp y.write_stamp result) s))) (adds.fits.due ∙ (λ i. check_answer (at.active.read_stamp i) ((here i).cells a))) acts)
          (λ u b takes. takes)

      pub check_same : (reads : ReadMarks) → Adds (plain_of old) (entry.Check t a x.read_stamp x.write_stamp (Ok tt)) (plain_of v) → read_set reads ≡ checked a (read_set x.reads)
          → Ends (record x { reads = reads }) (set nodes n v) (event.Check t a) (Ok answer.Same)
      check_same reads adds sets = check_acts (Ok tt) answer.Same (with_same a) _ adds (refl, refl) (open_same x y at.active a reads sets) refl

      pub check_refused : (fault : CheckFault) (told : Answer) → told ≡ fault_answer fault → Adds (plain_of old) (entry.Check t a x.read_stamp x.write_stamp (Err fault)) (plain_of v)
          → Ends (record x { phase = phase.Refused }) (set nodes n v) (event.Check t a) (Ok told)
      check_refused fault told says adds = check_acts (Err fault) told (in_stage Refused) _ adds (says, refl) (open_staged x y at.active phase.Refused) refl

      -- put

      pub put_acts : Adds (plain_of old) (entry.Put t a x.write_stamp) (plain_of v) → Ends (record x { phase = phase.Installing }) (set nodes n v) (event.Put t a) (Ok answer.Put)
      put_acts adds = quiet (event.Put t a) answer.Put (entry.Put t a y.write_stamp) (in_stage Installing) _
          (subst (λ (w : ℕ). Adds (plain_of old) (entry.Put t a w) (plain_of v)) at.active.write_stamp adds) (refl, refl) (λ u b takes. takes) (open_staged x y at.active phase.Installing) refl

      pub unlock_acts : Adds (plain_of old) (entry.Unlock t a) (plain_of v) → Ends (record x { phase = phase.Refused }) (set nodes n v) (event.Unlock t a) (Ok answer.Unlocked)
      unlock_acts adds = quiet (event.Unlock t a) answer.Unlocked (entry.Unlock t a) (in_stage Refused) _ adds (refl, refl) (λ u b takes. takes) (open_staged x y at.active phase.Refused) refl

      -- lock

      module _ (new copy : Option Bytes) (same : copy ≡ new) where
        lock_adds : (result : Result Locked CheckFault) → Adds (plain_of old) (entry.Lock t a x.read_stamp copy result) (plain_of v) → Adds (plain_of old) (entry.Lock t a y.read_stamp new result) (plain_of v)
        lock_adds result = subst (λ (z : ℕ × Option Bytes). Adds (plain_of old) (entry.Lock t a z.0 z.1 result) (plain_of v)) (λ i. (at.active.read_stamp i, same i))

        lock_acts : (result : Result Locked CheckFault) (told : Answer) (later : State) → Adds (plain_of old) (entry.Lock t a x.read_stamp copy result) (plain_of v)
            → Locks s t a y.read_stamp new result told later → Acts s (event.Lock t a new) told later
        lock_acts result told later adds = subst (λ (w : Result Locked CheckFault). Locks s t a y.read_stamp new w told later) (adds.fits.due ∙ (λ i. lock_answer t (at.active.read_stamp i) ((here i).cells a)))

        pub lock_given : (z : Active) (given : Locked) → Adds (plain_of old) (entry.Lock t a x.read_stamp copy (Ok given)) (plain_of v)
            → (z.phase ≡ x.phase) × (z.read_stamp ≡ x.read_stamp) × (z.write_stamp ≡ x.write_stamp) → read_set z.reads ≡ checked a (read_set x.reads)
            → z.locked.items ≡ x.locked.items ++ a ∷ [] → Ends z (set nodes n v) (event.Lock t a new) (Ok (answer.Locked given.seen given.bound))
        lock_given z given adds like sets more = acted (home s a) (event.Lock t a new) (answer.Locked given.seen given.bound) (entry.Lock t a y.read_stamp new (Ok given)) (with_locked a) z _ (written _ (lock_adds (Ok given) adds))
            (lock_acts (Ok given) _ _ adds (refl, refl)) (λ u b takes. takes.0) (open_locked x y at.active a z like sets more)
            (λ b held. listed z a b more (⊎_elim (λ before. inl before) (λ takes. inr takes.1) held))

        fault_gives : (fault : LockFault) (why : CheckFault) → lock_fault fault ≡ Ok why → AddsIfMade (plain_of old) (lock_entry t a x.read_stamp copy (Err fault)) (plain_of v)
            → Adds (plain_of old) (entry.Lock t a x.read_stamp copy (Err why)) (plain_of v)
        fault_gives locking_fault.Memory why is gives = absurd (cc)
        fault_gives fault why is gives = subst (λ (w : Result CheckFault Memory). elim w as (λ _. Type 0) [ Ok f ↦ Adds (plain_of old) (entry.Lock t a x.read_stamp copy (Err f)) (plain_of v) | Err m ↦ Unit {0} ]) is gives

        pub lock_refused : (z : Active) (fault : LockFault) (why : CheckFault) (told : Answer) → lock_fault fault ≡ Ok why → told ≡ fault_answer why
            → AddsIfMade (plain_of old) (lock_entry t a x.read_stamp copy (Err fault)) (plain_of v) → stage_of z.phase ≡ Refused
            → (z.read_stamp ≡ x.read_stamp) × (z.write_stamp ≡ x.write_stamp) → read_set z.reads ≡ read_set x.reads → z.locked.items ≡ x.locked.items
            → Ends z (set nodes n v) (event.Lock t a new) (Ok told)
        lock_refused z fault why told is says gives stage stamps sets locked = let adds = fault_gives fault why is gives in
            quiet (event.Lock t a new) told (entry.Lock t a y.read_stamp new (Err why)) (in_stage Refused) z (lock_adds (Err why) adds) (lock_acts (Err why) told _ adds (says, refl)) (λ u b takes. takes)
            (open_like x y at.active z Refused stage stamps sets (λ b there. ap (in_list b) (sym locked) ∙ there)) locked

        no_lock_memory : (fault : LockFault) (m : Memory) → lock_fault fault ≡ Err m → AddsIfMade (plain_of old) (lock_entry t a x.read_stamp copy (Err fault)) (plain_of v) → plain_of v ≡ plain_of old
        no_lock_memory locking_fault.Memory m is same = same
        no_lock_memory fault m is gives = absurd (cc)

        pub lock_failed : (z : Active) (fault : LockFault) (m : Memory) → lock_fault fault ≡ Err m → AddsIfMade (plain_of old) (lock_entry t a x.read_stamp copy (Err fault)) (plain_of v)
            → z.phase ≡ x.phase → (z.read_stamp ≡ x.read_stamp) × (z.write_stamp ≡ x.write_stamp) → read_set z.reads ≡ read_set x.reads → z.locked.items ≡ x.locked.items
            → At z (set nodes n v) t s × (s.clock ≡ s.clock)
        lock_failed z fault m is gives = unchanged n d v z less (no_lock_memory fault m is gives)

      -- read

      module _ (going : IsAt Reading s t) (free : HoldsLockAt s t a → ⊥) where
        read_adds : (result : Result Found TxnId) → Adds (plain_of old) (entry.Read t.actor a x.read_stamp result) (plain_of v) → Adds (plain_of old) (entry.Read t.actor a y.read_stamp result) (plain_of v)
        read_adds result = subst (λ (r : ℕ). Adds (plain_of old) (entry.Read t.actor a r result) (plain_of v)) at.active.read_stamp

        read_acts : (result : Result Found TxnId) (told : Answer) (later : State) → Adds (plain_of old) (entry.Read t.actor a x.read_stamp result) (plain_of v)
            → Reads s t a y.read_stamp result told later → Acts s (event.Read t a) told later
        read_acts result told later adds = subst (λ (w : Result Found TxnId). Reads s t a y.read_stamp w told later) (adds.fits.2 ∙ (λ i. read_answer (at.active.read_stamp i) ((here i).cells a)))

        pub read_found : (reads : ReadMarks) (found : Found) (told : Answer) → told ≡ found_answer found → read_set reads ≡ reading a (read_set x.reads)
            → Adds (plain_of old) (entry.Read t.actor a x.read_stamp (Ok found)) (plain_of v) → Ends (record x { reads = reads }) (set nodes n v) (event.Read t a) (Ok told)
        read_found reads found told says sets adds = quiet (event.Read t a) told (entry.Read t.actor a y.read_stamp (Ok found)) (with_read a) _ (read_adds (Ok found) adds) (read_acts (Ok found) told _ adds (says, refl))
            (λ u b takes. takes) (open_read x y at.active a reads (unlocked a going free) (unfound a going free) sets) refl

        held_gives : (fault : ReadFault) (by : TxnId) → read_fault fault ≡ Ok by → AddsIfMade (plain_of old) (read_entry t.actor a x.read_stamp (Err fault)) (plain_of v)
            → Adds (plain_of old) (entry.Read t.actor a x.read_stamp (Err by)) (plain_of v)
        held_gives (reading_fault.Held who) by is gives = subst (λ (w : Result TxnId Memory). elim w as (λ _. Type 0) [ Ok u ↦ Adds (plain_of old) (entry.Read t.actor a x.read_stamp (Err u)) (plain_of v) | Err m ↦ Unit {0} ]) is gives
        held_gives reading_fault.Memory by is gives = absurd (cc)

        pub read_held : (reads : ReadMarks) (fault : ReadFault) (by : TxnId) → read_fault fault ≡ Ok by → read_set reads ≡ read_set x.reads
            → AddsIfMade (plain_of old) (read_entry t.actor a x.read_stamp (Err fault)) (plain_of v) → Ends (record x { reads = reads }) (set nodes n v) (event.Read t a) (Ok (answer.Held by))
        read_held reads fault by is sets gives = (
          adding (home s a) e s,
          read_acts (Err by) (answer.Held by) _ adds (refl, refl),
          aside_added s g t (home s a) e (λ u b takes. absurd takes),
          (
            record {
              nodes_stand = written e (read_adds (Err by) adds);
              active = open_like x y at.active (record x { reads = reads }) y.stage at.active.stage (refl, refl) sets (λ b there. there);
              held = λ b has. ⊎_elim (at.held b) (λ takes. absurd takes) (held_adding s g (home s a) e t b has);
            },
            refl,
          ),
        ) where
          e : Entry
          e = entry.Read t.actor a y.read_stamp (Err by)

          adds : Adds (plain_of old) (entry.Read t.actor a x.read_stamp (Err by)) (plain_of v)
          adds = held_gives fault by is gives

        no_read_memory : (fault : ReadFault) (m : Memory) → read_fault fault ≡ Err m → AddsIfMade (plain_of old) (read_entry t.actor a x.read_stamp (Err fault)) (plain_of v) → plain_of v ≡ plain_of old
        no_read_memory (reading_fault.Held who) m is gives = absurd (cc)
        no_read_memory reading_fault.Memory m is same = same

        pub read_failed : (reads : ReadMarks) (fault : ReadFault) (m : Memory) → read_fault fault ≡ Err m → read_set reads ≡ read_set x.reads
            → AddsIfMade (plain_of old) (read_entry t.actor a x.read_stamp (Err fault)) (plain_of v) → At (record x { reads = reads }) (set nodes n v) t s × (s.clock ≡ s.clock)
        read_failed reads fault m is sets gives = unchanged n d v _ less (no_read_memory fault m is gives) refl (refl, refl) sets refl

  -- alloc

  module _ (n : ℕ) (d v : Node) (less : n < length nodes) (bytes copy : Bytes) (same : copy ≡ bytes) where
    abbrev given : Node
    given = get_or nodes n d

    is_node : n < s.nodes
    is_node = let number : length nodes ≡ s.nodes = at.nodes_stand.number in omega arith

    given_is : plain_of given ≡ node_at s n
    given_is = old_is s g nodes at.nodes_stand n d d is_node

    pub alloc_placed : (z : Active) (placed : Placed) → Adds (plain_of given) (entry.Alloc t x.read_stamp copy placed) (plain_of v)
        → (z.phase ≡ x.phase) × (z.read_stamp ≡ x.read_stamp) × (z.write_stamp ≡ x.write_stamp) → read_set z.reads ≡ checked placed.at (read_set x.reads)
        → z.locked.items ≡ x.locked.items ++ placed.at ∷ [] → Ends z (set nodes n v) (event.Alloc t n bytes) (Ok (answer.Placed placed.at placed.bound))
    alloc_placed z placed adds like sets more = acted n (event.Alloc t n bytes) (answer.Placed placed.at placed.bound) e (with_locked placed.at) z _
        (nodes_written s g nodes at.nodes_stand n d v is_node e
        (subst (λ (w : ℕ × Bytes × ℕ). Adds (plain_of given) (entry.Alloc t w.0 w.1 (record { at = placed.at; bound = w.2 })) (plain_of v)) (λ i. (at.active.read_stamp i, same i, bound_is i)) adds))
        (inl (placed.at, subst (λ (p : NodeState). LeastFree (occupancy p) placed.at) given_is adds.fits.2, (ap (answer.Placed placed.at) bound_is, refl)))
        (λ u b takes. takes.0)
        (open_locked x y at.active placed.at z like sets more)
        (λ b held. listed z placed.at b more (⊎_elim (λ before. inl before) (λ takes. inr takes.1) held)) where
          bound_is : placed.bound ≡ max (node_at s n).past y.read_stamp
          bound_is = adds.fits.3 ∙ (λ i. max (given_is i).past (at.active.read_stamp i))

          e : Entry
          e = entry.Alloc t y.read_stamp bytes (record { at = placed.at; bound = max (node_at s n).past y.read_stamp })

    pub alloc_spent : (z : Active) → plain_of v ≡ plain_of given → IsSpent (occupancy (plain_of given)) → stage_of z.phase ≡ Refused
        → (z.read_stamp ≡ x.read_stamp) × (z.write_stamp ≡ x.write_stamp) → read_set z.reads ≡ read_set x.reads → z.locked.items ≡ x.locked.items
        → Ends z (set nodes n v) (event.Alloc t n bytes) (Ok answer.Spent)
    alloc_spent z still spent stage stamps sets locked = (
      moving t (in_stage Refused) s,
      inr (subst (λ (p : NodeState). IsSpent (occupancy p)) given_is spent, (refl, refl)),
      aside_still s g t (in_stage Refused),
      (
        at_still s g t (in_stage Refused) z _ (nodes_kept s g nodes at.nodes_stand n d v is_node still)
            (open_like x y at.active z Refused stage stamps sets (λ b there. ap (in_list b) (sym locked) ∙ there)) (λ b held. ap (in_list b) locked ∙ at.held b held),
        refl,
      ),
    )

    pub alloc_failed : (z : Active) → plain_of v ≡ plain_of given → z.phase ≡ x.phase
        → (z.read_stamp ≡ x.read_stamp) × (z.write_stamp ≡ x.write_stamp) → read_set z.reads ≡ read_set x.reads → z.locked.items ≡ x.locked.items
        → At z (set nodes n v) t s × (s.clock ≡ s.clock)
    alloc_failed z = unchanged n d v z is_node

-- where a draw leads
pub ruleset draws = (draw_spent, clock_fits, draw_stamp)
