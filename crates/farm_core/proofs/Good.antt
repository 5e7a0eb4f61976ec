-- What every state of a run keeps, and the changes that keep it.
use Rattle.std.proofs.Common.{◌≡◌, ◌≢◌, ◌⊎◌, ℕ, ◌<◌, ◌≤◌, nat_lt, eqb, true, false, List, [], ◌∷◌, ◌++◌, Option, Some, None, Ok, sym, refl, ap, ◌∙◌, subst, inl, inr, ⊎_elim, arith, append_assoc}
use Rattle.std.proofs.lemmas.Bool.{both_ways, cond-true, cond-false, cond_both, eqb-true, false_from_ne_true}
use Rattle.farm_core.proofs.Words.{ACTOR_LIMIT, NODE_LIMIT, Addr, TxnId, Start, Entry, same_txn, NodeState, Fits, after, Lawful, replay, IsStamp, Story, story}
use Rattle.farm_core.proofs.Words.{Unbegun, Reading, Drawn, Installing, Transaction, unbegun, State, home, node_at, set_log, adding, adding_to_all}
use Rattle.farm_core.proofs.Words.{set_transaction, moving, counting_begin, loading_over, AllSame}
use Rattle.farm_node.specs.declared.entry.Entry.TheVariants as entry
use Rattle.farm_node.proofs.Sound.{txn_eq, txn_self, sound_end}
use Rattle.farm_node.proofs.Steps.{keeps}
use Rattle.farm_core.proofs.Lists.{lawful_more, replay_more, story_more}
use Rattle.farm_core.proofs.Low.{Low, LowEntry, low_after, low_more}
use Rattle.farm_core.proofs.Held.{Held, Allows, held}

-- a node's list
pub record Listed (clock nodes n : ℕ) (log : List Entry) : Type 0 where
  pub lawful : Lawful log
  pub number : (replay log).node ≡ n
  pub count : (replay log).nodes ≡ nodes
  pub actors : (replay log).actors ≡ ACTOR_LIMIT
  pub low : Low clock (replay log)

-- a transaction's phase
pub record Sane (clock : ℕ) (begins : ℕ → ℕ) (t : TxnId) (x : Transaction) : Type 0 where
  pub fresh : x.stage ≡ Unbegun → x ≡ unbegun
  pub begun : x.stage ≢ Unbegun → (0 < t.actor) × (t.actor ≤ ACTOR_LIMIT) × (t.number ≤ begins t.actor) × (0 < x.read_stamp)
  pub current : x.is_open ≡ true → t.number ≡ begins t.actor
  pub read : x.read_stamp ≤ clock
  pub write : x.write_stamp ≤ clock
  pub undrawn : x.stage ≡ Reading → (x.write_stamp ≡ 0) × ((a : Addr) → x.is_same a ≡ false)
  pub drawn : (x.stage ≡ Drawn) ⊎ (x.stage ≡ Installing) → x.read_stamp < x.write_stamp
  pub all_same : x.stage ≡ Installing → AllSame x

-- a check in the list answered the same
pub record SameIn (log : List Entry) (t : TxnId) (a : Addr) (r w : ℕ) : Type 0 where
  pub before : List Entry
  pub rest : List Entry
  pub is : log ≡ before ++ entry.Check t a r w (Ok tt) ∷ rest

abbrev pub HeldAt : TxnId → Transaction → Addr → List Entry → Type 0
HeldAt t x a log = Held t x a ((replay log).cells a) (replay log).past (replay log).floor (story a log)

abbrev pub SameAt : TxnId → Transaction → Addr → List Entry → Type 0
SameAt t x a log = x.is_same a ≡ true → SameIn log t a x.read_stamp x.write_stamp

abbrev pub IsFirst : List Entry → Type 0
IsFirst log = (m : Start) × (log ≡ entry.Made m ∷ [])

-- all but the pins
pub record Base (s : State) : Type 0 where
  pub count : (0 < s.nodes) × (s.nodes ≤ NODE_LIMIT)
  pub clock : (0 < s.clock) × IsStamp s.clock
  pub lists : (n : ℕ) → n < s.nodes → Listed s.clock s.nodes n (s.logs n)
  pub sane : (t : TxnId) → Sane s.clock s.begins t (s.transactions t)
  pub held : (t : TxnId) → 0 < t.actor → (a : Addr) → HeldAt t (s.transactions t) a (s.logs (home s a))
  pub same : (t : TxnId) (a : Addr) → SameAt t (s.transactions t) a (s.logs (home s a))
  pub apart : (t u : TxnId) → 0 < (s.transactions t).write_stamp → (s.transactions t).write_stamp ≡ (s.transactions u).write_stamp → t ≡ u
  pub first : s.loading ≡ true → ((n : ℕ) → n < s.nodes → IsFirst (s.logs n)) × ((t : TxnId) → s.transactions t ≡ unbegun)

abbrev pub NoneOpen : State → ℕ → Type 0
NoneOpen s k = (u : TxnId) → u.actor ≡ k → (s.transactions u).is_open ≡ false

-- an open transaction is pinned at its read stamp on every node, and an actor that has none open has no pin
pub record Pinned (s : State) : Type 0 where
  pub open_at : (t : TxnId) (n : ℕ) → n < s.nodes → (s.transactions t).is_open ≡ true → (node_at s n).pins t.actor ≡ Some (s.transactions t).read_stamp
  pub none_at : (k n : ℕ) → n < s.nodes → NoneOpen s k → (node_at s n).pins k ≡ None

pub record Good (s : State) : Type 0 where
  pub base : Base s
  pub pins : Pinned s

-- one entry more

abbrev pub NoPin : Entry → Type 0
NoPin (entry.Open k c x) = ⊥
NoPin (entry.Shut k) = ⊥
NoPin e = Unit {0}

after_keeps : (p : NodeState) (e : Entry)
    → ((after p e).node ≡ p.node) × ((after p e).nodes ≡ p.nodes) × ((after p e).actors ≡ p.actors) × (NoPin e → (after p e).pins ≡ p.pins)
after_keeps p (entry.Open k c x) = (refl, refl, refl, λ bare. absurd bare)
after_keeps p (entry.Shut k) = (refl, refl, refl, λ bare. absurd bare)
after_keeps p (entry.Read k b s (Ok found)) = (refl, refl, refl, λ bare. refl)
after_keeps p (entry.Lock u b r value (Ok given)) = (refl, refl, refl, λ bare. refl)
after_keeps p (entry.Check u b r w (Ok same)) = (refl, refl, refl, λ bare. refl)
after_keeps p e = (refl, refl, refl, λ bare. refl)

listed_more : (clock nodes n : ℕ) (log : List Entry) (e : Entry) → Listed clock nodes n log → Fits (replay log) e → LowEntry clock e → Listed clock nodes n (log ++ e ∷ [])
listed_more clock nodes n log e l fits low =
    let is : replay (log ++ e ∷ []) ≡ after (replay log) e = replay_more log e l.lawful in
    let kept = after_keeps (replay log) e in
    record {
      lawful = lawful_more log e l.lawful fits;
      number = ap (λ (p : NodeState). p.node) is ∙ (kept.0 ∙ l.number);
      count = ap (λ (p : NodeState). p.nodes) is ∙ (kept.1 ∙ l.count);
      actors = ap (λ (p : NodeState). p.actors) is ∙ (kept.2 ∙ l.actors);
      low = subst (Low clock) (sym is) (low_after clock (replay log) e fits low l.low);
    }

held_more : (t : TxnId) (x : Transaction) (a : Addr) (log : List Entry) (e : Entry) → Lawful log → Fits (replay log) e → Allows t x e → HeldAt t x a log → HeldAt t x a (log ++ e ∷ [])
held_more t x a log e lawful fits allows h =
    subst (λ (z : NodeState × Story). Held t x a (z.0.cells a) z.0.past z.0.floor z.1) (λ i. (sym (replay_more log e lawful) i, sym (story_more a log e lawful) i))
    (keeps a (Allows t x) (Held t x a) (held t x a) (replay log) (story a log) e (sound_end log lawful) fits allows h)

same_more : (t : TxnId) (a : Addr) (r w : ℕ) (log : List Entry) (e : Entry) → SameIn log t a r w → SameIn (log ++ e ∷ []) t a r w
same_more t a r w log e s = record {
  before = s.before;
  rest = s.rest ++ e ∷ [];
  is = ap (λ (es : List Entry). es ++ e ∷ []) s.is ∙ append_assoc s.before (entry.Check t a r w (Ok tt) ∷ s.rest) (e ∷ []);
}

pub home_low : (s : State) (a : Addr) → 0 < s.nodes → home s a < s.nodes
home_low s a low = omega arith

-- a list that is set, at its node and elsewhere
pub set_at : (P : List Entry → Type 0) (n m : ℕ) (log : List Entry) (logs : ℕ → List Entry) → (n ≡ m → P log) → P (logs m) → P (set_log n log logs m)
set_at P n m log logs here there = cond_both (eqb n m) log (logs m) P (λ is. here (eqb-true n m is)) (λ is. there)

-- each list is as it was, or has the entry behind it, which is so on these nodes alone
pub record Grown (On : ℕ → Type 0) (s : State) (e : Entry) (logs : ℕ → List Entry) : Type 0 where
  pub each : (n : ℕ) → (logs n ≡ s.logs n) ⊎ (On n × (logs n ≡ s.logs n ++ e ∷ []))

pub one_grown : (s : State) (n : ℕ) (e : Entry) → Grown (λ m. n ≡ m) s e (adding n e s).logs
one_grown s n e = record {
  each = λ m. set_at (λ log. (log ≡ s.logs m) ⊎ ((n ≡ m) × (log ≡ s.logs m ++ e ∷ []))) n m (s.logs n ++ e ∷ []) s.logs (λ is. inr (is, ap (λ (k : ℕ). s.logs k ++ e ∷ []) is)) (inl refl);
}

pub all_grown : (s : State) (e : Entry) → Grown (λ n. Unit {0}) s e (adding_to_all e s).logs
all_grown s e = record {
  each = λ n. cond_both (nat_lt n s.nodes) (s.logs n ++ e ∷ []) (s.logs n) (λ log. (log ≡ s.logs n) ⊎ (Unit {0} × (log ≡ s.logs n ++ e ∷ []))) (λ is. inr (tt, refl)) (λ is. inl refl);
}

module _ (On : ℕ → Type 0) (s : State) (e : Entry) (logs : ℕ → List Entry) (grown : Grown On s e logs) where
  pub grown_at : (n : ℕ) (P : List Entry → Type 0) → (On n → P (s.logs n ++ e ∷ [])) → P (s.logs n) → P (logs n)
  grown_at n P more same = ⊎_elim (λ is. subst P (sym is) same) (λ is. subst P (sym is.1) (more is.0)) (grown.each n)

  base_grown : Base s → s.loading ≡ false → ((t : TxnId) → Allows t (s.transactions t) e) → ((n : ℕ) → n < s.nodes → On n → Fits (node_at s n) e) → LowEntry s.clock e
      → Base (record s { logs = logs })
  base_grown b started allows fits low = record {
    count = b.count;
    clock = b.clock;
    lists = λ n less. grown_at n (Listed s.clock s.nodes n) (λ on. listed_more s.clock s.nodes n (s.logs n) e (b.lists n less) (fits n less on) low) (b.lists n less);
    sane = b.sane;
    held = λ t actor a. let less : home s a < s.nodes = home_low s a b.count.0 in
        grown_at (home s a) (HeldAt t (s.transactions t) a)
        (λ on. held_more t (s.transactions t) a (s.logs (home s a)) e (b.lists (home s a) less).lawful (fits (home s a) less on) (allows t) (b.held t actor a))
        (b.held t actor a);
    same = λ t a. grown_at (home s a) (SameAt t (s.transactions t) a) (λ on same. same_more t a _ _ (s.logs (home s a)) e (b.same t a same)) (b.same t a);
    apart = b.apart;
    first = λ loading. absurd (cc);
  }

pub base_adding_to_all : (s : State) (e : Entry) → Base s → s.loading ≡ false → ((t : TxnId) → Allows t (s.transactions t) e) → ((n : ℕ) → n < s.nodes → Fits (node_at s n) e) → LowEntry s.clock e
    → Base (adding_to_all e s)
base_adding_to_all s e b started allows fits = base_grown _ s e _ (all_grown s e) b started allows (λ n less on. fits n less)

-- a change of one transaction, at it and elsewhere

pub moved : (P : TxnId → Transaction → Type 0) (t u : TxnId) (x : Transaction) (transactions : TxnId → Transaction) → P t x → P u (transactions u) → P u (set_transaction t x transactions u)
moved P t u x transactions here there = cond_both (same_txn t u) x (transactions u) (P u) (λ is. subst (λ (z : TxnId). P z x) (txn_eq t u is) here) (λ is. there)

pub self_moved : (t : TxnId) (x : Transaction) (transactions : TxnId → Transaction) → set_transaction t x transactions t ≡ x
self_moved t x transactions = cond-true (same_txn t t) x (transactions t) (txn_self t)

pub other_stays : (t u : TxnId) (x : Transaction) (transactions : TxnId → Transaction) → same_txn t u ≡ false → set_transaction t x transactions u ≡ transactions u
other_stays t u x transactions = cond-false (same_txn t u) x (transactions u)

-- a transaction of another actor
pub another : (t u : TxnId) (k : ℕ) → t.actor ≢ k → u.actor ≡ k → same_txn t u ≡ false
another t u k differ is = false_from_ne_true (same_txn t u) (λ same. differ (ap (λ (v : TxnId). v.actor) (txn_eq t u same) ∙ is))

module _ (s : State) (t : TxnId) (change : Transaction → Transaction) where
  abbrev next : Transaction
  next = change (s.transactions t)

  moved_apart : Base s → ((u : TxnId) → 0 < next.write_stamp → next.write_stamp ≡ (s.transactions u).write_stamp → t ≡ u)
      → (u v : TxnId) → 0 < (set_transaction t next s.transactions u).write_stamp → (set_transaction t next s.transactions u).write_stamp ≡ (set_transaction t next s.transactions v).write_stamp → u ≡ v
  moved_apart b apart u v = moved (λ w x. 0 < x.write_stamp → x.write_stamp ≡ (set_transaction t next s.transactions v).write_stamp → w ≡ v) t u next s.transactions
      (moved (λ w x. 0 < next.write_stamp → next.write_stamp ≡ x.write_stamp → t ≡ w) t v next s.transactions (λ drawn is. refl) (apart v))
      (moved (λ w x. 0 < (s.transactions u).write_stamp → (s.transactions u).write_stamp ≡ x.write_stamp → u ≡ w) t v next s.transactions (λ drawn is. sym (apart u (omega arith) (sym is))) (b.apart u v))

  pub base_moving : Base s → s.loading ≡ false → Sane s.clock s.begins t next
      → ((a : Addr) → 0 < t.actor → HeldAt t next a (s.logs (home s a)))
      → ((a : Addr) → SameAt t next a (s.logs (home s a)))
      → ((u : TxnId) → 0 < next.write_stamp → next.write_stamp ≡ (s.transactions u).write_stamp → t ≡ u)
      → Base (moving t change s)
  base_moving b started sane held same apart = record {
    count = b.count;
    clock = b.clock;
    lists = b.lists;
    sane = λ u. moved (Sane s.clock s.begins) t u next s.transactions sane (b.sane u);
    held = λ u actor a. moved (λ z x. 0 < z.actor → HeldAt z x a (s.logs (home s a))) t u next s.transactions (held a) (λ low. b.held u low a) actor;
    same = λ u a. moved (λ z x. SameAt z x a (s.logs (home s a))) t u next s.transactions (same a) (b.same u a);
    apart = moved_apart b apart;
    first = λ loading. absurd (cc);
  }

-- a later clock, more begins, and the end of loading

pub base_counts : (s : State) (clock : ℕ) (begins : ℕ → ℕ) → Base s → s.clock ≤ clock → IsStamp clock → ((k : ℕ) → s.begins k ≤ begins k)
    → ((t : TxnId) → (s.transactions t).is_open ≡ true → t.number ≡ begins t.actor) → Base (record s { clock = clock; begins = begins })
base_counts s clock begins b le stamp more current = record {
  count = b.count;
  clock = (let some : 0 < s.clock = b.clock.0 in omega arith, stamp);
  lists = λ n less. let l : Listed s.clock s.nodes n (s.logs n) = b.lists n less in
      record { lawful = l.lawful; number = l.number; count = l.count; actors = l.actors; low = low_more s.clock clock (node_at s n) le l.low };
  sane = λ t. let y : Sane s.clock s.begins t (s.transactions t) = b.sane t in record {
    fresh = y.fresh;
    begun = λ begun. let z = y.begun begun in let old : t.number ≤ s.begins t.actor = z.2 in let now : s.begins t.actor ≤ begins t.actor = more t.actor in (z.0, z.1, omega arith, z.3);
    current = current t;
    read = let low : (s.transactions t).read_stamp ≤ s.clock = y.read in omega arith;
    write = let low : (s.transactions t).write_stamp ≤ s.clock = y.write in omega arith;
    undrawn = y.undrawn;
    drawn = y.drawn;
    all_same = y.all_same;
  };
  held = b.held;
  same = b.same;
  apart = b.apart;
  first = b.first;
}

pub base_counting : (s : State) (k : ℕ) → Base s → NoneOpen s k → Base (counting_begin k s)
base_counting s k b none = base_counts s s.clock (counting_begin k s).begins b (omega arith) b.clock.1
    (λ j. cond_both (eqb k j) _ _ (λ n. s.begins j ≤ n) (λ is. omega arith) (λ is. omega arith))
    (λ t is_open. cond_both (eqb k t.actor) _ _ (λ n. t.number ≡ n) (λ is. absurd (both_ways _ (none t (sym (eqb-true k t.actor is))) is_open)) (λ is. (b.sane t).current is_open))

pub base_loading_over : (s : State) → Base s → Base (loading_over s)
base_loading_over s b = record { count = b.count; clock = b.clock; lists = b.lists; sane = b.sane; held = b.held; same = b.same; apart = b.apart; first = λ loading. absurd (cc) }

-- all, with the pins

pub good_adding : (s : State) (n : ℕ) (e : Entry) → Good s → s.loading ≡ false → n < s.nodes → NoPin e → Fits (node_at s n) e → LowEntry s.clock e
    → ((t : TxnId) → Allows t (s.transactions t) e) → Good (adding n e s)
good_adding s n e g started less bare fits low allows = record {
  base = base_grown _ s e _ (one_grown s n e) g.base started allows (λ m lower is. subst (λ (k : ℕ). Fits (node_at s k) e) is fits) low;
  pins = record { open_at = λ t m lower is_open. same t.actor m (g.pins.open_at t m lower is_open); none_at = λ k m lower none. same k m (g.pins.none_at k m lower none) };
} where
  same : (k m : ℕ) {pin : Option ℕ} → (node_at s m).pins k ≡ pin → (node_at (adding n e s) m).pins k ≡ pin
  same k m {pin} is = grown_at _ s e _ (one_grown s n e) m (λ log. (replay log).pins k ≡ pin)
      (λ on. ap (λ (q : NodeState). q.pins k) (replay_more (s.logs m) e (subst (λ (j : ℕ). Lawful (s.logs j)) on (g.base.lists n less).lawful)) ∙ (ap (λ (pins : ℕ → Option ℕ). pins k) ((after_keeps (node_at s m) e).3 bare) ∙ is))
      is

pub good_moving : (s : State) (t : TxnId) (change : Transaction → Transaction) → Good s → s.loading ≡ false
    → (change (s.transactions t)).is_open ≡ (s.transactions t).is_open → (change (s.transactions t)).read_stamp ≡ (s.transactions t).read_stamp
    → Sane s.clock s.begins t (change (s.transactions t))
    → ((a : Addr) → 0 < t.actor → HeldAt t (change (s.transactions t)) a (s.logs (home s a)))
    → ((a : Addr) → SameAt t (change (s.transactions t)) a (s.logs (home s a)))
    → ((u : TxnId) → 0 < (change (s.transactions t)).write_stamp → (change (s.transactions t)).write_stamp ≡ (s.transactions u).write_stamp → t ≡ u)
    → Good (moving t change s)
good_moving s t change g started same_open same_read sane held same apart = record {
  base = base_moving s t change g.base started sane held same apart;
  pins = record {
    open_at = λ u n less. moved (λ z x. x.is_open ≡ true → (node_at s n).pins z.actor ≡ Some x.read_stamp) t u (change (s.transactions t)) s.transactions
        (λ is_open. g.pins.open_at t n less (sym same_open ∙ is_open) ∙ ap Some (sym same_read))
        (g.pins.open_at u n less);
    none_at = λ k n less none. g.pins.none_at k n less (λ u actor. sym (moved (λ z x. x.is_open ≡ (s.transactions z).is_open) t u (change (s.transactions t)) s.transactions same_open refl) ∙ none u actor);
  };
}
