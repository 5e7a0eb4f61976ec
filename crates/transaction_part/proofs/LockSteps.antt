-- The locks of a transaction at a node, one after another.
use Rattle.std.proofs.Common.{◌≡◌, ◌≢◌, ◌⊎◌, ℕ, zero, suc, ◌+◌, ◌<◌, ◌≤◌, max, cond, Bool, true, false, List, [], ◌∷◌, ◌++◌, Option, Some, None, Result, Ok, Err, length, slice_get, slice_set, sym, refl, ap, ◌∙◌, subst, inl, inr, arith, add-one, append-nil}
use Rattle.std.specs.Option.{option_to_list}
use Rattle.std.proofs.Math.Nat.{eq-or-lt_of_le}
use Rattle.std.proofs.lemmas.Bool.{cond_both, cond-true}
use Rattle.std.proofs.lemmas.Option.{none-some, same_Some, slice_get_within}
use Rattle.a1_base.specs.declared.place.Addr.{Addr}
use Rattle.a1_base.specs.declared.place.TxnId.{TxnId}
use Rattle.a1_base.specs.Lists.{BeginsWith, IsAmong}
use Rattle.a1_base.specs.Stamps.{IsStamp}
use Rattle.object_region.specs.Occupancy.{same_addr}
use Rattle.version_chain.specs.Versions.{newest}
use Rattle.farm_node.specs.declared.entry.Locked.{Locked}
use Rattle.farm_node.specs.declared.entry.CheckFault.{CheckFault}
use Rattle.farm_node.specs.declared.entry.CheckFault.TheVariants.{Held, Changed}
use Rattle.farm_node.specs.declared.faults.LockFault.{LockFault}
use Rattle.farm_node.specs.declared.faults.LockFault.TheVariants.{Held as LockHeld, Changed as LockChanged, Memory as NoLockMemory}
use Rattle.farm_node.specs.declared.entry.Entry.{Entry}
use Rattle.farm_node.specs.declared.entry.Entry.TheVariants.{Lock}
use Rattle.farm_node.specs.Answers.{lock_entry}
use Rattle.farm_node.specs.Cell.{Bytes, Cell, same_txn, locked_by, lock_given, lock_answer}
use Rattle.farm_node.specs.NodeState.{NodeState, FitsLock, Lawful, PinnedBy, replay, MayLock}
use Rattle.farm_node.specs.Story.{Given, Story, gives, with_given}
use Rattle.farm_node.proofs.Addresses.{addr_eq, same_self, set_self}
use Rattle.farm_node.proofs.Blames.{ranges}
use Rattle.farm_node.proofs.Replies.{lock_cases}
use Rattle.farm_node.proofs.Sound.{txn_self}
use Rattle.farm_node.proofs.Steps.{askable, Askable}
use Rattle.node_turns.specs.Turned.{GoesOn}
use Rattle.write_set.specs.declared.set.Write.{Write}
use Rattle.write_set.specs.Writes.{AreApart, TakesValue}
use Rattle.transaction_part.specs.Part.{IsMade, IsWritten, addresses}
use Rattle.transaction_part.specs.Running.{Runs, HoldsBelow, WasRefused, LockRefused, Ready}
use Rattle.transaction_part.specs.Stories.{own_story, SamePuts}
use Rattle.transaction_part.specs.Locking.{CanLock, Locks}
use Rattle.transaction_part.proofs.Lists.{among_end, among_at, place_of}
use Rattle.transaction_part.proofs.Going.{runs_on, holds_on, new_on, runs_there, holds_there, new_there, fits_there, state_there}
use Rattle.transaction_part.proofs.Telling.{begins_then, begins_same, begins_on, bytes_grown, made_grown, grown_kept, story_on, story_there, same_puts, puts_then, value_there}

-- the writes of a list

pub none_among : (ws : List Write) (w : Write) → length ws ≡ 0 → IsAmong w ws → ⊥
none_among [] w none there = absurd there
none_among (v ∷ ws) w none there = absurd (omega arith)

among_addresses : (ws : List Write) (w : Write) → IsAmong w ws → IsAmong w.at (addresses ws)
among_addresses [] w there = absurd there
among_addresses (v ∷ ws) w there =
    elim there [ inl is ↦ inl (ap (λ (x : Write). x.at) is) | inr more ↦ inr (among_addresses ws w more) ]

addresses_among : (ws : List Write) (a : Addr) → IsAmong a (addresses ws) → IsWritten ws a
addresses_among [] a there = absurd there
addresses_among (v ∷ ws) a there = elim there [
  | inl is ↦ (v, inl refl, is)
  | inr more ↦ (let w : IsWritten ws a = addresses_among ws a more in (w.0, inr w.1, w.2))
]

-- where the addresses are the same, an address of one list is written by the other
pub written_same : (us ws : List Write) (u : Write) → addresses us ≡ addresses ws → IsAmong u us → IsWritten ws u.at
written_same us ws u same there = addresses_among ws u.at (subst (λ (more : List Addr). IsAmong u.at more) same (among_addresses us u there))

-- the writes with the first n values taken out
abbrev pub emptied : ℕ → List Write → List Write
emptied zero ws = ws
emptied (suc n) [] = []
emptied (suc n) (w ∷ ws) = record w { value = None } ∷ emptied n ws

emptied_here : (n : ℕ) (ws : List Write) → slice_get (emptied n ws) n ≡ slice_get ws n
emptied_here zero ws = refl
emptied_here (suc n) [] = refl
emptied_here (suc n) (w ∷ ws) = emptied_here n ws

pub emptied_length : (n : ℕ) (ws : List Write) → length (emptied n ws) ≡ length ws
emptied_length zero ws = refl
emptied_length (suc n) [] = refl
emptied_length (suc n) (w ∷ ws) = ap suc (emptied_length n ws)

emptied_more : (n : ℕ) (ws : List Write) (w : Write) → slice_get ws n ≡ Some w
    → slice_set (emptied n ws) n (record w { value = None }) ≡ emptied (suc n) ws
emptied_more n [] w is = absurd (none-some w is)
emptied_more zero (v ∷ ws) w is = ap (λ (x : Write). record x { value = None } ∷ ws) (sym (same_Some v w is))
emptied_more (suc n) (v ∷ ws) w is = ap (λ (xs : List Write). record v { value = None } ∷ xs) (emptied_more n ws w is)

emptied_addresses : (n : ℕ) (ws : List Write) → addresses (emptied n ws) ≡ addresses ws
emptied_addresses zero ws = refl
emptied_addresses (suc n) [] = refl
emptied_addresses (suc n) (w ∷ ws) = ap (λ (more : List Addr). w.at ∷ more) (emptied_addresses n ws)

-- the locks of a transaction, in fewer words
pub runs_weaker : (t : TxnId) (r : ℕ) (P Q : Addr → Type 0) (log : List Entry) → ((a : Addr) → P a → Q a) → Runs t r P log → Runs t r Q log
runs_weaker t r P Q log weaker runs = record {
  pinned = runs.pinned;
  only = λ u a own held. let o : (u ≡ t) × P a = runs.only u a own held in (o.0, weaker a o.1);
}

-- what the transaction made, it writes
pub runs_ending : (t : TxnId) (r : ℕ) (ws : List Write) (log : List Entry) → Runs t r (IsMade ws) log → Runs t r (IsWritten ws) log
runs_ending t r ws log = runs_weaker t r (IsMade ws) (IsWritten ws) log (λ a made. (made.0, made.1, made.2))

-- one lock that was given

given_bound : (t : TxnId) (r : ℕ) (given : Locked) (c : Cell) → Ok given ≡ lock_answer t r (Some c) → given.bound ≡ c.bound
given_bound t r given c due = lock_cases t r c (λ (z : Result Locked CheckFault). Ok given ≡ z → given.bound ≡ c.bound)
    (λ k is e. absurd (cc)) (λ above e. absurd (cc))
    (λ is low e. let same : given ≡ lock_given (newest c.versions) c.bound = cc in ap (λ (l : Locked). l.bound) same)
    (λ k is own e. let same : given ≡ lock_given 0 c.bound = cc in ap (λ (l : Locked). l.bound) same) due

module _ (t : TxnId) (b : Addr) (x : Given) (a : Addr) (h : Story) where
  with_given_puts : (cond (same_addr b a) (with_given t x h) h).puts ≡ h.puts
  with_given_puts = cond_both (same_addr b a) (with_given t x h) h (λ (s : Story). s.puts ≡ h.puts) (λ is. refl) (λ is. refl)

  with_given_aside : b ≢ a → cond (same_addr b a) (with_given t x h) h ≡ h
  with_given_aside other =
      cond_both (same_addr b a) (with_given t x h) h (λ (s : Story). s ≡ h) (λ is. absurd (other (addr_eq b a is))) (λ is. refl)

with_given_here : (t : TxnId) (a : Addr) (x : Given) (h : Story) → (cond (same_addr a a) (with_given t x h) h).given t ≡ x
with_given_here t a x h =
    ap (λ (s : Story). s.given t) (cond-true (same_addr a a) (with_given t x h) h (same_self a))
    ∙ cond-true (same_txn t t) x (h.given t) (txn_self t)

-- a bound below one number is below each that is not less
holds_less : (t : TxnId) (a : Addr) (low high : ℕ) (p : NodeState) → low ≤ high → HoldsBelow t a low p → HoldsBelow t a high p
holds_less t a low high p less h =
    let below : h.0.bound < low = h.5 in (h.0, h.1, h.2, h.3, h.4, (let above : h.0.bound < high = omega arith in above))

-- the greater of two stamps is one
max_stamp : (a b : ℕ) → IsStamp a → IsStamp b → IsStamp (max a b)
max_stamp a b p q = omega arith

-- through entries of others
module _ (t : TxnId) (r : ℕ) (before later : List Entry) (begins : Lawful before) (ends : Lawful later) (g : GoesOn t.actor before later) where
  ready_on : (w : Write) → Ready t r before w → Ready t r later w
  ready_on w ready =
      let longer : BeginsWith later before = begins_on t.actor before later g in
      record {
        new = λ m. new_on t.actor before later begins ends g t w.at refl (ready.new m);
        made = λ m. grown_kept (made_grown t w.at r before later longer) (ready.made m);
        read = λ m. grown_kept (bytes_grown t.actor w.at r before later longer) (ready.read m);
      }

  pub can_on : (ws : List Write) → CanLock t r ws before → CanLock t r ws later
  can_on ws can = record {
    runs = runs_on t r (IsMade ws) before later begins ends g can.runs;
    ready = λ w there. ready_on w (can.ready w there);
  }

module _ (t : TxnId) (r : ℕ) (ws : List Write) where
  -- a write of the first n, or one of an object that the transaction made
  abbrev pub LocksTo : ℕ → Addr → Type 0
  LocksTo n a = (i : ℕ) × (w : Write) × (slice_get ws i ≡ Some w) × (w.at ≡ a) × ((i < n) ⊎ (w.made ≡ true))

  -- a write is locked, with a bound at most top, and was given last
  abbrev pub WasLocked : ℕ → List Entry → Write → Type 0
  WasLocked top log w = HoldsBelow t w.at (top + 1) (replay log) × ((own_story t.actor w.at log).given t ≡ gives r w.value)

  -- the first n writes are locked, with bounds at most top, and the others may be locked
  pub record Locking (n top : ℕ) (first log : List Entry) : Type 0 where
    pub runs : Runs t r (LocksTo n) log
    pub top_stamp : IsStamp top
    pub locked : (i : ℕ) (w : Write) → i < n → slice_get ws i ≡ Some w → WasLocked top log w
    pub ready : (i : ℕ) (w : Write) → n ≤ i → slice_get ws i ≡ Some w → Ready t r log w
    pub grown : BeginsWith log first
    pub puts : SamePuts t.actor first log

  pub locking_begins : (log : List Entry) → CanLock t r ws log → Locking 0 0 log log
  locking_begins log can = record {
    runs = runs_weaker t r (IsMade ws) (LocksTo 0) log
        (λ a made. let p : (i : ℕ) × (slice_get ws i ≡ Some made.0) = place_of ws made.0 made.1 in (p.0, made.0, p.1, made.2, inr made.3))
        can.runs;
    top_stamp = omega arith;
    locked = λ i w low is. absurd (omega arith);
    ready = λ i w low is. can.ready w (among_at ws i w is);
    grown = begins_same log;
    puts = λ a. refl;
  }

  locking_on : (n top : ℕ) (first before later : List Entry) → Lawful before → Lawful later → GoesOn t.actor before later
      → Locking n top first before → Locking n top first later
  locking_on n top first before later begins ends g x = record {
    runs = runs_on t r (LocksTo n) before later begins ends g x.runs;
    top_stamp = x.top_stamp;
    locked = λ i w low is. let y : WasLocked top before w = x.locked i w low is in (
      holds_on t.actor before later begins ends g t w.at (top + 1) refl y.0,
      ap (λ (s : Story). s.given t) (story_on t.actor before later g w.at) ∙ y.1,
    );
    ready = λ i w low is. ready_on t r before later begins ends g w (x.ready i w low is);
    grown = begins_then first before later x.grown (begins_on t.actor before later g);
    puts = puts_then t.actor first before later x.puts (same_puts t.actor before later (story_on t.actor before later g));
  }

  runs_emptied : (n m : ℕ) (log : List Entry) → Runs t r (LocksTo n) log → Runs t r (IsWritten (emptied m ws)) log
  runs_emptied n m log = runs_weaker t r (LocksTo n) (IsWritten (emptied m ws)) log (λ a l.
      let w : IsWritten (emptied m ws) l.1.at =
      written_same ws (emptied m ws) l.1 (sym (emptied_addresses m ws)) (among_at ws l.0 l.1 l.2) in
      (w.0, w.1, w.2 ∙ l.3))

  -- all of them are locked
  pub locking_ends : (n top : ℕ) (first log : List Entry) → n ≡ length ws → Locking n top first log → Locks t r ws (emptied n ws) first log (Ok top)
  locking_ends n top first log all x = record {
    runs = runs_emptied n n log x.runs;
    top = x.top_stamp;
    holds = λ w above y there.
        let v : IsWritten ws y.at = written_same (emptied n ws) ws y (emptied_addresses n ws) there in
        subst (λ (a : Addr). HoldsBelow t a w (replay log)) v.2
        (holds_less t v.0.at (top + 1) w (replay log) (omega arith) (each v.0 v.1).0);
    gave = λ v there. (each v there).1;
    fault = tt;
    same = emptied_addresses n ws;
    grown = x.grown;
    puts = x.puts;
  } where
    each : (v : Write) → IsAmong v ws → WasLocked top log v
    each v there =
        let p : (i : ℕ) × (slice_get ws i ≡ Some v) = place_of ws v there in
        let within : p.0 < length ws = slice_get_within ws p.0 v p.1 in
        x.locked p.0 v (omega arith) p.1

  -- the next lock: entries of others come in between, and the value of its write is taken out
  module _ (apart : AreApart ws) (n top : ℕ) (first before middle : List Entry) (old left : List Write) (value : Option Bytes) (w : Write)
      (begins : Lawful before) (between : Lawful middle) (g : GoesOn t.actor before middle) (was : Locking n top first before)
      (was_left : old ≡ emptied n ws) (at : slice_get old n ≡ Some w) (takes : TakesValue n value old left) where
    x : Locking n top first middle
    x = locking_on n top first before middle begins between g was

    here : slice_get ws n ≡ Some w
    here = sym (emptied_here n ws) ∙ (ap (λ (xs : List Write). slice_get xs n) (sym was_left) ∙ at)

    taken : takes.0 ≡ w
    taken = same_Some takes.0 w (sym takes.1 ∙ at)

    pub next_left : left ≡ emptied (n + 1) ws
    next_left =
        takes.3
        ∙ (ap (λ (v : Write). slice_set old n (record v { value = None })) taken
        ∙ (ap (λ (xs : List Write). slice_set xs n (record w { value = None })) was_left
        ∙ (emptied_more n ws w here ∙ ap (λ (m : ℕ). emptied m ws) (sym (add-one n)))))

    pub next_pinned : PinnedBy (replay middle) t.actor r
    next_pinned = x.runs.pinned

    pub next_may : MayLock (replay middle) t w.at r
    next_may = by w.made refl where
      by : (made : Bool) → w.made ≡ made → MayLock (replay middle) t w.at r
      by true m = inr ((x.ready n w (omega arith) here).new m)
      by false m = inl (
        value_there t.actor w.at r middle between x.runs.pinned ((x.ready n w (omega arith) here).read m),
        λ held.
            let l : LocksTo n w.at = (x.runs.only t w.at refl held).1 in
            let same : l.0 ≡ n = apart l.0 n l.1 w l.2 here l.3 in
            elim l.4 [
              | inl low ↦ (let less : l.0 < n = low in absurd (omega arith))
              | inr made ↦ (
                  let one : l.1 ≡ w = same_Some l.1 w (sym l.2 ∙ (ap (slice_get ws) same ∙ here)) in
                  let yes : w.made ≡ true = ap (λ (z : Write). z.made) (sym one) ∙ made in
                  absurd (cc))
            ],
      )

    module _ (later : List Entry) (answer : Result Locked LockFault) (ends : Lawful later)
        (told : later ≡ middle ++ option_to_list (lock_entry t w.at r value answer)) where
      told_as : (o : Result Locked LockFault) → answer ≡ o → later ≡ middle ++ option_to_list (lock_entry t w.at r w.value o)
      told_as o is =
          told
          ∙ (ap (λ (v : Option Bytes). middle ++ option_to_list (lock_entry t w.at r v answer)) (takes.2 ∙ ap (λ (v : Write). v.value) taken)
          ∙ ap (λ (z : Result Locked LockFault). middle ++ option_to_list (lock_entry t w.at r w.value z)) is)

      -- it is given
      module _ (given : Locked) (is_given : answer ≡ Ok given) where
        abbrev e : Entry
        e = Lock t w.at r w.value (Ok given)

        is : later ≡ middle ++ e ∷ []
        is = told_as (Ok given) is_given

        story_is : (a : Addr) → own_story t.actor a later
            ≡ cond (same_addr w.at a) (with_given t (gives r w.value) (own_story t.actor a middle)) (own_story t.actor a middle)
        story_is a = story_there t.actor a middle e later refl is

        other : (i : ℕ) (y : Write) → i ≢ n → slice_get ws i ≡ Some y → w.at ≢ y.at
        other i y not stands same = not (sym (apart n i w y here stands same))

        now_locked : WasLocked (max given.bound top) later w
        now_locked =
            let p : NodeState = replay middle in
            let fits : FitsLock p t w.at r (Ok given) = fits_there middle e later between ends is in
            let ask : Askable t (p.cells w.at) = askable p t w.at r (Ok given) fits in
            let bound : given.bound ≡ ask.cell.bound = given_bound t r given ask.cell (fits.due ∙ ap (lock_answer t r) ask.is) in (
              (
                record ask.cell { lock = Some (record { by = t; pending = w.value }) },
                record { by = t; pending = w.value },
                ap (λ (q : NodeState). q.cells w.at) (state_there middle e later between ends is)
                    ∙ (set_self w.at (locked_by t w.value (p.cells w.at)) p.cells ∙ ap (locked_by t w.value) ask.is),
                refl,
                refl,
                (let low : ask.cell.bound < max given.bound top + 1 = omega arith in low),
              ),
              ap (λ (s : Story). s.given t) (story_is w.at) ∙ with_given_here t w.at (gives r w.value) (own_story t.actor w.at middle),
            )

        still_locked : (y : Write) → w.at ≢ y.at → WasLocked top middle y → WasLocked (max given.bound top) later y
        still_locked y away l = (
          holds_less t y.at (top + 1) (max given.bound top + 1) (replay later) (omega arith)
              (holds_there middle e later between ends is t y.at (top + 1) away l.0),
          ap (λ (s : Story). s.given t)
              (story_is y.at ∙ with_given_aside t w.at (gives r w.value) y.at (own_story t.actor y.at middle) away) ∙ l.1,
        )

        pub next_given : Locking (n + 1) (max given.bound top) first later
        next_given =
            let longer : BeginsWith later middle = (e ∷ [], is) in
            record {
              runs = runs_there middle e later between ends is t r (LocksTo n) (LocksTo (n + 1)) tt
                  (λ u a own now. (sym now.0, (n, w, here, now.1, inl (omega arith))))
                  (λ a l free. (l.0, l.1, l.2, l.3, elim l.4 [ inl low ↦ inl (omega arith) | inr made ↦ inr made ]))
                  x.runs;
              top_stamp = max_stamp given.bound top (ranges.answered middle [] e (subst Lawful is ends)).1 x.top_stamp;
              locked = λ i y low stands. elim (eq-or-lt_of_le {n = i} {m = n} (omega arith)) [
                | inl same ↦ subst (λ (z : Write). WasLocked (max given.bound top) later z)
                    (same_Some w y (sym here ∙ (ap (slice_get ws) (sym same) ∙ stands))) now_locked
                | inr less ↦ still_locked y (other i y (λ same. omega arith) stands) (x.locked i y less stands)
              ];
              ready = λ i y high stands. let z : Ready t r middle y = x.ready i y (omega arith) stands in record {
                new = λ m. new_there middle e later between ends is t y.at (other i y (λ same. omega arith) stands) (z.new m);
                made = λ m. grown_kept (made_grown t y.at r middle later longer) (z.made m);
                read = λ m. grown_kept (bytes_grown t.actor y.at r middle later longer) (z.read m);
              };
              grown = begins_then first middle later x.grown longer;
              puts = puts_then t.actor first middle later x.puts (λ a.
                  ap (λ (s : Story). s.puts) (story_is a) ∙ with_given_puts t w.at (gives r w.value) a (own_story t.actor a middle));
            }

      -- or it is not
      refused : (fault : LockFault) → Runs t r (LocksTo n) later → LockRefused t w.at r fault later → BeginsWith later middle
          → SamePuts t.actor middle later → Locks t r ws left first later (Err (w.at, fault))
      refused fault runs cause longer quiet = record {
        runs = subst (λ (xs : List Write). Runs t r (IsWritten xs) later) (sym next_left) (runs_emptied n (n + 1) later runs);
        top = tt;
        holds = tt;
        gave = tt;
        fault = cause;
        same = ap addresses next_left ∙ emptied_addresses (n + 1) ws;
        grown = begins_then first middle later x.grown longer;
        puts = puts_then t.actor first middle later x.puts quiet;
      }

      told_fault : (cause : CheckFault) (fault : LockFault) → later ≡ middle ++ Lock t w.at r w.value (Err cause) ∷ []
          → (WasRefused t w.at r cause later → LockRefused t w.at r fault later) → Locks t r ws left first later (Err (w.at, fault))
      told_fault cause fault is tells =
          let e : Entry = Lock t w.at r w.value (Err cause) in
          refused fault
          (runs_there middle e later between ends is t r (LocksTo n) (LocksTo n) tt (λ u a own now. absurd now) (λ a l free. l) x.runs)
          (tells (e, subst (λ (es : List Entry). IsAmong e es) (sym is) (among_end middle e), (refl, refl, refl, refl)))
          (e ∷ [], is) (λ a. ap (λ (s : Story). s.puts) (story_there t.actor a middle e later refl is))

      pub next_refused : (fault : LockFault) → answer ≡ Err fault → Locks t r ws left first later (Err (w.at, fault))
      next_refused (LockHeld by) is = told_fault (Held by) (LockHeld by) (told_as (Err (LockHeld by)) is) (λ cause. cause)
      next_refused (LockChanged seen now) is =
          told_fault (Changed seen now) (LockChanged seen now) (told_as (Err (LockChanged seen now)) is) (λ cause. cause)
      next_refused NoLockMemory is =
          let same : middle ≡ later = sym (told_as (Err NoLockMemory) is ∙ append-nil middle) in
          refused NoLockMemory (subst (λ (es : List Entry). Runs t r (LocksTo n) es) same x.runs) tt
          (subst (λ (es : List Entry). BeginsWith es middle) same (begins_same middle))
          (subst (λ (es : List Entry). SamePuts t.actor middle es) same (λ a. refl))
