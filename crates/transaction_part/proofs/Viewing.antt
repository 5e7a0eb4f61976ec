-- What a turn leaves of what a running transaction keeps: opening, reading, making, and writes in the transaction alone.
use Rattle.std.proofs.Common.{◌≡◌, ◌≢◌, ◌⊎◌, ℕ, ◌≤◌, ◌==◌, Bool, true, false, List, [], ◌∷◌, ◌++◌, map, Option, Some, None, Result, Ok, Err, IfOk, OnOk, OnErr, is_some, sym, refl, ap, ◌∙◌, subst, inl, inr, ⊎_elim, append-nil, max, arith}
use Rattle.std.proofs.lemmas.Bool.{cond_both, cond-true, eq-eqb}
use Rattle.std.proofs.lemmas.Option.{same_Some}
use Rattle.std.specs.Option.{option_to_list}
use Rattle.a1_base.specs.declared.place.Addr.{Addr}
use Rattle.a1_base.specs.declared.place.TxnId.{TxnId}
use Rattle.a1_base.specs.Lists.{BeginsWith, IsAmong}
use Rattle.a1_base.specs.Stamps.{IsStamp}
use Rattle.object_region.specs.Occupancy.{IsPlace, same_addr}
use Rattle.farm_node.specs.declared.entry.Entry.{Entry}
use Rattle.farm_node.specs.declared.entry.Entry.TheVariants.{Open, Read, Alloc}
use Rattle.farm_node.specs.declared.entry.Found.{Found}
use Rattle.farm_node.specs.declared.entry.Placed.{Placed}
use Rattle.farm_node.specs.declared.faults.ReadFault.{ReadFault}
use Rattle.farm_node.specs.declared.faults.ReadFault.TheVariants.{Held, Memory}
use Rattle.farm_node.specs.declared.faults.PlaceFault.{PlaceFault}
use Rattle.farm_node.specs.Answers.{read_entry, alloc_entry}
use Rattle.farm_node.specs.Cell.{Bytes, Cell, made_by}
use Rattle.farm_node.specs.NodeState.{NodeState, Fits, Lawful, PinnedBy, HeldBy, HeldNew, after, occupancy, replay}
use Rattle.farm_node.specs.Locks.{Takes}
use Rattle.farm_node.specs.Story.{Story, gives, with_given}
use Rattle.farm_node.proofs.Addresses.{set_self}
use Rattle.farm_node.proofs.Blames.{ranges}
use Rattle.turnstile.specs.declared.keeps.Keeps.{Ghosts}
use Rattle.turnstile.specs.declared.lock.Turnstile.{Turnstile}
use Rattle.turnstile.specs.declared.lock.Pass.{Pass}
use Rattle.turnstile.specs.declared.lock.Turn.{Turn}
use Rattle.turnstile.specs.Passes.{seen, entered}
use Rattle.node_turns.specs.declared.standing.Standing.{Standing}
use Rattle.node_turns.specs.Turned.{GoesOn, IsInside, Sits}
use Rattle.write_set.specs.declared.set.Write.{Write}
use Rattle.write_set.specs.Writes.{Lacks, Overwrites}
use Rattle.transaction_part.specs.Running.{Runs, IsIdle, ReadBytes, WasMade, Ready}
use Rattle.transaction_part.specs.Stories.{own_story, SameStory, SamePuts}
use Rattle.transaction_part.specs.declared.part.Part.{Part}
use Rattle.transaction_part.specs.Part.{log_in, SitsIn, SitsAt, log, written, IsWritten, IsMade, IsRunning}
use Rattle.transaction_part.proofs.Lists.{among_front, among_end, among_last, each_among, all_among, map_set, among_same}
use Rattle.transaction_part.proofs.Places.{Enters, enters}
use Rattle.transaction_part.proofs.Going.{pin_on, pinned_on, held_before, new_on, runs_on, Aside, KeepsPins, fits_there, state_there, held_or, new_there, runs_there}
use Rattle.transaction_part.proofs.Telling.{begins_on, begins_same, begins_then, bytes_grown, grown_kept, made_grown, puts_then, same_puts, same_then, story_on, story_there, value_there}

-- a turn that ended behind one own entry, or none, with the third list
pub record OwnTurn (k : ℕ) (before mid : List Entry) (o : Option Entry) (later : List Entry) : Type 0 where
  pub enters : Enters k before mid
  pub ends : Lawful later
  pub is : later ≡ mid ++ option_to_list o

module _ {g : Ghosts Standing Entry} {lock : Turnstile Standing Entry} {k : ℕ} {place : Option (Pass Standing Entry g)}
    {pass : Pass Standing Entry g} {turn : Turn Standing Entry g} (sits : SitsIn lock k place) (was : place ≡ Some pass)
    (inside : IsInside lock k turn) (goes : GoesOn k (seen pass) (entered turn)) where
  sits_there : Sits lock k pass
  sits_there = subst (Sits lock k) (same_Some sits.0 pass (sym sits.1 ∙ was)) sits.2

  -- of a pass that was taken, and the turn that was begun with it
  pub begun_turn : Enters k (log_in place) (entered turn)
  begun_turn = enters lock k place pass turn was sits_there inside goes

  -- of the turn behind an event, too, and the pass that is left
  pub own_turn : (left : Pass Standing Entry g) {after : Turn Standing Entry g} (o : Option Entry) → IsInside lock k after
      → entered after ≡ entered turn ++ option_to_list o → seen left ≡ entered after
      → OwnTurn k (log_in place) (entered turn) o (seen left)
  own_turn left o outside is seen_is =
      record { enters = begun_turn; ends = subst Lawful (sym seen_is) outside.stands.lawful; is = seen_is ∙ is }

-- what a running transaction keeps of the list, with these writes
pub record Views (t : TxnId) (r : ℕ) (ws : List Write) (log : List Entry) : Type 0 where
  pub runs : Runs t r (IsMade ws) log
  pub ready : (w : Write) → IsAmong w ws → Ready t r log w

-- of its part, and back
pub views_of : {lock : Turnstile Standing Entry} {t : TxnId} {r : ℕ} {part : Part} → IsRunning lock t r part
    → Views t r (written part) (log part)
views_of running = record { runs = running.runs; ready = running.ready }

pub running_of : {lock : Turnstile Standing Entry} {t : TxnId} {r : ℕ} (part : Part) {later : List Entry}
    → SitsAt lock t.actor part → log part ≡ later → Views t r (written part) later → IsRunning lock t r part
running_of {t} {r} part sits is v =
    let here : Views t r (written part) (log part) = subst (Views t r (written part)) (sym is) v in
    record { sits = sits; runs = here.runs; ready = here.ready }

-- a write that may be locked may be locked in each longer list, where its object's lock stays
pub ready_grown : {t : TxnId} {r : ℕ} {log later : List Entry} {w : Write} → BeginsWith later log
    → (HeldNew (replay log) t w.at → HeldNew (replay later) t w.at) → Ready t r log w → Ready t r later w
ready_grown {t} {r} {log} {later} {w} grown new ready = record {
  new = λ m. new (ready.new m);
  made = λ m. grown_kept (made_grown t w.at r log later grown) (ready.made m);
  read = λ m. grown_kept (bytes_grown t.actor w.at r log later grown) (ready.read m);
}

-- through entries of others

module _ {t : TxnId} {r : ℕ} {before mid : List Entry} (e : Enters t.actor before mid) where
  -- the pin
  pub pinned_inside : {P : Addr → Type 0} → Runs t r P before → PinnedBy (replay mid) t.actor r
  pinned_inside runs = pinned_on t.actor before mid e.begins e.ends e.goes r runs.pinned

  -- a write that may be locked
  pub ready_on : {w : Write} → Ready t r before w → Ready t r mid w
  ready_on {w} = ready_grown (begins_on t.actor before mid e.goes)
      (new_on t.actor before mid e.begins e.ends e.goes t w.at refl)

  -- all that a running transaction keeps
  pub views_on : {ws : List Write} → Views t r ws before → Views t r ws mid
  views_on {ws} v = record {
    runs = runs_on t r (IsMade ws) before mid e.begins e.ends e.goes v.runs;
    ready = λ w there. ready_on (v.ready w there);
  }

-- by one own entry

module _ {t : TxnId} {r : ℕ} {mid later : List Entry} (e : Entry) (inner : Lawful mid) (ends : Lawful later)
    (is : later ≡ mid ++ e ∷ []) where
  -- a write that may be locked, and where the entry changes nothing
  pub ready_there : {w : Write} → Aside w.at e → Ready t r mid w → Ready t r later w
  ready_there {w} aside = ready_grown (e ∷ [], is) (new_there mid e later inner ends is t w.at aside)

  -- all that a running transaction keeps: the entry takes no lock, and changes nothing where the transaction writes
  pub views_there : {ws : List Write} → KeepsPins e → ((u : TxnId) (a : Addr) → Takes u a e → ⊥)
      → ((w : Write) → IsAmong w ws → Aside w.at e) → Views t r ws mid → Views t r ws later
  views_there {ws} keeps none aside v = record {
    runs = runs_there mid e later inner ends is t r (IsMade ws) (IsMade ws) keeps
        (λ u a own takes. absurd (none u a takes)) (λ a made _. made) v.runs;
    ready = λ w there. ready_there (aside w there) (v.ready w there);
  }

-- opening

-- whoever is idle may open
pub free_inside : {k : ℕ} {before mid : List Entry} → Enters k before mid → IsIdle k before → (replay mid).pins k ≡ None
free_inside {k} {before} {mid} e idle = pin_on k before mid e.begins e.ends e.goes ∙ idle.pin

module _ {k c pin : ℕ} {before mid later : List Entry} (x : OwnTurn k before mid (Some (Open k c pin)) later) where
  pin_is : (replay later).pins k ≡ Some pin
  pin_is = ap (λ (p : NodeState). p.pins k) (state_there mid (Open k c pin) later x.enters.ends x.ends x.is)
      ∙ cond-true (k == k) (Some pin) ((replay mid).pins k) (eq-eqb k k refl)

  -- it has the pin then, and no lock
  pub runs_open : IsIdle k before → (P : Addr → Type 0) (t : TxnId) (r : ℕ) → t.actor ≡ k → pin ≤ r → Runs t r P later
  runs_open idle P t r own low = record {
    pinned = (pin, ap (replay later).pins own ∙ pin_is, low);
    only = λ u a mine held. ⊎_elim
        (λ (h : HeldBy (replay mid) u a). absurd (idle.locks u a (mine ∙ own)
        (held_before k before mid x.enters.begins x.enters.ends x.enters.goes u a (mine ∙ own) h)))
        (λ (takes : Takes u a (Open k c pin)). absurd takes)
        (held_or mid (Open k c pin) later x.enters.ends x.ends x.is u a held);
  }

  -- the pin is a stamp, at least the clock
  pub pin_stamp : (c ≤ pin) × IsStamp pin
  pin_stamp =
      let fits : Fits (replay mid) (Open k c pin) = fits_there mid (Open k c pin) later x.enters.ends x.ends x.is in
      let top : pin ≡ max c (replay mid).floor = fits.4 in
      let low : c ≤ pin = omega arith in
      (low, ranges.pin later k pin x.ends pin_is)

-- reading

module _ (t : TxnId) (r : ℕ) (a : Addr) {before mid later : List Entry} where
  views_read_there : {ws : List Write} (answer : Result Found ReadFault)
      → OwnTurn t.actor before mid (read_entry t.actor a r answer) later → Lacks ws a → Views t r ws mid → Views t r ws later
  views_read_there {ws} (Ok found) x lacks v =
      views_there (Read t.actor a r (Ok found)) x.enters.ends x.ends x.is tt (λ u b takes. takes)
      (λ w there same. each_among (λ (w : Write). w.at ≢ a) ws w lacks there (sym same)) v
  views_read_there (Err (Held by)) x lacks v =
      views_there (Read t.actor a r (Err by)) x.enters.ends x.ends x.is tt (λ u b takes. takes) (λ w there. tt) v
  views_read_there {ws} (Err Memory) x lacks v = subst (Views t r ws) (sym (x.is ∙ append-nil mid)) v

  -- what a running transaction keeps, through a read of an address that it does not write
  pub views_read : {ws : List Write} (answer : Result Found ReadFault)
      → OwnTurn t.actor before mid (read_entry t.actor a r answer) later → Lacks ws a → Views t r ws before → Views t r ws later
  views_read answer x lacks v = views_read_there answer x lacks (views_on x.enters v)

  story_read_there : (answer : Result Found ReadFault) → OwnTurn t.actor before mid (read_entry t.actor a r answer) later
      → SameStory t.actor mid later
  story_read_there (Ok found) x b = story_there t.actor b mid (Read t.actor a r (Ok found)) later refl x.is
  story_read_there (Err (Held by)) x b = story_there t.actor b mid (Read t.actor a r (Err by)) later refl x.is
  story_read_there (Err Memory) x b = ap (own_story t.actor b) (x.is ∙ append-nil mid)

  -- a read gives and puts nothing
  pub story_read : (answer : Result Found ReadFault) → OwnTurn t.actor before mid (read_entry t.actor a r answer) later
      → SameStory t.actor before later
  story_read answer x =
      same_then t.actor before mid later (story_on t.actor before mid x.enters.goes) (story_read_there answer x)

-- what reads leave, one after another
pub record Stays (lock : Turnstile Standing Entry) (t : TxnId) (r : ℕ) (old new : Part) : Type 0 where
  pub running : IsRunning lock t r new
  pub writes : new.writes ≡ old.writes
  pub grown : BeginsWith (log new) (log old)
  pub quiet : SameStory t.actor (log old) (log new)

-- before the first one, and behind one more
pub stays_here : {lock : Turnstile Standing Entry} {t : TxnId} {r : ℕ} {part : Part} → IsRunning lock t r part
    → Stays lock t r part part
stays_here {part} running = record { running = running; writes = refl; grown = begins_same (log part); quiet = λ a. refl }

pub stays_then : {lock : Turnstile Standing Entry} {t : TxnId} {r : ℕ} {old mid new : Part} → Stays lock t r old mid
    → Stays lock t r mid new → Stays lock t r old new
stays_then {t} {old} {mid} {new} x y = record {
  running = y.running;
  writes = y.writes ∙ x.writes;
  grown = begins_then (log old) (log mid) (log new) x.grown y.grown;
  quiet = same_then t.actor (log old) (log mid) (log new) x.quiet y.quiet;
}

-- making

module _ {t : TxnId} {r : ℕ} {ws : List Write} {before mid later : List Entry} (bytes : Bytes) (old : Views t r ws before) where
  module _ (placed : Placed) (x : OwnTurn t.actor before mid (Some (Alloc t r bytes placed)) later) where
    abbrev e : Entry
    e = Alloc t r bytes placed

    v : Views t r ws mid
    v = views_on x.enters old

    fits : Fits (replay mid) e
    fits = fits_there mid e later x.enters.ends x.ends x.is

    state_is : replay later ≡ after (replay mid) e
    state_is = state_there mid e later x.enters.ends x.ends x.is

    taken : (a : Addr) (c : Cell) → (replay mid).cells a ≡ Some c → a ≡ placed.at → ⊥
    taken a c some same =
        let yes : is_some ((replay mid).cells a) ≡ true = ap (is_some {T = Cell}) some in
        let not : is_some ((replay mid).cells a) ≡ false = ap (λ (z : Addr). is_some ((replay mid).cells z)) same ∙ fits.2.free in
        absurd (cc)

    -- an object is there wherever the transaction writes: one that it made, or one whose bytes it read
    fresh : (w : Write) → IsAmong w ws → w.at ≢ placed.at
    fresh w there same = by w.made refl where
      by : (made : Bool) → w.made ≡ made → ⊥
      by true m = let new = (v.ready w there).new m in taken w.at new.0 new.2 same
      by false m =
          let has = value_there t.actor w.at r mid x.enters.ends v.runs.pinned ((v.ready w there).read m) in
          taken w.at has.0 has.2 same

    new_made : HeldNew (replay later) t placed.at
    new_made = (
      made_by t bytes placed.bound,
      record { by = t; pending = Some bytes },
      ap (λ (p : NodeState). p.cells placed.at) state_is
          ∙ set_self placed.at (Some (made_by t bytes placed.bound)) (replay mid).cells,
      refl,
      refl,
      refl,
    )

    ready_made : (w : Write) → w.at ≡ placed.at → w.made ≡ true → Ready t r later w
    ready_made w at made = record {
      new = λ _. subst (HeldNew (replay later) t) (sym at) new_made;
      made = λ _. ∣ record { before = mid; bytes = bytes; placed = placed; rest = []; is = x.is; at = sym at } ∣₁;
      read = λ m. let no : true ≡ false = sym made ∙ m in absurd (cc);
    }

    puts_made : SamePuts t.actor mid later
    puts_made a = ap (λ (h : Story). h.puts) (story_there t.actor a mid e later refl x.is)
        ∙ cond_both (same_addr placed.at a) (with_given t (gives r (Some bytes)) (own_story t.actor a mid)) (own_story t.actor a mid)
        (λ (h : Story). h.puts ≡ (own_story t.actor a mid).puts) (λ _. refl) (λ _. refl)

    -- the address is one of the node
    pub place_made : IsPlace (occupancy (replay later)) placed.at
    place_made = subst (λ (p : NodeState). IsPlace (occupancy p) placed.at) (sym state_is) fits.2.place

    -- it was not written before
    pub lacks_made : Lacks ws placed.at
    lacks_made = all_among (λ (w : Write). w.at ≢ placed.at) ws fresh

    -- and may be written now
    pub views_made : (w : Write) → w.at ≡ placed.at → w.made ≡ true → Views t r (ws ++ w ∷ []) later
    views_made w at made = record {
      runs = runs_there mid e later x.enters.ends x.ends x.is t r (IsMade ws) (IsMade (ws ++ w ∷ [])) tt
          (λ u a own takes. (sym takes.0, (w, among_end ws w, at ∙ takes.1, made)))
          (λ a m _. (m.0, among_front ws (w ∷ []) m.0 m.1, m.2, m.3)) v.runs;
      ready = λ y there. ⊎_elim
          (λ (front : IsAmong y ws). ready_there e x.enters.ends x.ends x.is (λ same. fresh y front (sym same)) (v.ready y front))
          (λ (same : w ≡ y). subst (Ready t r later) same (ready_made w at made))
          (among_last ws w y there);
    }

  -- what follows where a place was taken, and where none was
  pub if_placed : (Q : Placed → Type 0) (answer : Result Placed PlaceFault)
      → OwnTurn t.actor before mid (alloc_entry t r bytes answer) later
      → ((placed : Placed) → OwnTurn t.actor before mid (Some (Alloc t r bytes placed)) later → Q placed) → IfOk answer Q
  if_placed Q (Ok placed) x follows = follows placed x
  if_placed Q (Err fault) x follows = tt

  pub if_unplaced : (X : Type 0) (answer : Result Placed PlaceFault)
      → OwnTurn t.actor before mid (alloc_entry t r bytes answer) later → (Views t r ws later → X) → OnErr answer X
  if_unplaced X (Ok placed) x follows = tt
  if_unplaced X (Err fault) x follows =
      follows (subst (Views t r ws) (sym (x.is ∙ append-nil mid)) (views_on x.enters old))

  puts_there : (answer : Result Placed PlaceFault) → OwnTurn t.actor before mid (alloc_entry t r bytes answer) later
      → SamePuts t.actor mid later
  puts_there (Ok placed) x = puts_made placed x
  puts_there (Err fault) x = λ a. ap (λ (es : List Entry). (own_story t.actor a es).puts) (x.is ∙ append-nil mid)

  -- it puts nothing
  pub puts_placed : (answer : Result Placed PlaceFault) → OwnTurn t.actor before mid (alloc_entry t r bytes answer) later
      → SamePuts t.actor before later
  puts_placed answer x = puts_then t.actor before mid later
      (same_puts t.actor before mid (story_on t.actor before mid x.enters.goes)) (puts_there answer x)

-- writing

-- what was made and what is ready is told by the addresses of the writes and by which were made
abbrev key : Write → Addr × Bool
key w = (w.at, w.made)

module _ (t : TxnId) (r : ℕ) (log : List Entry) where
  ready_same : (v w : Write) → key v ≡ key w → Ready t r log v → Ready t r log w
  ready_same v w same ready =
      let at : v.at ≡ w.at = ap (λ (k : Addr × Bool). k.0) same in
      let made : v.made ≡ w.made = ap (λ (k : Addr × Bool). k.1) same in
      record {
        new = λ m. subst (HeldNew (replay log) t) at (ready.new (made ∙ m));
        made = λ m. subst (λ (a : Addr). ∥ WasMade t a r log ∥₁) at (ready.made (made ∙ m));
        read = λ m. subst (λ (a : Addr). ∥ ReadBytes t.actor a r log ∥₁) at (ready.read (made ∙ m));
      }

  -- through a change of the writes that keeps what was made
  pub views_kept : (old new : List Write) → ((a : Addr) → IsMade old a → IsMade new a)
      → ((w : Write) → IsAmong w new → Ready t r log w) → Views t r old log → Views t r new log
  views_kept old new made ready v = record {
    runs = record {
      pinned = v.runs.pinned;
      only = λ u a own held. let o = v.runs.only u a own held in (o.0, made a o.1);
    };
    ready = ready;
  }

  views_same : (old new : List Write) → map key new ≡ map key old → Views t r old log → Views t r new log
  views_same old new same v = views_kept old new
      (λ a m. let x = among_same key old new m.0 (sym same) m.1 in
      (x.0, x.1, ap (λ (k : Addr × Bool). k.0) x.2 ∙ m.2, ap (λ (k : Addr × Bool). k.1) x.2 ∙ m.3))
      (λ w there. let x = among_same key new old w same there in ready_same x.0 w x.2 (v.ready x.0 x.1)) v

  views_written : (a : Addr) (value : Option Bytes) (old new : List Write) → Overwrites a value old new
      → IsWritten old a ⊎ ∥ ReadBytes t.actor a r log ∥₁ → Views t r old log → Views t r new log
  views_written a value old new (inl (i, w, is, at, new_is)) may v =
      views_same old new (ap (map key) new_is ∙ map_set key old i w (record w { value = value }) is refl) v
  views_written a value old new (inr (lacks, new_is)) (inl written) v =
      absurd (each_among (λ (w : Write). w.at ≢ a) old written.0 lacks written.1 written.2)
  views_written a value old new (inr (lacks, new_is)) (inr read) v =
      let w : Write = record { at = a; value = value; made = false } in
      subst (λ (ws : List Write). Views t r ws log) (sym new_is) (views_kept old (old ++ w ∷ [])
      (λ b m. (m.0, among_front old (w ∷ []) m.0 m.1, m.2, m.3))
      (λ x there. ⊎_elim (v.ready x) (λ (same : w ≡ x). subst (Ready t r log) same (record {
        new = λ m. let no : false ≡ true = m in absurd (cc);
        made = λ m. let no : false ≡ true = m in absurd (cc);
        read = λ _. read;
      })) (among_last old w x there)) v)

  -- through a write of an address that was written, or read
  pub views_put : {E : Type 0} (result : Result (Unit {0}) E) (a : Addr) (value : Option Bytes) (old new : List Write)
      → OnOk result (Overwrites a value old new) → OnErr result (new ≡ old) → IsWritten old a ⊎ ∥ ReadBytes t.actor a r log ∥₁
      → Views t r old log → Views t r new log
  views_put (Ok u) a value old new put same may v = views_written a value old new put may v
  views_put (Err e) a value old new put same may v = subst (λ (ws : List Write). Views t r ws log) (sym same) v
