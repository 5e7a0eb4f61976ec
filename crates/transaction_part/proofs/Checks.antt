-- One check after another, and what stays through them.
use Rattle.std.proofs.Common.{◌≡◌, ◌≢◌, ℕ, ◌+◌, ◌%◌, List, [], ◌∷◌, ◌++◌, Result, Ok, Err, Some, slice_get, refl, sym, ap, ◌∙◌, subst}
use Rattle.a1_base.specs.declared.place.Addr.{Addr}
use Rattle.a1_base.specs.declared.place.TxnId.{TxnId}
use Rattle.a1_base.specs.Lists.{BeginsWith, IsAmong}
use Rattle.farm_node.specs.declared.entry.CheckFault.{CheckFault}
use Rattle.farm_node.specs.declared.entry.Entry.{Entry}
use Rattle.farm_node.specs.declared.entry.Entry.TheVariants.{Check}
use Rattle.farm_node.specs.NodeState.{HeldBy, Lawful, replay}
use Rattle.turnstile.specs.declared.keeps.Keeps.{Ghosts}
use Rattle.turnstile.specs.declared.lock.Turnstile.{Turnstile}
use Rattle.turnstile.specs.declared.lock.Turn.{Turn}
use Rattle.turnstile.specs.Passes.{entered}
use Rattle.node_turns.specs.declared.standing.Standing.{Standing}
use Rattle.node_turns.specs.Turned.{IsInside, GoesOn}
use Rattle.write_set.specs.declared.set.Write.{Write}
use Rattle.write_set.specs.Writes.{Lacks}
use Rattle.transaction_part.specs.declared.part.Seen.{Seen}
use Rattle.transaction_part.specs.Part.{IsWritten}
use Rattle.transaction_part.specs.Running.{Runs, HoldsBelow, WasChecked, WasRefused}
use Rattle.transaction_part.specs.Stories.{SameStory}
use Rattle.transaction_part.proofs.Going.{Aside, runs_on, runs_there, holds_on, holds_there}
use Rattle.transaction_part.proofs.Telling.{begins_then, begins_on, begins_same, checked_grown, story_on, story_there, same_then}
use Rattle.transaction_part.proofs.Places.{lacks_written}
use Rattle.transaction_part.proofs.Lists.{among_end, Before, before_next}

-- what was read at an address of the node that is not written is checked
abbrev pub CheckedIfRead : TxnId → ℕ → ℕ → ℕ → ℕ → List Write → List Entry → Seen → Type 0
CheckedIfRead t r w node nodes ws log s = s.at.region % nodes ≡ node → Lacks ws s.at → WasChecked t s.at r w log

-- the transaction runs and holds all that it writes, and nothing more was given or put
pub record Keeps (t : TxnId) (r w : ℕ) (ws : List Write) (first now : List Entry) : Type 0 where
  pub runs : Runs t r (IsWritten ws) now
  pub holds : (x : Write) → IsAmong x ws → HoldsBelow t x.at w (replay now)
  pub quiet : SameStory t.actor first now
  pub grown : BeginsWith now first

pub keeps_first : (t : TxnId) (r w : ℕ) (ws : List Write) (first : List Entry) → Runs t r (IsWritten ws) first
    → ((x : Write) → IsAmong x ws → HoldsBelow t x.at w (replay first)) → Keeps t r w ws first first
keeps_first t r w ws first runs holds =
    record { runs = runs; holds = holds; quiet = λ a. refl; grown = begins_same first }

check_aside : (t : TxnId) (b : Addr) (r w : ℕ) (answer : Result (Unit {0}) CheckFault) (a : Addr) → b ≢ a → Aside a (Check t b r w answer)
check_aside t b r w (Ok same) a ne = ne
check_aside t b r w (Err fault) a ne = tt

module _ (t : TxnId) (r w : ℕ) (ws : List Write) (first : List Entry) where
  -- through entries of others
  pub keeps_on : (old mid : List Entry) → Lawful old → Lawful mid → GoesOn t.actor old mid → Keeps t r w ws first old
      → Keeps t r w ws first mid
  keeps_on old mid begins ends g k = record {
    runs = runs_on t r (IsWritten ws) old mid begins ends g k.runs;
    holds = λ x there. holds_on t.actor old mid begins ends g t x.at w refl (k.holds x there);
    quiet = same_then t.actor first old mid k.quiet (story_on t.actor old mid g);
    grown = begins_then first old mid k.grown (begins_on t.actor old mid g);
  }

  -- what is not written is not held
  pub not_own : (mid : List Entry) (a : Addr) → Lacks ws a → Keeps t r w ws first mid → HeldBy (replay mid) t a → ⊥
  not_own mid a lacks k held = lacks_written ws a lacks (k.runs.only t a refl held).1

  keeps_check : (mid new : List Entry) (a : Addr) (answer : Result (Unit {0}) CheckFault) → Lawful mid → Lawful new
      → new ≡ mid ++ Check t a r w answer ∷ [] → Lacks ws a → Keeps t r w ws first mid → Keeps t r w ws first new
  keeps_check mid new a answer begins ends is lacks k = record {
    runs = runs_there mid (Check t a r w answer) new begins ends is t r (IsWritten ws) (IsWritten ws) tt
        (λ u b own takes. absurd takes) (λ b written kept. written) k.runs;
    holds = λ x there. holds_there mid (Check t a r w answer) new begins ends is t x.at w
        (check_aside t a r w answer x.at (λ same. lacks_written ws a lacks (x, there, sym same))) (k.holds x there);
    quiet = same_then t.actor first mid new k.quiet (λ b. story_there t.actor b mid (Check t a r w answer) new refl is);
    grown = begins_then first mid new k.grown (Check t a r w answer ∷ [], is);
  }

  -- through entries of others and a check of what is not written
  pub keeps_next : (old mid new : List Entry) (a : Addr) (answer : Result (Unit {0}) CheckFault) → Lawful old → Lawful mid → Lawful new
      → GoesOn t.actor old mid → new ≡ mid ++ Check t a r w answer ∷ [] → Lacks ws a → Keeps t r w ws first old → Keeps t r w ws first new
  keeps_next old mid new a answer begins on ends g is lacks k =
      keeps_check mid new a answer on ends is lacks (keeps_on old mid begins on g k)

-- a check that was refused is told
pub refused_now : (t : TxnId) (a : Addr) (r w : ℕ) (fault : CheckFault) (answer : Result (Unit {0}) CheckFault) (mid new : List Entry)
    → new ≡ mid ++ Check t a r w answer ∷ [] → answer ≡ Err fault → WasRefused t a r fault new
refused_now t a r w fault answer mid new is refused = (e, subst (IsAmong e) (sym told) (among_end mid e), (refl, refl, refl, refl)) where
  e : Entry
  e = Check t a r w (Err fault)

  told : new ≡ mid ++ Check t a r w (Err fault) ∷ []
  told = is ∙ ap (λ (x : Result (Unit {0}) CheckFault). mid ++ Check t a r w x ∷ []) refused

module _ (t : TxnId) (r w node nodes : ℕ) (ws : List Write) (reads : List Seen) (n : ℕ) (x : Seen) (here : slice_get reads n ≡ Some x) where
  -- a read that needs no check
  pub checked_skip : (now : List Entry) → (x.at.region % nodes ≡ node → Lacks ws x.at → ⊥)
      → Before (CheckedIfRead t r w node nodes ws now) reads n → Before (CheckedIfRead t r w node nodes ws now) reads (n + 1)
  checked_skip now none checked = before_next (CheckedIfRead t r w node nodes ws now) reads n x here
      (λ at lacks. absurd (none at lacks)) checked

  -- a read that was checked and stands
  pub checked_next : (old mid new : List Entry) (answer : Result (Unit {0}) CheckFault) → GoesOn t.actor old mid
      → new ≡ mid ++ Check t x.at r w answer ∷ [] → answer ≡ Ok tt → Before (CheckedIfRead t r w node nodes ws old) reads n
      → Before (CheckedIfRead t r w node nodes ws new) reads (n + 1)
  checked_next old mid new answer g is stands checked =
      before_next (CheckedIfRead t r w node nodes ws new) reads n x here (λ at lacks. record { before = mid; rest = []; is = told })
      (λ i s below there at lacks. checked_grown t s.at r w old new
      (begins_then old mid new (begins_on t.actor old mid g) (Check t x.at r w (Ok tt) ∷ [], told)) (checked i s below there at lacks))
    where
      told : new ≡ mid ++ Check t x.at r w (Ok tt) ∷ []
      told = is ∙ ap (λ (a : Result (Unit {0}) CheckFault). mid ++ Check t x.at r w a ∷ []) stands

-- a turn in which the reads before n were checked
module _ {g : Ghosts Standing Entry} (lock : Turnstile Standing Entry) (t : TxnId) (r w node nodes : ℕ) (ws : List Write) (reads : List Seen) (first : List Entry) (n : ℕ) where
  pub record ChecksTo (turn : Turn Standing Entry g) : Type 0 where
    pub inside : IsInside lock t.actor turn
    pub keeps : Keeps t r w ws first (entered turn)
    pub checked : Before (CheckedIfRead t r w node nodes ws (entered turn)) reads n

  pub checks_same : (new old : Turn Standing Entry g) → new ≡ old → ChecksTo old → ChecksTo new
  checks_same new old same = subst ChecksTo (sym same)
