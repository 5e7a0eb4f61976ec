-- What a commit leaves.
use Rattle.std.specs.Prelude.{◌≡◌, ◌⊎◌, ℕ, ◌<◌, List, [], ◌∷◌, ◌++◌, Some, slice_get}
use Rattle.a1_base.specs.declared.place.Addr.{Addr}
use Rattle.a1_base.specs.declared.place.TxnId.{TxnId}
use Rattle.a1_base.specs.declared.limits.TheConstants.{LAST_STAMP}
use Rattle.a1_base.specs.Lists.{IsAmong, BeginsWith}
use Rattle.farm_node.specs.declared.entry.CheckFault.{CheckFault}
use Rattle.farm_node.specs.declared.entry.CheckFault.TheVariants.{Held as CheckHeld, Changed as CheckChanged}
use Rattle.farm_node.specs.declared.faults.LockFault.{LockFault}
use Rattle.farm_node.specs.declared.faults.LockFault.TheVariants.{Held as LockHeld, Changed as LockChanged, Memory as NoLockMemory}
use Rattle.snapshot_stamps.specs.declared.seat.StampSeat.{StampSeat}
use Rattle.snapshot_stamps.specs.Seats.{watch}
use Rattle.write_set.specs.declared.set.Write.{Write}
use Rattle.write_set.specs.Writes.{Lacks}
use Rattle.transaction_part.specs.declared.part.Part.{Part}
use Rattle.transaction_part.specs.declared.part.Seen.{Seen}
use Rattle.transaction_part.specs.Part.{log, written}
use Rattle.transaction_part.specs.Running.{WasChecked, WasRefused}
use Rattle.transaction_part.specs.Stories.{own_story, PutsJust, SamePuts}
use Rattle.farm_commit.specs.declared.commit.Commit.{Commit}
use Rattle.farm_commit.specs.declared.commit.Commit.TheVariants.{Done, Changed, Held, Spent, Memory}
use Rattle.farm_commit.specs.Nodes.{Lock, home}
use Rattle.farm_commit.specs.Parts.{EachStep}

-- at its node a commit at w put just what was written, and checked what was read and is not written
pub record PutsThere (t : TxnId) (r w nodes : ℕ) (reads : List Seen) (i : ℕ) (l : Lock) (p q : Part) : Type 0 where
  pub grown : BeginsWith (log q) (log p)
  pub puts : (x : Write) → IsAmong x (written p) → (own_story t.actor x.at (log q)).puts
      ≡ record { by = t; read = r; stamp = w; value = x.value } ∷ (own_story t.actor x.at (log p)).puts
  pub others : (a : Addr) → Lacks (written p) a
      → (own_story t.actor a (log q)).puts ≡ (own_story t.actor a (log p)).puts
  pub checked : (s : Seen) → IsAmong s reads → home nodes s.at ≡ i → Lacks (written p) s.at
      → WasChecked t s.at r w (log q)

-- it put nothing
pub record PutsNone (k i : ℕ) (l : Lock) (p q : Part) : Type 0 where
  pub grown : BeginsWith (log q) (log p)
  pub puts : SamePuts k (log p) (log q)

-- an own entry at some node answered so
abbrev pub IsCaused : TxnId → ℕ → Addr → CheckFault → List Part → Type 0
IsCaused t r a fault parts = (i : ℕ) × (p : Part) × (slice_get parts i ≡ Some p) × WasRefused t a r fault (log p)

-- the seat drew at most one stamp
abbrev pub DrawsOnce : StampSeat → StampSeat → Type 0
DrawsOnce old new = ((watch new).drawn ≡ (watch old).drawn)
    ⊎ ((w : ℕ) × ((watch new).drawn ≡ (watch old).drawn ++ w ∷ []))

-- what the answer of a commit tells of its parts and its seat, before and after
abbrev pub CommitTells : List Lock → ℕ → TxnId → ℕ → List Seen → Commit → List Part → List Part → StampSeat → StampSeat
    → Type 0
CommitTells locks nodes t r reads (Done w) old new before after =
    EachStep locks (PutsThere t r w nodes reads) old new × (r < w)
    × ((watch after).drawn ≡ (watch before).drawn ++ w ∷ [])
CommitTells locks nodes t r reads (Changed object seen now) old new before after =
    EachStep locks (PutsNone t.actor) old new × IsCaused t r object (CheckChanged seen now) new × DrawsOnce before after
CommitTells locks nodes t r reads (Held object by) old new before after =
    EachStep locks (PutsNone t.actor) old new × IsCaused t r object (CheckHeld by) new × DrawsOnce before after
CommitTells locks nodes t r reads Spent old new before after =
    EachStep locks (PutsNone t.actor) old new × ((watch after).known ≡ LAST_STAMP)
    × ((watch after).drawn ≡ (watch before).drawn)
CommitTells locks nodes t r reads Memory old new before after =
    EachStep locks (PutsNone t.actor) old new × ((watch after).drawn ≡ (watch before).drawn)

-- at its node, once all was locked and given, the same of what was last given
pub record InstallsThere (t : TxnId) (r w nodes : ℕ) (reads : List Seen) (i : ℕ) (l : Lock) (p q : Part) : Type 0 where
  pub puts : PutsJust t w (written p) (log p) (log q)
  pub grown : BeginsWith (log q) (log p)
  pub checked : (s : Seen) → IsAmong s reads → home nodes s.at ≡ i → Lacks (written p) s.at
      → WasChecked t s.at r w (log q)

-- what the answer tells once all locks are held
abbrev pub Decides : List Lock → ℕ → TxnId → ℕ → List Seen → Commit → List Part → List Part → StampSeat → StampSeat
    → Type 0
Decides locks nodes t r reads (Done w) old new before after =
    EachStep locks (InstallsThere t r w nodes reads) old new × (r < w)
    × ((watch after).drawn ≡ (watch before).drawn ++ w ∷ [])
Decides locks nodes t r reads answer old new before after =
    CommitTells locks nodes t r reads answer old new before after

-- the answers of refused locks and checks
abbrev pub lock_refusal : Addr → LockFault → Commit
lock_refusal a (LockHeld by) = Held a by
lock_refusal a (LockChanged seen now) = Changed a seen now
lock_refusal a NoLockMemory = Memory

abbrev pub check_refusal : Addr → CheckFault → Commit
check_refusal a (CheckHeld by) = Held a by
check_refusal a (CheckChanged seen now) = Changed a seen now
