-- What the steps of a transaction at one node come to.
use Rattle.std.proofs.Common.{◌≡◌, ℕ, ◌+◌, ◌≤◌, List, Option, Some, length, slice_get, inl, sym, refl, ap, ◌∙◌, subst, arith}
use Rattle.a1_base.specs.declared.place.Addr.{Addr}
use Rattle.a1_base.specs.declared.place.TxnId.{TxnId}
use Rattle.farm_node.specs.NodeState.{replay}
use Rattle.transaction_part.specs.declared.part.Part.{Part}
use Rattle.transaction_part.specs.declared.part.Seen.{Seen}
use Rattle.transaction_part.specs.Part.{IsEnding, IsLocked, IsResting, IsRunning, SitsAt, log, log_in}
use Rattle.transaction_part.proofs.Telling.{begins_same}
use Rattle.farm_commit.specs.Nodes.{AreNodes, Lock}
use Rattle.farm_node.specs.declared.entry.CheckFault.{CheckFault}
use Rattle.farm_node.specs.declared.entry.CheckFault.TheVariants.{Held as CheckHeld, Changed as CheckChanged}
use Rattle.farm_node.specs.declared.faults.LockFault.{LockFault}
use Rattle.farm_node.specs.declared.faults.LockFault.TheVariants.{Held as LockHeld, Changed as LockChanged, Memory as NoLockMemory}
use Rattle.snapshot_stamps.specs.declared.seat.StampSeat.{StampSeat}
use Rattle.snapshot_stamps.specs.declared.watch.Watch.{Watch}
use Rattle.snapshot_stamps.specs.Watched.{Learned}
use Rattle.a1_base.specs.Lists.{IsAmong}
use Rattle.farm_commit.specs.Begins.{PinsThere}
use Rattle.farm_commit.specs.Farms.{IsPart}
use Rattle.farm_commit.specs.declared.commit.Commit.{Commit}
use Rattle.farm_commit.specs.declared.commit.Commit.TheVariants.{Done, Changed, Held, Spent, Memory}
use Rattle.farm_commit.specs.Commits.{CommitTells, Decides, DrawsOnce, InstallsThere, IsCaused, PutsNone, PutsThere, check_refusal, lock_refusal}
use Rattle.farm_commit.specs.Parts.{EachPart, EachStep}
use Rattle.farm_commit.specs.Steps.{ChecksThere, IsRefused, LocksThere, OpensThere, RestsThere, StopsThere}
use Rattle.farm_commit.proofs.Stepping.{part_weaker, parts_then, step_then, step_weaker}
use Rattle.farm_commit.proofs.Committed.{cause_grown, none_then, puts_there}

-- a part's node has the farm's actors
pub actors_at : (locks : List Lock) (nodes actors n k : ℕ) (l : Lock) (p : Part) → AreNodes locks nodes actors → slice_get locks n ≡ Some l
    → SitsAt l k p → k ≤ actors → k ≤ (replay (log p)).actors
actors_at locks nodes actors n k l p numbered at sits low =
    let are : (replay (log p)).actors ≡ actors =
    subst (λ (x : Option _). (replay (log_in x)).actors ≡ actors) (sym sits.1) (sits.2.node.actors ∙ (numbered n l at).2) in
    omega arith

pub opens_higher : (k c top higher i : ℕ) (l : Lock) (p q : Part) → top ≤ higher → OpensThere k c top i l p q → OpensThere k c higher i l p q
opens_higher k c top higher i l p q le o =
    let low : o.pin ≤ top = o.low in
    record { pin = o.pin; went = o.went; low = omega arith; none = o.none; runs = o.runs }

pub locks_higher : (t : TxnId) (r top higher i : ℕ) (l : Lock) (p q : Part) → top ≤ higher → LocksThere t r top i l p q → LocksThere t r higher i l p q
locks_higher t r top higher i l p q le o =
    record { locked = λ w above. o.locked w (omega arith); gave = o.gave; same = o.same; grown = o.grown; puts = o.puts }

-- what runs may be ended, and so may what is locked
pub ending_of : (l : Lock) (t : TxnId) (r : ℕ) (p : Part) → IsRunning l t r p → IsEnding l t r p
ending_of l t r p x = record {
  sits = x.sits;
  runs = record {
    pinned = x.runs.pinned;
    only = λ u a own held. let o = x.runs.only u a own held in (o.0, (o.1.0, o.1.1, o.1.2));
  };
}

pub stays : (t : TxnId) (r i : ℕ) (l : Lock) (p : Part) → IsEnding l t r p → StopsThere t r i l p p
stays t r i l p x = record { ending = x; grown = begins_same (log p); puts = λ a. refl }

pub locks_stop : (t : TxnId) (r top i : ℕ) (l : Lock) (p q : Part) → LocksThere t r top i l p q → StopsThere t r i l p q
locks_stop t r top i l p q x = record { ending = (x.locked (top + 1) (omega arith)).ending; grown = x.grown; puts = x.puts }

pub checks_stop : (t : TxnId) (r w nodes : ℕ) (reads : List Seen) (i : ℕ) (l : Lock) (p q : Part) → ChecksThere t r w nodes reads i l p q → StopsThere t r i l p q
checks_stop t r w nodes reads i l p q x =
    record { ending = x.locked.ending; grown = x.grown; puts = λ a. ap (λ h. h.puts) (x.quiet a) }

-- all that was locked may be ended
pub locked_end : (locks : List Lock) (t : TxnId) (r w : ℕ) (parts : List Part) → EachPart locks (λ _ l p. IsLocked l t r w p) parts
    → EachPart locks (λ _ l p. IsEnding l t r p) parts
locked_end locks t r w parts = part_weaker locks (λ _ l p. IsLocked l t r w p) (λ _ l p. IsEnding l t r p) parts (λ i l p x. x.ending)

-- where all steps stop, all may be ended, and where all are given up, all rest
pub stopped_end : (locks : List Lock) (t : TxnId) (r : ℕ) (P : ℕ → Lock → Part → Type 0) (old new : List Part) → EachPart locks P old
    → EachStep locks (StopsThere t r) old new → EachPart locks (λ _ l p. IsEnding l t r p) new
stopped_end locks t r P old new parts step =
    parts_then locks P (λ _ l p. IsEnding l t r p) (StopsThere t r) old new (λ i l p q at x s. s.ending) parts step

pub given_up_rest : (locks : List Lock) (k : ℕ) (P : ℕ → Lock → Part → Type 0) (old new : List Part) → EachPart locks P old
    → EachStep locks (RestsThere k) old new → EachPart locks (λ _ l p. IsResting l k p) new
given_up_rest locks k P old new parts step =
    parts_then locks P (λ _ l p. IsResting l k p) (RestsThere k) old new (λ i l p q at x s. s.rests) parts step

-- what a seat has drawn stays while it learns
pub learned_drawn : (v w : Watch) → Learned v w → w.drawn ≡ v.drawn
learned_drawn v w l = ap (λ (x : Watch). x.drawn) l.2

-- a refused check decides nothing more
pub refusal_decides : (locks : List Lock) (nodes : ℕ) (t : TxnId) (r : ℕ) (reads : List Seen) (a : Addr) (fault : CheckFault) (old new : List Part) (before after : StampSeat)
    → EachStep locks (PutsNone t.actor) old new → IsCaused t r a fault new → DrawsOnce before after
    → Decides locks nodes t r reads (check_refusal a fault) old new before after
refusal_decides locks nodes t r reads a (CheckHeld by) old new before after none cause draws = (none, cause, draws)
refusal_decides locks nodes t r reads a (CheckChanged seen now) old new before after none cause draws = (none, cause, draws)

-- nor does a refused lock, or want of memory
pub lock_tells : (locks : List Lock) (nodes : ℕ) (t : TxnId) (r : ℕ) (reads : List Seen) (a : Addr) (fault : LockFault) (old mid new : List Part) (seat : StampSeat)
    → length mid ≡ length locks → EachStep locks (RestsThere t.actor) mid new
    → EachStep locks (PutsNone t.actor) old new → IsRefused t r a fault mid
    → CommitTells locks nodes t r reads (lock_refusal a fault) old new seat seat
lock_tells locks nodes t r reads a (LockHeld by) old mid new seat count rests none (i, p, at, was) =
    (none, cause_grown locks t r a (CheckHeld by) t.actor mid new count rests (i, p, at, was), inl refl)
lock_tells locks nodes t r reads a (LockChanged seen now) old mid new seat count rests none (i, p, at, was) =
    (none, cause_grown locks t r a (CheckChanged seen now) t.actor mid new count rests (i, p, at, was), inl refl)
lock_tells locks nodes t r reads a NoLockMemory old mid new seat count rests none refused = (none, refl)

none_behind : (locks : List Lock) (t : TxnId) (r top : ℕ) (old mid new : List Part) → EachStep locks (LocksThere t r top) old mid
    → EachStep locks (PutsNone t.actor) mid new → EachStep locks (PutsNone t.actor) old new
none_behind locks t r top old mid new locked none =
    step_then locks (LocksThere t r top) (PutsNone t.actor) (PutsNone t.actor) old mid new (λ i l p q u at was x y. none_then t r top i l p q u x y) locked none

-- what was decided, behind the locks, is what the commit tells
pub decided_tells : (locks : List Lock) (nodes : ℕ) (t : TxnId) (r top : ℕ) (reads : List Seen) (answer : Commit) (old mid new : List Part) (before after : StampSeat)
    → EachStep locks (LocksThere t r top) old mid → Decides locks nodes t r reads answer mid new before after
    → CommitTells locks nodes t r reads answer old new before after
decided_tells locks nodes t r top reads (Done w) old mid new before after locked d = (
  step_then locks (LocksThere t r top) (InstallsThere t r w nodes reads) (PutsThere t r w nodes reads) old mid new
      (λ i l p q u at was x y. puts_there t r w top nodes reads i l p q u x y) locked d.0,
  d.1,
  d.2,
)
decided_tells locks nodes t r top reads (Changed object seen now) old mid new before after locked d =
    (none_behind locks t r top old mid new locked d.0, d.1, d.2)
decided_tells locks nodes t r top reads (Held object by) old mid new before after locked d =
    (none_behind locks t r top old mid new locked d.0, d.1, d.2)
decided_tells locks nodes t r top reads Spent old mid new before after locked d =
    (none_behind locks t r top old mid new locked d.0, d.1, d.2)
decided_tells locks nodes t r top reads Memory old mid new before after locked d =
    (none_behind locks t r top old mid new locked d.0, d.1)

-- all that an open transaction has at the nodes may be ended
pub txn_end : (locks : List Lock) (t : TxnId) (r nodes : ℕ) (parts : List Part) → EachPart locks (IsPart t r nodes) parts
    → EachPart locks (λ _ l p. IsEnding l t r p) parts
txn_end locks t r nodes parts =
    part_weaker locks (IsPart t r nodes) (λ _ l p. IsEnding l t r p) parts (λ i l p x. ending_of l t r p x.runs)

-- where all nodes are pinned at most at r, a transaction of the read stamp r may run
pub opened_runs : (locks : List Lock) (t : TxnId) (k c top r nodes : ℕ) (P : ℕ → Lock → Part → Type 0) (old new : List Part) → t.actor ≡ k → top ≤ r
    → EachPart locks P old → EachStep locks (OpensThere k c top) old new → EachPart locks (IsPart t r nodes) new
opened_runs locks t k c top r nodes P old new own le parts step =
    parts_then locks P (IsPart t r nodes) (OpensThere k c top) old new
    (λ i l p q at x o. let low : o.pin ≤ top = o.low in record {
      runs = o.runs t r own (omega arith);
      homed = λ w there. absurd (subst (IsAmong w) o.none there);
    })
    parts step

pub opened_pins : (locks : List Lock) (k c top r : ℕ) (old new : List Part) → top ≤ r → EachStep locks (OpensThere k c top) old new
    → EachStep locks (PinsThere k c r) old new
opened_pins locks k c top r old new le =
    step_weaker locks (OpensThere k c top) (PinsThere k c r) old new
    (λ i l p q at was o. let low : o.pin ≤ top = o.low in record { pin = o.pin; went = o.went; low = omega arith; none = o.none })

pub learned_then : (u v w : Watch) → Learned u v → Learned v w → Learned u w
learned_then u v w x y =
    let a = x.0 in let b = y.0 in let c = x.1 in let d = y.1 in
    (omega (arith, a, b), omega (arith, c, d), y.2 ∙ ap (λ (z : Watch). record z { known = w.known; looks = w.looks }) x.2)
