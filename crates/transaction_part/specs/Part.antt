-- A transaction's part at one node, as clauses name it.
use Rattle.std.specs.Prelude.{◌≡◌, ◌⊎◌, ℕ, ◌%◌, List, [], true, Option, Some, None, map}
use Rattle.a1_base.specs.declared.place.Addr.{Addr}
use Rattle.a1_base.specs.declared.place.TxnId.{TxnId}
use Rattle.a1_base.specs.Lists.{IsAmong}
use Rattle.farm_node.specs.declared.entry.Entry.{Entry}
use Rattle.farm_node.specs.NodeState.{replay}
use Rattle.turnstile.specs.declared.keeps.Keeps.{Ghosts}
use Rattle.turnstile.specs.declared.lock.Turnstile.{Turnstile}
use Rattle.turnstile.specs.declared.lock.Pass.{Pass}
use Rattle.turnstile.specs.Passes.{seen}
use Rattle.node_turns.specs.declared.standing.Standing.{Standing}
use Rattle.node_turns.specs.Turned.{Sits}
use Rattle.write_set.specs.declared.set.Write.{Write}
use Rattle.write_set.specs.Writes.{writes, Lacks}
use Rattle.transaction_part.specs.declared.part.Part.{Part}
use Rattle.transaction_part.specs.declared.part.Seen.{Seen}
use Rattle.transaction_part.specs.Running.{Runs, IsIdle, HoldsBelow, ReadBytes, WasChecked, Ready}

module _ {g : Ghosts Standing Entry} where
  abbrev pub log_in : Option (Pass Standing Entry g) → List Entry
  log_in None = []
  log_in (Some p) = seen p

  -- the pass is at hand, and is the actor's own
  abbrev pub SitsIn : Turnstile Standing Entry → ℕ → Option (Pass Standing Entry g) → Type 0
  SitsIn lock k place = (p : Pass Standing Entry g) × (place ≡ Some p) × Sits lock k p

-- the list that was seen of the node
abbrev pub log : Part → List Entry
log part = log_in part.pass

-- what will be written there
abbrev pub written : Part → List Write
written part = writes part.writes

abbrev pub SitsAt : Turnstile Standing Entry → ℕ → Part → Type 0
SitsAt lock k part = SitsIn lock k part.pass

-- the address is written; and it is that of an object that the transaction made
abbrev pub IsWritten : List Write → Addr → Type 0
IsWritten ws a = (w : Write) × IsAmong w ws × (w.at ≡ a)

abbrev pub IsMade : List Write → Addr → Type 0
IsMade ws a = (w : Write) × IsAmong w ws × (w.at ≡ a) × (w.made ≡ true)

-- without a transaction
pub record IsResting (lock : Turnstile Standing Entry) (k : ℕ) (part : Part) : Type 0 where
  pub sits : SitsAt lock k part
  pub idle : IsIdle k (log part)
  pub none : written part ≡ []

-- while the transaction runs it holds the objects that it made, and what it will write it made or read
pub record IsRunning (lock : Turnstile Standing Entry) (t : TxnId) (r : ℕ) (part : Part) : Type 0 where
  pub sits : SitsAt lock t.actor part
  pub runs : Runs t r (IsMade (written part)) (log part)
  pub ready : (w : Write) → IsAmong w (written part) → Ready t r (log part) w

-- while it ends it holds no more than what it writes
pub record IsEnding (lock : Turnstile Standing Entry) (t : TxnId) (r : ℕ) (part : Part) : Type 0 where
  pub sits : SitsAt lock t.actor part
  pub runs : Runs t r (IsWritten (written part)) (log part)

-- it holds all that it writes, each with a bound below w
pub record IsLocked (lock : Turnstile Standing Entry) (t : TxnId) (r w : ℕ) (part : Part) : Type 0 where
  pub ending : IsEnding lock t r part
  pub holds : (x : Write) → IsAmong x (written part) → HoldsBelow t x.at w (replay (log part))

-- an object may be written that the transaction wrote before, and did not free, or where it read bytes
abbrev pub MayWrite : TxnId → ℕ → Part → Addr → Type 0
MayWrite t r part a = IsWritten (written part) a ⊎ ∥ ReadBytes t.actor a r (log part) ∥₁

-- what was read at that node among so many, and is not written, was checked at w and found the same
abbrev pub AreChecked : TxnId → ℕ → ℕ → ℕ → ℕ → List Seen → Part → Type 0
AreChecked t r w node nodes reads part = (s : Seen) → IsAmong s reads → s.at.region % nodes ≡ node
    → Lacks (written part) s.at → WasChecked t s.at r w (log part)

-- the addresses that are written
abbrev pub addresses : List Write → List Addr
addresses ws = map (λ (w : Write). w.at) ws
