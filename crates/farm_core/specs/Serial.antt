-- What holds in every run of the core: its reads, the serial order of its transactions, and their snapshots.
use Rattle.std.specs.Prelude.{◌≡◌, ℕ, ◌<◌, ◌≤◌, true, List, ◌∷◌, ◌++◌, Option, Some, None, Ok, ◌⊎◌}
use Rattle.a1_base.specs.declared.limits.TheConstants.{NODE_LIMIT}
use Rattle.a1_base.specs.declared.place.Addr.{Addr}
use Rattle.a1_base.specs.declared.place.TxnId.{TxnId}
use Rattle.farm_node.specs.declared.entry.Found.{Found}
use Rattle.farm_node.specs.declared.entry.Entry.{Entry}
use Rattle.farm_node.specs.declared.entry.Entry.TheVariants as entry
use Rattle.farm_node.specs.Cell.{Bytes, found_at}
use Rattle.farm_node.specs.NodeState.{Lawful}
use Rattle.farm_node.specs.Story.{Installed, story, value_at, stamped_bytes}
use Rattle.farm_node.specs.Laws.{versions_at}
use Rattle.a1_base.specs.Lists.{IsAmong}
use Rattle.farm_core.specs.declared.event.Event.{Event}
use Rattle.farm_core.specs.declared.event.Event.TheVariants as event
use Rattle.farm_core.specs.declared.event.Answer.{Answer}
use Rattle.farm_core.specs.declared.event.Answer.TheVariants as answer
use Rattle.farm_core.specs.Machine.{Installing, State, home, node_at, HoldsLock, Runs, fresh}

-- P holds of the events of every run, of their answers, and of the state that they leave
abbrev pub InEveryRun : (List Event → List Answer → State → Type 0) → Type 0
InEveryRun P =
    (nodes : ℕ) (events : List Event) (answers : List Answer) (s : State) → 0 < nodes → nodes ≤ NODE_LIMIT
    → Runs (fresh nodes) events answers s → P events answers s

-- the list of an address's node
abbrev pub log_of : State → Addr → List Entry
log_of s a = s.logs (home s a)

-- the value at a stamp in the whole of a list, and in every longer lawful one
pub record ValueStands (log : List Entry) (a : Addr) (stamp : ℕ) (value : Option (ℕ × Bytes)) : Type 0 where
  pub whole : value_at log a stamp ≡ value
  pub longer : (more : List Entry) → Lawful (log ++ more) → value_at (log ++ more) a stamp ≡ value

-- what a read was answered is the value at the read stamp
abbrev pub AnswerStands : State → Event → Answer → Type 0
AnswerStands s (event.Read t a) (answer.Value stamp bytes) =
    ValueStands (log_of s a) a (s.transactions t).read_stamp (Some (stamp, bytes))
AnswerStands s (event.Read t a) (answer.Absent stamp) = ValueStands (log_of s a) a (s.transactions t).read_stamp None
AnswerStands s e x = Unit {0}

abbrev pub EachAnswer : (Event → Answer → Type 0) → List Event → List Answer → Type 0
EachAnswer P (e ∷ es) (x ∷ xs) = P e x × EachAnswer P es xs
EachAnswer P es xs = Unit {0}

pub record ReadsWhole (events : List Event) (answers : List Answer) (s : State) : Type 0 where
  pub lawful : (n : ℕ) → n < s.nodes → Lawful (s.logs n)
  -- every value that a read event was answered
  pub answered : EachAnswer (AnswerStands s) events answers
  -- every value in a read's entry
  pub entered : (n k r : ℕ) (a : Addr) (found : Found) (before rest : List Entry) → n < s.nodes
      → s.logs n ≡ before ++ entry.Read k a r (Ok found) ∷ rest
      → ValueStands (s.logs n) a r (stamped_bytes found)

-- it has begun to install, and nothing is left to install
abbrev pub HasInstalled : State → TxnId → Type 0
HasInstalled s t = ((s.transactions t).stage ≡ Installing) × (HoldsLock s t → ⊥)

-- it read the address, or had it locked at some time
abbrev pub HasTouched : State → TxnId → Addr → Type 0
HasTouched s t a = ((s.transactions t).has_read a ≡ true) ⊎ ((s.transactions t).had_locked a ≡ true)

-- the transactions that installed all are serial in the order of their write stamps: with the puts below its stamp,
-- each has the heap that it read
pub record SerialOrder (s : State) : Type 0 where
  -- two transactions that drew have different write stamps
  pub apart : (t u : TxnId) → 0 < (s.transactions t).write_stamp
      → (s.transactions t).write_stamp ≡ (s.transactions u).write_stamp → t ≡ u
  -- the read stamp is below the write stamp
  pub later : (t : TxnId) → HasInstalled s t → (s.transactions t).read_stamp < (s.transactions t).write_stamp
  -- every put of an actor is at the write stamp of its transaction
  pub puts : (a : Addr) (i : Installed) → IsAmong i (story a (log_of s a)).puts → 0 < i.by.actor
      → i.stamp ≡ (s.transactions i.by).write_stamp
  -- what it had locked it has put
  pub installs : (t : TxnId) (a : Addr) → HasInstalled s t → (s.transactions t).had_locked a ≡ true
      → (i : Installed) × IsAmong i (story a (log_of s a)).puts × (i.by ≡ t)
  -- what it read or had locked keeps from its read stamp to its write stamp, that one without its own put, the value at
  -- its read stamp
  pub steady : (t : TxnId) (a : Addr) (stamp : ℕ) → HasInstalled s t → HasTouched s t a
      → (s.transactions t).read_stamp ≤ stamp → stamp < (s.transactions t).write_stamp
      → value_at (log_of s a) a stamp ≡ value_at (log_of s a) a (s.transactions t).read_stamp

-- while a transaction is open, each node has of each address what stands there at each stamp from its read stamp on
pub record SnapshotsKept (s : State) : Type 0 where
  pub kept : (t : TxnId) (n : ℕ) (a : Addr) (stamp : ℕ) → (s.transactions t).is_open ≡ true → n < s.nodes
      → (s.transactions t).read_stamp ≤ stamp
      → stamped_bytes (found_at stamp (versions_at (node_at s n) a)) ≡ value_at (s.logs n) a stamp
