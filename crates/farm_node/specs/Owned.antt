-- What every lawful list of a node keeps of one actor's own: what the node began with, the actor's locks and what it read,
-- through entries of others and by its own.
use Rattle.std.specs.Prelude.{◌≡◌, ◌⊎◌, ℕ, List, [], ◌∷◌, ◌++◌, Ok}
use Rattle.std.specs.List.{AllByRecursion}
use Rattle.a1_base.specs.declared.place.Addr.{Addr}
use Rattle.a1_base.specs.declared.place.TxnId.{TxnId}
use Rattle.farm_node.specs.declared.entry.Found.{Found}
use Rattle.farm_node.specs.declared.entry.Entry.{Entry}
use Rattle.farm_node.specs.declared.entry.Entry.TheVariants.{Read, Put, Unlock}
use Rattle.farm_node.specs.Cell.{found_at}
use Rattle.farm_node.specs.NodeState.{PinnedBy, HeldBy, HeldNew, Lawful, replay}
use Rattle.farm_node.specs.Story.{stamped_bytes}
use Rattle.farm_node.specs.Laws.{versions_at}
use Rattle.farm_node.specs.Locks.{IsOther, Takes}

-- the actor read that at that stamp
pub record WasRead (k : ℕ) (a : Addr) (r : ℕ) (found : Found) (log : List Entry) : Type 0 where
  pub before : List Entry
  pub rest : List Entry
  pub is : log ≡ before ++ Read k a r (Ok found) ∷ rest

-- the entry ends the lock of the transaction on the address
abbrev pub Frees : TxnId → Addr → Entry → Type 0
Frees t a (Put u b w) = (u ≡ t) × (b ≡ a)
Frees t a (Unlock u b) = (u ≡ t) × (b ≡ a)
Frees t a e = ⊥

pub record OwnedHold : Type 0 where
  -- a node keeps its number, the number of nodes and the actors
  pub kept : (before rest : List Entry) → Lawful before → ((replay (before ++ rest)).node ≡ (replay before).node)
      × ((replay (before ++ rest)).nodes ≡ (replay before).nodes)
      × ((replay (before ++ rest)).actors ≡ (replay before).actors)
  -- through entries of others a transaction gets no lock
  pub held_before : (before rest : List Entry) (t : TxnId) (a : Addr) → Lawful before
      → AllByRecursion (IsOther t.actor) rest → HeldBy (replay (before ++ rest)) t a → HeldBy (replay before) t a
  -- by one entry it gets no lock but that which the entry takes, and that which the entry frees it has no more
  pub held_last : (before : List Entry) (e : Entry) (t : TxnId) (a : Addr) → Lawful before
      → HeldBy (replay (before ++ e ∷ [])) t a → HeldBy (replay before) t a ⊎ Takes t a e
  pub freed_last : (before : List Entry) (e : Entry) (t : TxnId) (a : Addr) → Lawful before → Frees t a e
      → HeldBy (replay (before ++ e ∷ [])) t a → ⊥
  -- through entries of others what a transaction made stays without a version under its lock
  pub new_stays : (before rest : List Entry) (t : TxnId) (a : Addr) → Lawful (before ++ rest)
      → AllByRecursion (IsOther t.actor) rest → HeldNew (replay before) t a → HeldNew (replay (before ++ rest)) t a
  -- what an actor read at a stamp is there for each who is pinned at most that stamp
  pub found : (log : List Entry) (j k : ℕ) (a : Addr) (r : ℕ) (found : Found) → Lawful log → WasRead k a r found log
      → PinnedBy (replay log) j r → stamped_bytes (found_at r (versions_at (replay log) a)) ≡ stamped_bytes found
