-- What every lawful list of a node keeps.
use Rattle.std.specs.Prelude.{◌≡◌, ◌≢◌, ℕ, ◌<◌, ◌≤◌, List, ◌∷◌, ◌++◌, Some, None, Ok}
use Rattle.std.specs.List.{AllByRecursion}
use Rattle.a1_base.specs.declared.place.Addr.{Addr}
use Rattle.a1_base.specs.declared.place.TxnId.{TxnId}
use Rattle.version_chain.specs.Versions.{Version}
use Rattle.farm_node.specs.declared.hold.Hold.{Hold}
use Rattle.farm_node.specs.declared.entry.Found.{Found}
use Rattle.farm_node.specs.declared.entry.Placed.{Placed}
use Rattle.farm_node.specs.declared.entry.Entry.{Entry}
use Rattle.farm_node.specs.declared.entry.Entry.TheVariants.{Read, Alloc, Lock, Check, Put, Unlock}
use Rattle.farm_node.specs.Cell.{Bytes, Cell, found_at}
use Rattle.farm_node.specs.NodeState.{NodeState, Lawful, replay}
use Rattle.farm_node.specs.State.{versions_there}
use Rattle.farm_node.specs.Story.{story, value_at, stamped_bytes}

-- what the node has of an address
abbrev pub versions_at : NodeState → Addr → List Version
versions_at p a = versions_there (p.cells a)

pub record ReadsHold : Type 0 where
  -- what a read answered is the value at its stamp in each longer list
  pub read : (before rest : List Entry) (k : ℕ) (a : Addr) (s : ℕ) (found : Found)
      → Lawful (before ++ Read k a s (Ok found) ∷ rest)
      → value_at (before ++ Read k a s (Ok found) ∷ rest) a s ≡ stamped_bytes found
  -- where an object was made, nothing is there at its transaction's read stamp
  pub made : (before rest : List Entry) (t : TxnId) (r : ℕ) (v : Bytes) (placed : Placed)
      → Lawful (before ++ Alloc t r v placed ∷ rest) → value_at (before ++ Alloc t r v placed ∷ rest) placed.at r ≡ None

pub record PinsHold : Type 0 where
  pub floor_below : (log : List Entry) (k x : ℕ) → Lawful log → (replay log).pins k ≡ Some x → (replay log).floor ≤ x
  -- from the floor on, the node keeps the value at each stamp, whoever is pinned
  pub shown : (log : List Entry) (a : Addr) (s : ℕ) → Lawful log → (replay log).floor ≤ s
      → stamped_bytes (found_at s (versions_at (replay log) a)) ≡ value_at log a s
  -- and so it does from an actor's pin on
  pub kept : (log : List Entry) (k x : ℕ) (a : Addr) (s : ℕ) → Lawful log → (replay log).pins k ≡ Some x → x ≤ s
      → stamped_bytes (found_at s (versions_at (replay log) a)) ≡ value_at log a s

-- an entry that is no put of another on a with a stamp above r and at most w
abbrev pub Spares : TxnId → Addr → ℕ → ℕ → Entry → Type 0
Spares t a r w (Put u b x) = (b ≡ a) → (u ≢ t) → (r < x) → (x ≤ w) → ⊥
Spares t a r w e = Unit {0}

-- the puts of t are at w
abbrev pub PutsAt : TxnId → ℕ → Entry → Type 0
PutsAt t w (Put u b x) = (u ≡ t) → x ≡ w
PutsAt t w e = Unit {0}

-- t does not unlock a
abbrev pub KeepsLock : TxnId → Addr → Entry → Type 0
KeepsLock t a (Unlock u b) = (u ≡ t) → (b ≡ a) → ⊥
KeepsLock t a e = Unit {0}

-- an entry by which t decides a at r and w, with what comes behind it: an Alloc, or a Lock that was given, with no
-- unlock behind it, or a Check at w that answered the same
abbrev pub Decides : TxnId → Addr → ℕ → ℕ → Entry → List Entry → Type 0
Decides t a r w (Alloc u q v placed) rest = (u ≡ t) × (placed.at ≡ a) × (q ≡ r) × AllByRecursion (KeepsLock t a) rest
Decides t a r w (Lock u b q new (Ok locked)) rest = (u ≡ t) × (b ≡ a) × (q ≡ r) × AllByRecursion (KeepsLock t a) rest
Decides t a r w (Check u b q x (Ok same)) rest = (u ≡ t) × (b ≡ a) × (q ≡ r) × (x ≡ w)
Decides t a r w e rest = ⊥

pub record MineDecides : Type 0 where
  -- what t decides at r and w, no other puts above r and at most w
  pub spared : (before rest : List Entry) (e : Entry) (t : TxnId) (a : Addr) (r w : ℕ)
      → Lawful (before ++ e ∷ rest) → AllByRecursion (PutsAt t w) (before ++ e ∷ rest) → Decides t a r w e rest
      → AllByRecursion (Spares t a r w) (before ++ e ∷ rest)
  -- what a put installs is what its own transaction last gave
  pub own : (before rest : List Entry) (t : TxnId) (a : Addr) (w : ℕ)
      → Lawful (before ++ Put t a w ∷ rest)
      → (c : Cell) × (h : Hold) × ((replay before).cells a ≡ Some c) × (c.lock ≡ Some h) × (h.by ≡ t)
      × (h.pending ≡ ((story a before).given t).value)
