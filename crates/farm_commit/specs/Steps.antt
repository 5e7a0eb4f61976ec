-- What each step of a transaction tells of its part at a node.
use Rattle.std.specs.Prelude.{◌≡◌, ℕ, ◌<◌, ◌≤◌, List, [], ◌∷◌, Some, slice_get}
use Rattle.a1_base.specs.declared.place.Addr.{Addr}
use Rattle.a1_base.specs.declared.place.TxnId.{TxnId}
use Rattle.a1_base.specs.Lists.{BeginsWith}
use Rattle.farm_node.specs.declared.entry.Entry.TheVariants.{Open}
use Rattle.farm_node.specs.declared.faults.LockFault.{LockFault}
use Rattle.transaction_part.specs.declared.part.Part.{Part}
use Rattle.transaction_part.specs.declared.part.Seen.{Seen}
use Rattle.transaction_part.specs.Part.{AreChecked, IsEnding, IsLocked, IsResting, IsRunning, addresses, log, written}
use Rattle.transaction_part.specs.Running.{LockRefused}
use Rattle.transaction_part.specs.Stories.{GaveAll, PutsJust, SamePuts, SameStory, Went}
use Rattle.farm_commit.specs.Nodes.{Lock}

-- an actor pinned the node at most at `top`, asking for c, and its transaction may run there from that pin on
pub record OpensThere (k c top i : ℕ) (l : Lock) (p q : Part) : Type 0 where
  pub pin : ℕ
  pub went : Went k (log p) (Open k c pin ∷ []) (log q)
  pub low : pin ≤ top
  pub none : written q ≡ []
  pub runs : (t : TxnId) (r : ℕ) → t.actor ≡ k → pin ≤ r → IsRunning l t r q

-- the transaction holds all that it writes, for any stamp above `top`
pub record LocksThere (t : TxnId) (r top i : ℕ) (l : Lock) (p q : Part) : Type 0 where
  pub locked : (w : ℕ) → top < w → IsLocked l t r w q
  pub gave : GaveAll t r (written p) (log q)
  pub same : addresses (written q) ≡ addresses (written p)
  pub grown : BeginsWith (log q) (log p)
  pub puts : SamePuts t.actor (log p) (log q)

-- it is still to be ended there, and put nothing
pub record StopsThere (t : TxnId) (r i : ℕ) (l : Lock) (p q : Part) : Type 0 where
  pub ending : IsEnding l t r q
  pub grown : BeginsWith (log q) (log p)
  pub puts : SamePuts t.actor (log p) (log q)

-- it checked what it read, and still holds all that it writes
pub record ChecksThere (t : TxnId) (r w nodes : ℕ) (reads : List Seen) (i : ℕ) (l : Lock) (p q : Part) : Type 0 where
  pub locked : IsLocked l t r w q
  pub checked : AreChecked t r w i nodes reads q
  pub same : written q ≡ written p
  pub grown : BeginsWith (log q) (log p)
  pub quiet : SameStory t.actor (log p) (log q)

-- it put all that it writes
pub record PutsAll (t : TxnId) (w i : ℕ) (l : Lock) (p q : Part) : Type 0 where
  pub rests : IsResting l t.actor q
  pub puts : PutsJust t w (written p) (log p) (log q)
  pub grown : BeginsWith (log q) (log p)

-- it gave all up
pub record RestsThere (k i : ℕ) (l : Lock) (p q : Part) : Type 0 where
  pub rests : IsResting l k q
  pub quiet : SameStory k (log p) (log q)
  pub grown : BeginsWith (log q) (log p)

-- a lock was refused at some node
abbrev pub IsRefused : TxnId → ℕ → Addr → LockFault → List Part → Type 0
IsRefused t r a fault parts = (i : ℕ) × (p : Part) × (slice_get parts i ≡ Some p) × LockRefused t a r fault (log p)
