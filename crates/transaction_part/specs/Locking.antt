-- The first step of a commit at a node, as it leaves the node's list and the writes.
use Rattle.std.specs.Prelude.{◌≡◌, ℕ, ◌<◌, List, Result, IfErr, IfOk, OnOk}
use Rattle.a1_base.specs.declared.place.Addr.{Addr}
use Rattle.a1_base.specs.declared.place.TxnId.{TxnId}
use Rattle.a1_base.specs.Lists.{BeginsWith, IsAmong}
use Rattle.a1_base.specs.Stamps.{IsStamp}
use Rattle.farm_node.specs.declared.faults.LockFault.{LockFault}
use Rattle.farm_node.specs.declared.entry.Entry.{Entry}
use Rattle.farm_node.specs.NodeState.{replay}
use Rattle.write_set.specs.declared.set.Write.{Write}
use Rattle.transaction_part.specs.Part.{IsMade, IsWritten, addresses}
use Rattle.transaction_part.specs.Running.{Runs, HoldsBelow, LockRefused, Ready}
use Rattle.transaction_part.specs.Stories.{GaveAll, SamePuts}

-- the transaction holds the objects that it made, and may lock all that it writes
pub record CanLock (t : TxnId) (r : ℕ) (ws : List Write) (log : List Entry) : Type 0 where
  pub runs : Runs t r (IsMade ws) log
  pub ready : (w : Write) → IsAmong w ws → Ready t r log w

-- what the locks of the writes ws came to: these writes are left of them, and the list went on from before to after
pub record Locks (t : TxnId) (r : ℕ) (ws left : List Write) (before after : List Entry)
    (answer : Result ℕ (Addr × LockFault)) : Type 0 where
  pub runs : Runs t r (IsWritten left) after
  pub top : IfOk answer IsStamp
  pub holds : IfOk answer (λ top. (w : ℕ) → top < w → (x : Write) → IsAmong x left → HoldsBelow t x.at w (replay after))
  pub gave : OnOk answer (GaveAll t r ws after)
  pub fault : IfErr answer (λ e. LockRefused t e.0 r e.1 after)
  pub same : addresses left ≡ addresses ws
  pub grown : BeginsWith after before
  pub puts : SamePuts t.actor before after
