-- What passes and turns at a node tell of its list.
use Rattle.std.specs.Prelude.{◌≡◌, ℕ, ◌<◌, List, [], ◌∷◌, ◌++◌, length}
use Rattle.std.specs.List.{AllByRecursion}
use Rattle.farm_node.specs.declared.entry.Entry.{Entry}
use Rattle.farm_node.specs.NodeState.{replay}
use Rattle.farm_node.specs.Locks.{IsOther}
use Rattle.turnstile.specs.declared.keeps.Keeps.{Ghosts}
use Rattle.turnstile.specs.declared.lock.Turnstile.{Turnstile}
use Rattle.turnstile.specs.declared.lock.Pass.{Pass}
use Rattle.turnstile.specs.declared.lock.Turn.{Turn}
use Rattle.turnstile.specs.Passes.{first_value, numbers, seen, entered, turn_numbers, IsPassOf, IsTurnOf}
use Rattle.node_turns.specs.declared.standing.Standing.{Standing}
use Rattle.node_turns.specs.Standing.{start_of, Stands}

-- the list is one of the turnstile's node: it keeps the number, the number of nodes and the actors with which it began
pub record IsOf (lock : Turnstile Standing Entry) (log : List Entry) : Type 0 where
  pub node : (replay log).node ≡ (start_of (first_value lock)).node
  pub nodes : (replay log).nodes ≡ (start_of (first_value lock)).nodes
  pub actors : (replay log).actors ≡ (start_of (first_value lock)).actors

-- a list that went on by entries of others alone
pub record GoesOn (k : ℕ) (before after : List Entry) : Type 0 where
  pub between : List Entry
  pub is : after ≡ before ++ between
  pub others : AllByRecursion (IsOther k) between

module _ {g : Ghosts Standing Entry} where
  -- a pass of the actor k alone, at that node
  pub record Sits (lock : Turnstile Standing Entry) (k : ℕ) (pass : Pass Standing Entry g) : Type 0 where
    pub of : IsPassOf lock pass
    pub number : numbers pass ≡ k ∷ []
    pub some : 0 < length (seen pass)
    pub node : IsOf lock (seen pass)

  -- a turn of the actor k alone, at that node: the node stands for the list so far
  pub record IsInside (lock : Turnstile Standing Entry) (k : ℕ) (turn : Turn Standing Entry g) : Type 0 where
    pub of : IsTurnOf lock turn
    pub number : turn_numbers turn ≡ k ∷ []
    pub stands : Stands turn.value (entered turn)
    pub node : IsOf lock (entered turn)
