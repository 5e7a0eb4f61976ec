-- A node behind a turnstile, and what it began with.
use Rattle.std.specs.Prelude.{◌≡◌, ℕ, List, [], ◌∷◌}
use Rattle.a1_base.specs.declared.place.Addr.{Addr}
use Rattle.farm_node.specs.declared.node.Node.{Node}
use Rattle.farm_node.specs.declared.entry.Start.{Start}
use Rattle.farm_node.specs.declared.entry.Entry.{Entry}
use Rattle.farm_node.specs.declared.entry.Entry.TheVariants.{Made}
use Rattle.farm_node.specs.Cell.{Bytes}
use Rattle.farm_node.specs.NodeState.{begun}
use Rattle.farm_node.specs.State.{CanLoad}
use Rattle.farm_node.specs.Node.{StandsFor}
use Rattle.farm_node.specs.Standing.{with_heap}
use Rattle.node_turns.specs.declared.standing.Standing.{Standing}

abbrev pub node_in : Standing → Node
node_in s = s.inner.value.node

-- a start without objects
abbrev pub bare_start : ℕ → ℕ → ℕ → ℕ → Start
bare_start node nodes actors stamp =
    record { node = node; nodes = nodes; actors = actors; stamp = stamp; heap = [] }

abbrev pub start_of : Standing → Start
start_of s =
    with_heap (bare_start s.inner.value.number s.inner.value.nodes s.inner.value.actors s.inner.value.stamp)
    s.inner.value.loaded.value.items

-- the entry with which its lists begin
abbrev pub begins_with : Standing → Entry
begins_with s = Made (start_of s)

-- its node stands for the list
abbrev pub Stands : Standing → List Entry → Type 0
Stands s log = StandsFor (node_in s) log

-- a node of that number can begin with these objects
abbrev pub CanBegin : ℕ → ℕ → ℕ → ℕ → List (Addr × Bytes) → Type 0
CanBegin node nodes actors stamp objects = CanLoad (begun (bare_start node nodes actors stamp)) objects

-- it began as the node of that number, with these objects
pub record Began (s : Standing) (node nodes actors stamp : ℕ) (objects : List (Addr × Bytes)) : Type 0 where
  pub number : s.inner.value.number ≡ node
  pub nodes_are : s.inner.value.nodes ≡ nodes
  pub actors_are : s.inner.value.actors ≡ actors
  pub stamp_is : s.inner.value.stamp ≡ stamp
  pub loaded : s.inner.value.loaded.value.items ≡ objects
