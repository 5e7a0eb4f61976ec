-- The plain state that a node is seen as, and the lists that it stands for.
use Rattle.std.specs.Prelude.{◌≡◌, List}
use Rattle.object_region.specs.Regions.{occupancy_of}
use Rattle.farm_node.specs.declared.node.Node.{Node}
use Rattle.farm_node.specs.declared.entry.Entry.{Entry}
use Rattle.farm_node.specs.NodeState.{NodeState, Lawful, replay}
use Rattle.farm_node.specs.State.{cells_of, plain_from}

-- the plain state of a node
abbrev pub plain_of : Node → NodeState
plain_of n = plain_from (cells_of n.objects) (occupancy_of n.places) n.pins.items n.past n.floor n.actors

-- a node stands for a list exactly where the list is lawful and its replay is the node's state
pub record StandsFor (n : Node) (log : List Entry) : Type 0 where
  pub lawful : Lawful log
  pub state : plain_of n ≡ replay log
