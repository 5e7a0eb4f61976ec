-- How the lists that nodes stand for go on: by one entry for each event, and by loading within the first entry.
use Rattle.std.specs.Prelude.{◌≡◌, List, [], ◌∷◌, ◌++◌}
use Rattle.a1_base.specs.declared.place.Addr.{Addr}
use Rattle.farm_node.specs.declared.node.Node.{Node}
use Rattle.farm_node.specs.declared.entry.Start.{Start}
use Rattle.farm_node.specs.declared.entry.Entry.{Entry}
use Rattle.farm_node.specs.declared.entry.Entry.TheVariants.{Made}
use Rattle.farm_node.specs.Cell.{Bytes}
use Rattle.farm_node.specs.NodeState.{Adds}
use Rattle.farm_node.specs.State.{with_objects, CanLoad}
use Rattle.farm_node.specs.Node.{plain_of, StandsFor}

-- the start with these objects loaded too, one after another, each in front of those before it
abbrev pub with_heap : Start → List (Addr × Bytes) → Start
with_heap m [] = m
with_heap m (x ∷ xs) = with_heap (record m { heap = x ∷ m.heap }) xs

pub record ListsGoOn : Type 0 where
  -- a call that adds one lawful entry leads from a list to that list with the entry behind it
  pub more : (old new : Node) (log : List Entry) (e : Entry) → StandsFor old log → Adds (plain_of old) e (plain_of new)
      → StandsFor new (log ++ e ∷ [])
  -- before any event, loading changes what the first entry says was loaded
  pub loads : (old new : Node) (m : Start) (objects : List (Addr × Bytes)) → StandsFor old (Made m ∷ [])
      → CanLoad (plain_of old) objects → plain_of new ≡ with_objects (plain_of old) objects
      → StandsFor new (Made (with_heap m objects) ∷ [])
