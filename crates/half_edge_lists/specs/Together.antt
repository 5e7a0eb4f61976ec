-- What two changes in one overlay say together.
use Rattle.std.specs.Prelude.{ℕ, List, ◌++◌}
use Rattle.a1_base.specs.declared.place.Addr.{Addr}
use Rattle.object_view.specs.Agreement.{State}
use Rattle.object_view.specs.Layout.{Entry}
use Rattle.object_view.specs.Parts.{Moves}
use Rattle.object_view.specs.Trees.{IsTree}
use Rattle.type_schema.specs.declared.objects.Half.{Half}
use Rattle.type_schema.specs.Structures.{IsList}

-- from a state to another: a list came to stand with these half-edges and a tree with these pairs, on their old places,
-- less those that were freed, with fresh ones; no other place changed
pub record BothBecome (nodes : ℕ) (s t : State) (at header : Addr) (halves : List Half) (places : List Addr)
    (anchor owner : Addr) (pairs : List Entry) (below : List Addr) : Type 0 where
  pub list_now : List Addr
  pub tree_now : List Addr
  pub list : IsList nodes t at header halves list_now
  pub tree : IsTree nodes t anchor owner pairs tree_now
  pub moves : Moves s t (places ++ below) (list_now ++ tree_now)
