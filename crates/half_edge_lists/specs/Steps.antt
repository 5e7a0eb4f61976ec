-- What the steps of a change of a list say.
use Rattle.std.specs.Prelude.{◌≡◌, ℕ, ◌%◌, List, ◌++◌, map, length, Option}
use Rattle.std.specs.List.{AllByRecursion}
use Rattle.a1_base.specs.declared.place.Addr.{Addr}
use Rattle.object_view.specs.Agreement.{State}
use Rattle.object_view.specs.Keys.{lookup}
use Rattle.object_view.specs.Layout.{Entry, entries}
use Rattle.object_view.specs.Trees.{Becomes}
use Rattle.type_schema.specs.declared.objects.Half.{Half}
use Rattle.type_schema.specs.Objects.{IsAddr, IsHalf, half_key, half_entry}
use Rattle.type_schema.specs.Structures.{Rising, ListBecomes, without_half}

-- what a list says besides its form
pub record Formed (nodes : ℕ) (at owner : Addr) (halves : List Half) : Type 0 where
  pub self : IsAddr at
  pub owner_fits : IsAddr owner
  pub near : at.region % nodes ≡ owner.region % nodes
  pub fit : AllByRecursion IsHalf halves
  pub rising : Rising (map half_entry halves)

-- a removal answers the word of the key, and the list stands without its half-edge
pub record ListTaken (nodes : ℕ) (s t : State) (at owner : Addr) (kind : ℕ) (far : Addr) (halves : List Half)
    (places : List Addr) (old : Option ℕ) : Type 0 where
  pub old_is : old ≡ lookup (half_key kind far) (map half_entry halves)
  pub becomes : ListBecomes nodes s t at owner places (without_half kind far halves)

-- how far the entries of half-edges have gone into a tree that had none
pub record Filled (nodes : ℕ) (s t : State) (anchor at : Addr) (places : List Addr) (halves : List Half)
    (rest : List ℕ) (count : ℕ) : Type 0 where
  pub done : List Entry
  pub left : List Half
  pub fit : AllByRecursion IsHalf left
  pub are : map half_entry halves ≡ done ++ map half_entry left
  pub rest_is : rest ≡ entries (map half_entry left)
  pub count_is : count ≡ length done
  pub becomes : Becomes nodes s t anchor at places done
