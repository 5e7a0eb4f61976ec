-- What the calls of a tree say.
use Rattle.std.specs.Prelude.{◌≡◌, ℕ, List, [], Option, Result, Ok, Err, ⊤}
use Rattle.a1_base.specs.declared.place.Addr.{Addr}
use Rattle.object_view.specs.Agreement.{State}
use Rattle.object_view.specs.Keys.{lookup, inserted, removed}
use Rattle.object_view.specs.Layout.{Entry}
use Rattle.object_view.specs.Parts.{Moves}
use Rattle.object_view.specs.Trees.{IsTree, Becomes}
use Rattle.object_view.specs.declared.parts.PartFault.{PartFault}
use Rattle.object_view.specs.declared.parts.PartFault.TheVariants as part
use Rattle.object_btree.specs.Levels.{TallAt}

-- an insertion answers the key's old word; the pairs have the key with the new one. Tall comes where the tree would
-- need a 17th level
abbrev pub InsertTells : ℕ → State → State → Addr → Addr → List Entry → List Addr → List ℕ → ℕ
    → Result (Option ℕ) PartFault → Type 0
InsertTells nodes s t anchor owner pairs at k v (Ok old) =
    (old ≡ lookup k pairs) × Becomes nodes s t anchor owner at (inserted k v pairs)
InsertTells nodes s t anchor owner pairs at k v (Err part.Memory) = ⊤
InsertTells nodes s t anchor owner pairs at k v (Err (part.Spent n)) = ⊤
InsertTells nodes s t anchor owner pairs at k v (Err (part.Torn a)) = ⊥
InsertTells nodes s t anchor owner pairs at k v (Err part.Tall) = TallAt nodes s anchor owner pairs at k

-- a removal answers the key's word; the pairs are those without the key
pub record RemoveTells (nodes : ℕ) (s t : State) (anchor owner : Addr) (pairs : List Entry) (at : List Addr)
    (k : List ℕ) (old : Option ℕ) : Type 0 where
  pub old_is : old ≡ lookup k pairs
  pub becomes : Becomes nodes s t anchor owner at (removed k pairs)

-- a new tree has no pairs, and stands where nothing stood
abbrev pub CreateTells : ℕ → State → State → Addr → Addr → Type 0
CreateTells nodes s t anchor owner = (at : List Addr) × IsTree nodes t anchor owner [] at × Moves s t [] at
