-- What the calls on an index say.
use Rattle.std.specs.Prelude.{◌≡◌, ℕ, Bool, true, false, not, ◌&&◌, cond, List, [], ◌∷◌, ◌++◌, map, Option, Some, None, is_some, Result, Ok, Err, ⊤}
use Rattle.std.specs.List.{filter}
use Rattle.std.specs.declared.cmp.Ordering.{Ordering}
use Rattle.std.specs.declared.cmp.Ordering.TheVariants.{Less, Equal, Greater}
use Rattle.a1_base.specs.declared.place.Addr.{Addr}
use Rattle.a1_value.specs.declared.value.Value.{Value}
use Rattle.a1_value.specs.Order.{value_order}
use Rattle.a1_value.specs.Encoding.{key_bytes}
use Rattle.object_view.specs.Agreement.{State}
use Rattle.object_view.specs.Keys.{compare, by_order, lookup}
use Rattle.object_view.specs.Parts.{Moves}
use Rattle.object_view.specs.declared.parts.PartFault.{PartFault}
use Rattle.object_view.specs.declared.parts.PartFault.TheVariants as part
use Rattle.object_btree.specs.Levels.{TallAt, RangeReads}
use Rattle.type_schema.specs.Objects.{IndexRow, index_key, index_entry}
use Rattle.type_schema.specs.Structures.{IsIndex}

-- from a state to another: the index came to stand with these rows, on the old places, less those that were freed, with
-- fresh ones
pub record IndexBecomes (nodes : ℕ) (s t : State) (anchor owner : Addr) (places : List Addr)
    (rows : List IndexRow) : Type 0 where
  pub now : List Addr
  pub index : IsIndex nodes t anchor owner rows now
  pub moves : Moves s t places now

-- with one more row, or with another header in the row of this value and key
abbrev pub with_row : IndexRow → List IndexRow → List IndexRow
with_row r [] = r ∷ []
with_row r (x ∷ xs) = by_order (compare (index_key x.value x.key) (index_key r.value r.key)) (x ∷ with_row r xs)
    (r ∷ xs) (r ∷ x ∷ xs)

-- without the row of a value and a key
abbrev pub without_row : Value → Value → List IndexRow → List IndexRow
without_row value key [] = []
without_row value key (x ∷ xs) = by_order (compare (index_key x.value x.key) (index_key value key))
    (x ∷ without_row value key xs) xs (x ∷ xs)

-- whether the value and the key have a row
abbrev pub has_row : Value → Value → List IndexRow → Bool
has_row value key rows = is_some (lookup (index_key value key) (map index_entry rows))

-- the index stands with one more row; Tall comes where its tree would need a 17th level
abbrev pub EnterTells : ℕ → State → State → Addr → Addr → List IndexRow → List Addr → IndexRow → Result ⊤ PartFault
    → Type 0
EnterTells nodes s t anchor owner rows places row (Ok x) =
    IndexBecomes nodes s t anchor owner places (with_row row rows)
EnterTells nodes s t anchor owner rows places row (Err part.Memory) = ⊤
EnterTells nodes s t anchor owner rows places row (Err (part.Spent n)) = ⊤
EnterTells nodes s t anchor owner rows places row (Err (part.Torn a)) = ⊥
EnterTells nodes s t anchor owner rows places row (Err part.Tall) =
    TallAt nodes s anchor owner (map index_entry rows) places (index_key row.value row.key)

-- the index stands without the row; the answer is whether there was one
pub record LeaveTells (nodes : ℕ) (s t : State) (anchor owner : Addr) (rows : List IndexRow) (places : List Addr)
    (value key : Value) (was : Bool) : Type 0 where
  pub was_there : was ≡ has_row value key rows
  pub becomes : IndexBecomes nodes s t anchor owner places (without_row value key rows)

abbrev pub is_less : Ordering → Bool
is_less Less = true
is_less Equal = false
is_less Greater = false

-- not below a first value, nor above a last one
abbrev pub from_low : Option Value → Value → Bool
from_low None v = true
from_low (Some low) v = not (is_less (value_order v low))

abbrev pub up_to_high : Option Value → Value → Bool
up_to_high None v = true
up_to_high (Some high) v = not (is_less (value_order high v))

abbrev pub within : Option Value → Option Value → List IndexRow → List IndexRow
within low high rows = filter (λ r. from_low low r.value && up_to_high high r.value) rows

-- those behind a key of the index
abbrev pub rows_behind : Option (List ℕ) → List IndexRow → List IndexRow
rows_behind None rows = rows
rows_behind (Some key) rows = filter (λ r. is_less (compare key (index_key r.value r.key))) rows

-- what a scan answers of a row: its key in the index, and the header
abbrev pub told : IndexRow → List ℕ × Addr
told row = (index_key row.value row.key, row.header)

-- the greater of two keys
abbrev pub greater : List ℕ → List ℕ → List ℕ
greater a b = cond (is_less (compare a b)) b a

-- the least key of a row from a value on
abbrev pub low_key : Option Value → List ℕ
low_key None = []
low_key (Some v) = key_bytes v

-- the least key behind a key
abbrev pub next_key : Option (List ℕ) → List ℕ
next_key None = []
next_key (Some key) = key ++ 0 ∷ []

-- above the keys of all rows up to a value: a key begins with 1, 2 or 3
abbrev pub end_key : Option Value → List ℕ
end_key None = 4 ∷ []
end_key (Some v) = key_bytes v ++ 4 ∷ []

-- what a scan reads: what a range from key to key reads
abbrev pub ScanReads : (nodes : ℕ) (s : State) (anchor owner : Addr) (rows : List IndexRow) (places : List Addr)
    → IsIndex nodes s anchor owner rows places → Option Value → Option Value → Option (List ℕ) → ℕ → Addr → Type 0
ScanReads nodes s anchor owner rows places index low high after limit a =
    RangeReads anchor index.tree.height index.tree.root (greater (low_key low) (next_key after)) (end_key high) limit a
