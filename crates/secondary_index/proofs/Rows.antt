-- The rows of an index as the pairs of its tree.
use Rattle.std.proofs.Common.{◌≡◌, ℕ, zero, suc, ◌+◌, ◌≤◌, List, [], ◌∷◌, ◌++◌, length, Result, Ok, Err, refl, sym, ap, subst, arith}
use Rattle.std.specs.Prelude.{map, IsErrAnd, ⊤}
use Rattle.std.specs.List.{AllByRecursion}
use Rattle.std.specs.declared.cmp.Ordering.{Ordering}
use Rattle.std.specs.declared.cmp.Ordering.TheVariants.{Less, Equal, Greater}
use Rattle.std.proofs.lemmas.List.{length-append}
use Rattle.a1_value.specs.declared.value.Value.{Value}
use Rattle.a1_value.specs.declared.value.Value.TheVariants.{Int, Text, Bytes}
use Rattle.a1_value.specs.Encoding.{IsKey, escaped, key_bytes}
use Rattle.a1_base.specs.declared.place.Addr.{Addr}
use Rattle.object_view.specs.Agreement.{State}
use Rattle.object_view.specs.Trees.{IsTree, Becomes}
use Rattle.object_view.specs.declared.parts.PartFault.{PartFault}
use Rattle.object_view.specs.declared.parts.PartFault.TheVariants as part
use Rattle.object_btree.specs.Changes.{InsertTells}
use Rattle.object_view.specs.Keys.{compare, by_order, inserted, removed}
use Rattle.object_view.specs.Layout.{Entry, word_of}
use Rattle.type_schema.specs.Objects.{IndexRow, IsIndexRow, index_key, index_entry}
use Rattle.secondary_index.specs.Changes.{with_row, without_row, IndexBecomes, EnterTells}

-- ---- how long keys are

escaped_short : (bytes : List ℕ) → length (escaped bytes) ≤ length bytes + length bytes
escaped_short [] = omega arith
escaped_short (zero ∷ bytes) = let h = escaped_short bytes in omega (arith, h)
escaped_short (suc b ∷ bytes) = let h = escaped_short bytes in omega (arith, h)

ended_short : (bytes : List ℕ) → length bytes ≤ 256 → length (escaped bytes ++ 0 ∷ 0 ∷ []) ≤ 514
ended_short bytes few =
    let h = escaped_short bytes in
    let l = length-append (escaped bytes) (0 ∷ 0 ∷ []) in
    omega (arith, h, l, few)

key_short : (v : Value) → IsKey v → length (key_bytes v) ≤ 515
key_short (Int n) k = omega arith
key_short (Text t) k = let h = ended_short t k.1 in omega (arith, h)
key_short (Bytes b) k = let h = ended_short b k.1 in omega (arith, h)

-- a row's key is as long as a tree wants
pub row_short : (value key : Value) → IsKey value → IsKey key → length (index_key value key) ≤ 1100
row_short value key v k =
    let a = key_short value v in
    let b = key_short key k in
    let l = length-append (key_bytes value) (key_bytes key) in
    omega (arith, a, b, l)

-- no row's key is empty
pub row_some : (value key : Value) → 1 ≤ length (index_key value key)
row_some (Int n) key = omega arith
row_some (Text t) key = omega arith
row_some (Bytes b) key = omega arith

-- ---- one more row, or one less

-- one more row is one more pair
pub pairs_with : (r : IndexRow) (rows : List IndexRow)
    → map index_entry (with_row r rows) ≡ inserted (index_key r.value r.key) (word_of r.header) (map index_entry rows)
pairs_with r [] = refl
pairs_with r (x ∷ xs) = by (compare (index_key x.value x.key) (index_key r.value r.key)) (pairs_with r xs) where
  by : (o : Ordering) → {more : List Entry} → map index_entry (with_row r xs) ≡ more
      → map index_entry (by_order o (x ∷ with_row r xs) (r ∷ xs) (r ∷ x ∷ xs)) ≡ by_order o (index_entry x ∷ more)
      (index_entry r ∷ map index_entry xs) (index_entry r ∷ index_entry x ∷ map index_entry xs)
  by Less h = ap (λ (t : List Entry). index_entry x ∷ t) h
  by Equal h = refl
  by Greater h = refl

-- one row less is one pair less
pub pairs_without : (value key : Value) (rows : List IndexRow)
    → map index_entry (without_row value key rows) ≡ removed (index_key value key) (map index_entry rows)
pairs_without value key [] = refl
pairs_without value key (x ∷ xs) =
    by (compare (index_key x.value x.key) (index_key value key)) (pairs_without value key xs) where
      by : (o : Ordering) → {less : List Entry} → map index_entry (without_row value key xs) ≡ less
          → map index_entry (by_order o (x ∷ without_row value key xs) xs (x ∷ xs)) ≡ by_order o (index_entry x ∷ less)
          (map index_entry xs) (index_entry x ∷ map index_entry xs)
      by Less h = ap (λ (t : List Entry). index_entry x ∷ t) h
      by Equal h = refl
      by Greater h = refl

-- rows that fit do so with one more that fits
pub fit_with : (r : IndexRow) (rows : List IndexRow) → IsIndexRow r → AllByRecursion IsIndexRow rows
    → AllByRecursion IsIndexRow (with_row r rows)
fit_with r [] f all = (f, tt)
fit_with r (x ∷ xs) f all =
    by (compare (index_key x.value x.key) (index_key r.value r.key)) (fit_with r xs f all.1) where
      by : (o : Ordering) → AllByRecursion IsIndexRow (with_row r xs)
          → AllByRecursion IsIndexRow (by_order o (x ∷ with_row r xs) (r ∷ xs) (r ∷ x ∷ xs))
      by Less h = (all.0, h)
      by Equal h = (f, all.1)
      by Greater h = (f, all)

-- rows that fit do so without one
pub fit_without : (value key : Value) (rows : List IndexRow) → AllByRecursion IsIndexRow rows
    → AllByRecursion IsIndexRow (without_row value key rows)
fit_without value key [] all = tt
fit_without value key (x ∷ xs) all =
    by (compare (index_key x.value x.key) (index_key value key)) (fit_without value key xs all.1) where
      by : (o : Ordering) → AllByRecursion IsIndexRow (without_row value key xs)
          → AllByRecursion IsIndexRow (by_order o (x ∷ without_row value key xs) xs (x ∷ xs))
      by Less h = (all.0, h)
      by Equal h = all.1
      by Greater h = all

-- ---- what the tree's calls tell of an index

-- the rows stand where the pairs stand
pub rows_stand : (nodes : ℕ) (s t : State) (anchor owner : Addr) (places : List Addr) (rows : List IndexRow)
    (pairs : List Entry) → AllByRecursion IsIndexRow rows → map index_entry rows ≡ pairs
    → Becomes nodes s t anchor owner places pairs → IndexBecomes nodes s t anchor owner places rows
rows_stand nodes s t anchor owner places rows pairs fit are b = record {
  now = b.now;
  index = record { fit = fit; tree = subst (λ (es : List Entry). IsTree nodes t anchor owner es b.now) (sym are) b.tree };
  moves = b.moves;
}

-- an insertion's fault handed on by `?`
pub enter_err : (nodes : ℕ) (s t : State) (anchor owner : Addr) (rows : List IndexRow) (places : List Addr)
    (row : IndexRow) (word : ℕ) (r : Result ⊤ PartFault) (e : PartFault) → IsErrAnd r (λ f. f ≡ e)
    → InsertTells nodes s t anchor owner (map index_entry rows) places (index_key row.value row.key) word (Err e)
    → EnterTells nodes s t anchor owner rows places row r
enter_err nodes s t anchor owner rows places row word (Ok x) e h i = absurd h
enter_err nodes s t anchor owner rows places row word (Err f) e h i =
    subst (λ (x : PartFault). EnterTells nodes s t anchor owner rows places row (Err x)) (sym h) (by e i) where
      by : (x : PartFault)
          → InsertTells nodes s t anchor owner (map index_entry rows) places (index_key row.value row.key) word (Err x)
          → EnterTells nodes s t anchor owner rows places row (Err x)
      by part.Memory i = tt
      by (part.Spent n) i = tt
      by (part.Torn a) i = i
      by part.Tall i = i
