-- Which keys stand between the bounds of a scan.
use Rattle.std.proofs.Common.{◌≡◌, ℕ, zero, suc, Bool, true, false, cond, List, [], ◌∷◌, ◌++◌, Option, Some, None, IfSome, option_map, Bor, refl, sym, ap, subst, ◌∙◌, append-nil, arith}
use Rattle.std.specs.Prelude.{not, ◌&&◌, map, take}
use Rattle.std.specs.List.{filter, AllByRecursion}
use Rattle.std.specs.Ordering.{ordering_then, ordering_reverse, nat_cmp}
use Rattle.std.specs.Cmp.{nat_cmp_total, nat_cmp_is}
use Rattle.std.specs.declared.cmp.Ordering.{Ordering}
use Rattle.std.specs.declared.cmp.Ordering.TheVariants.{Less, Equal, Greater}
use Rattle.std.proofs.lemmas.List.{take-map}
use Rattle.std.proofs.lemmas.Cmp.{nat_list_cmp_total}
use Rattle.a1_base.specs.declared.place.Addr.{Addr}
use Rattle.a1_value.specs.declared.value.Value.{Value}
use Rattle.a1_value.specs.declared.value.Value.TheVariants.{Int, Text, Bytes}
use Rattle.a1_value.specs.Encoding.{IsKey, key_bytes}
use Rattle.a1_value.specs.Order.{value_order}
use Rattle.a1_value.specs.OrderLaws.{value_total}
use Rattle.a1_value.proofs.KeyOrder.{value_code}
use Rattle.object_view.specs.Keys.{compare}
use Rattle.object_view.specs.Agreement.{Seen}
use Rattle.object_view.specs.Parts.{ReadsOnly}
use Rattle.object_view.specs.Trees.{Branch, Item}
use Rattle.object_btree.specs.Levels.{RangeReads}
use Rattle.object_view.specs.Layout.{addr_of, word_of}
use Rattle.object_btree.specs.Intervals.{is_within, between, Pair}
use Rattle.object_btree.proofs.Orders.{below_upto, flip}
use Rattle.type_schema.specs.Objects.{IndexRow, IsIndexRow, index_key, index_entry}
use Rattle.type_schema.proofs.ObjectLemmas.{addr_back}
use Rattle.secondary_index.specs.Changes.{is_less, from_low, up_to_high, within, rows_behind, told, greater, low_key, next_key, end_key}

-- from a bound on
abbrev from : List ℕ → List ℕ → Bool
from bound key = not (is_less (compare key bound))

-- ---- a value's bounds

then_greater : (o : Ordering) → is_less (ordering_then o Greater) ≡ is_less o
then_greater Less = refl
then_greater Equal = refl
then_greater Greater = refl

then_less : (o : Ordering) → is_less (ordering_then o Less) ≡ not (is_less (ordering_reverse o))
then_less Less = refl
then_less Equal = refl
then_less Greater = refl

above_none : (v : Value) (rest : List ℕ) → compare (key_bytes v ++ rest) [] ≡ Greater
above_none (Int n) rest = refl
above_none (Text t) rest = refl
above_none (Bytes b) rest = refl

below_end : (v : Value) (rest : List ℕ) → compare (key_bytes v ++ rest) (4 ∷ []) ≡ Less
below_end (Int n) rest = refl
below_end (Text t) rest = refl
below_end (Bytes b) rest = refl

key_more : (v : Value) → compare (key_bytes v) [] ≡ Greater
key_more (Int n) = refl
key_more (Text t) = refl
key_more (Bytes b) = refl

key_end : (v : Value) → compare (key_bytes v) (4 ∷ []) ≡ Less
key_end (Int n) = refl
key_end (Text t) = refl
key_end (Bytes b) = refl

low_is : (low : Option Value) (value key : Value) → IfSome low IsKey → IsKey value
    → from (low_key low) (index_key value key) ≡ from_low low value
low_is None value key l k = ap (λ (o : Ordering). not (is_less o)) (above_none value (key_bytes key))
low_is (Some low) value key l k =
    ap (λ (b : List ℕ). from b (index_key value key)) (sym (append-nil (key_bytes low)))
    ∙ ap (λ (o : Ordering). not (is_less o)) (value_code value low (key_bytes key) [] k.0 l.0
    ∙ ap (ordering_then (value_order value low)) (key_more key))
    ∙ ap not (then_greater (value_order value low))

high_is : (high : Option Value) (value key : Value) → IfSome high IsKey → IsKey value
    → is_less (compare (index_key value key) (end_key high)) ≡ up_to_high high value
high_is None value key h k = ap is_less (below_end value (key_bytes key))
high_is (Some high) value key h k =
    ap is_less (value_code value high (key_bytes key) (4 ∷ []) k.0 h.0
    ∙ ap (ordering_then (value_order value high)) (key_end key))
    ∙ then_less (value_order value high)
    ∙ ap (λ (o : Ordering). not (is_less o)) (sym (value_total.antisymm high value))

-- ---- behind a key

-- whether a key is behind one, where there is one
abbrev behind : Option (List ℕ) → List ℕ → Bool
behind None key = true
behind (Some after) key = is_less (compare after key)

next_is : (a k : List ℕ) → from (a ++ 0 ∷ []) k ≡ is_less (compare a k)
next_is [] [] = refl
next_is [] (zero ∷ []) = refl
next_is [] (zero ∷ y ∷ ys) = refl
next_is [] (suc y ∷ ys) =
    ap (λ (o : Ordering). not (is_less (ordering_then o (compare ys [])))) (sym (nat_cmp_is (suc y) 0 Greater (omega arith)))
next_is (x ∷ xs) [] = refl
next_is (x ∷ xs) (y ∷ ys) =
    by (nat_cmp y x) (next_is xs ys) ∙ ap (λ (o : Ordering). is_less (ordering_then o (compare xs ys)))
    (sym (nat_cmp_total.antisymm x y)) where
      by : (o : Ordering) → from (xs ++ 0 ∷ []) ys ≡ is_less (compare xs ys)
          → not (is_less (ordering_then o (compare ys (xs ++ 0 ∷ [])))) ≡ is_less (ordering_then (ordering_reverse o) (compare xs ys))
      by Less h = refl
      by Equal h = h
      by Greater h = refl

behind_is : (after : Option (List ℕ)) (value key : Value)
    → from (next_key after) (index_key value key) ≡ behind after (index_key value key)
behind_is None value key = ap (λ (o : Ordering). not (is_less o)) (above_none value (key_bytes key))
behind_is (Some a) value key = next_is a (index_key value key)

-- ---- the greater of two bounds

from_yes : (bound key : List ℕ) → (compare key bound ≡ Less → ⊥) → from bound key ≡ true
from_yes bound key n = by (compare key bound) n where
  by : (o : Ordering) → (o ≡ Less → ⊥) → not (is_less o) ≡ true
  by Less n = absurd (n refl)
  by Equal n = refl
  by Greater n = refl

first_and : (p : Ordering) (b : Bool) → ((p ≡ Less → ⊥) → b ≡ true) → not (is_less p) ≡ not (is_less p) && b
first_and Less b h = refl
first_and Equal b h = sym (h (λ e. cc))
first_and Greater b h = sym (h (λ e. cc))

last_and : (p : Ordering) (b : Bool) → ((p ≡ Less → ⊥) → b ≡ true) → not (is_less p) ≡ b && not (is_less p)
last_and Less true h = refl
last_and Less false h = refl
last_and Equal b h = sym (ap (λ (x : Bool). x && true) (h (λ e. cc)))
last_and Greater b h = sym (ap (λ (x : Bool). x && true) (h (λ e. cc)))

greater_is : (a b k : List ℕ) → from (greater a b) k ≡ from a k && from b k
greater_is a b k = by (compare a b) refl where
  upper : (compare a b ≡ Less → ⊥) → from a k ≡ from a k && from b k
  upper n = first_and (compare k a) (from b k) (λ m. from_yes b k (λ l. m (below_upto k (Some b) (Some a) l
      (λ g. n (flip b a g)))))

  by : (o : Ordering) → compare a b ≡ o → from (cond (is_less o) b a) k ≡ from a k && from b k
  by Less e = last_and (compare k b) (from a k) (λ m. from_yes a k (λ l. m (nat_list_cmp_total.trans k a b l e)))
  by Equal e = upper (λ l. cc)
  by Greater e = upper (λ l. cc)

-- a bound that is given as a reference
pub if_some : (o : Option (Bor Value)) → IfSome o (λ v. IsKey v.now) → IfSome (option_map (λ v. v.now) o) IsKey
if_some None h = tt
if_some (Some v) h = h

-- ---- rows

within_is : (o p : Ordering) → is_within o p ≡ not (is_less o) && is_less p
within_is Less p = refl
within_is Equal Less = refl
within_is Equal Equal = refl
within_is Equal Greater = refl
within_is Greater Less = refl
within_is Greater Equal = refl
within_is Greater Greater = refl

swapped : (a b c : Bool) → (a && b) && c ≡ (a && c) && b
swapped true true true = refl
swapped true true false = refl
swapped true false true = refl
swapped true false false = refl
swapped false b c = refl

-- which rows a range finds
row_is : (low high : Option Value) (after : Option (List ℕ)) (r : IndexRow) → IfSome low IsKey → IfSome high IsKey
    → IsIndexRow r
    → is_within (compare (index_key r.value r.key) (greater (low_key low) (next_key after))) (compare (index_key r.value r.key) (end_key high))
    ≡ (from_low low r.value && up_to_high high r.value) && behind after (index_key r.value r.key)
row_is low high after r l h fit =
    let k : List ℕ = index_key r.value r.key in
    within_is (compare k (greater (low_key low) (next_key after))) (compare k (end_key high))
    ∙ ap (λ (b : Bool). b && is_less (compare k (end_key high))) (greater_is (low_key low) (next_key after) k
    ∙ ap (λ (b : Bool). b && from (next_key after) k) (low_is low r.value r.key l fit.value)
    ∙ ap (λ (b : Bool). from_low low r.value && b) (behind_is after r.value r.key))
    ∙ ap (λ (b : Bool). (from_low low r.value && behind after k) && b) (high_is high r.value r.key h fit.value)
    ∙ swapped (from_low low r.value) (behind after k) (up_to_high high r.value)

-- a pair and a row that are both taken or both left out
pick : {A B C : Type 0} (f : A → C) (g : B → C) (test : B → Bool) (p : A) (ps : List A) (x : B) (xs : List B)
    (w q : Bool) → w ≡ q && test x → f p ≡ g x → map f ps ≡ map g (filter test xs)
    → map f (cond w (p ∷ ps) ps) ≡ map g (filter test (cond q (x ∷ xs) xs))
pick f g test p ps x xs w false e h more = ap (λ (c : Bool). map f (cond c (p ∷ ps) ps)) e ∙ more
pick f g test p ps x xs w true e h more = ap (λ (c : Bool). map f (cond c (p ∷ ps) ps)) e ∙ by (test x) where
  by : (b : Bool) → map f (cond b (p ∷ ps) ps) ≡ map g (cond b (x ∷ filter test xs) (filter test xs))
  by true = ap (λ t. f p ∷ t) more ∙ ap (λ y. y ∷ map g (filter test xs)) h
  by false = more

-- a pair of the tree with the address that its word is
abbrev pub addressed : Pair → List ℕ × Addr
addressed p = (p.0, addr_of p.1)

abbrev is_behind : Option (List ℕ) → IndexRow → Bool
is_behind after r = behind after (index_key r.value r.key)

behind_all : (rows : List IndexRow) → filter (λ r. true) rows ≡ rows
behind_all [] = refl
behind_all (x ∷ xs) = ap (λ (t : List IndexRow). x ∷ t) (behind_all xs)

behind_rows : (after : Option (List ℕ)) (rows : List IndexRow) → filter (is_behind after) rows ≡ rows_behind after rows
behind_rows None rows = behind_all rows
behind_rows (Some key) rows = refl

ranged : (low high : Option Value) (after : Option (List ℕ)) → IfSome low IsKey → IfSome high IsKey
    → (rows : List IndexRow) → AllByRecursion IsIndexRow rows
    → map addressed (between (greater (low_key low) (next_key after)) (end_key high) (map index_entry rows))
    ≡ map told (filter (is_behind after) (within low high rows))
ranged low high after l h [] all = refl
ranged low high after l h (x ∷ xs) all =
    pick addressed told (is_behind after) (index_key x.value x.key, word_of x.header)
    (between (greater (low_key low) (next_key after)) (end_key high) (map index_entry xs)) x (within low high xs)
    (is_within (compare (index_key x.value x.key) (greater (low_key low) (next_key after)))
    (compare (index_key x.value x.key) (end_key high))) (from_low low x.value && up_to_high high x.value)
    (row_is low high after x l h all.0)
    (ap (λ (a : Addr). (index_key x.value x.key, a)) (addr_back x.header all.0.header))
    (ranged low high after l h xs all.1)

-- the first pairs of the range are the first rows that are wanted
pub scanned : (low high : Option Value) (after : Option (List ℕ)) (limit : ℕ) (rows : List IndexRow)
    → IfSome low IsKey → IfSome high IsKey → AllByRecursion IsIndexRow rows
    → map addressed (take limit (between (greater (low_key low) (next_key after)) (end_key high) (map index_entry rows)))
    ≡ map told (take limit (rows_behind after (within low high rows)))
scanned low high after limit rows l h all =
    sym (take-map addressed limit (between (greater (low_key low) (next_key after)) (end_key high) (map index_entry rows)))
    ∙ ap (take limit) (ranged low high after l h rows all
    ∙ ap (map told) (behind_rows after (within low high rows)))
    ∙ take-map told limit (rows_behind after (within low high rows))

-- what a range reads, by the same bounds
pub range_reads : (anchor : Addr) (d : ℕ) (root : Branch (Item d)) (from to from' to' : List ℕ) (limit : ℕ)
    (old new : List Seen) → from ≡ from' → to ≡ to' → ReadsOnly (RangeReads anchor d root from to limit) old new
    → ReadsOnly (RangeReads anchor d root from' to' limit) old new
range_reads anchor d root from to from' to' limit old new e f r =
    subst (λ (b : List ℕ). ReadsOnly (RangeReads anchor d root from' b limit) old new) f
    (subst (λ (a : List ℕ). ReadsOnly (RangeReads anchor d root a to limit) old new) e r)
