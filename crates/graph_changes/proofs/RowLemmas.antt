-- Store values and changes read back.
use Rattle.std.proofs.Common.{◌≡◌, ℕ, zero, suc, ◌<◌, ◌≤◌, ◌^◌, Bool, true, List, [], ◌∷◌, ◌++◌, length, Option, Some, None, refl, sym, ap, subst, ◌∙◌, arith, nat_eq, nat_le}
use Rattle.std.specs.Prelude.{IsTrue, IfSome, is_some, option_map}
use Rattle.std.specs.Int.{w32, w64, to_be_bytes}
use Rattle.std.proofs.lemmas.Bool.{false≢true, and_parts, leb-true, eqb-true, ne_eqb}
use Rattle.std.proofs.lemmas.List.{nil_from_length, length-append}
use Rattle.std.proofs.lemmas.Option.{same_Some, cond_some, none-some}
use Rattle.a1_base.specs.declared.limits.TheConstants.{GRAPH_NUMBER_LIMIT}
use Rattle.a1_base.specs.Fronts.{IsBytes, Front, byte, number, both, made, tested, sized, whole, inside, Exact, ExactWhole}
use Rattle.a1_base.proofs.Exact.{bytes_front, bytes_behind, mapped_some, byte_exact, number32_exact, number64_exact, tested_exact, made_exact, both_exact, sized_exact, inside_exact, whole_exact, same_exact}
use Rattle.a1_value.specs.declared.value.Value.{Value}
use Rattle.a1_value.specs.declared.value.Value.TheVariants.{Int, Text, Bytes}
use Rattle.a1_value.specs.Encoding.{IsKey, key_bytes}
use Rattle.a1_value.proofs.Escapes.{escaped_length, few_zeros}
use Rattle.type_schema.specs.declared.rows.StoreKey.{StoreKey}
use Rattle.type_schema.specs.declared.rows.StoreKey.TheVariants as key
use Rattle.type_schema.specs.declared.rows.StoreValue.{StoreValue}
use Rattle.type_schema.specs.declared.rows.StoreValue.TheVariants as value
use Rattle.type_schema.specs.declared.rows.TypeSchema.{TypeSchema}
use Rattle.type_schema.specs.declared.rows.TypeSchema.TheVariants.{OfVertices, OfEdges}
use Rattle.type_schema.specs.declared.rows.Change.{Change}
use Rattle.type_schema.specs.Layout.{name_bytes, schema_bytes, record_bytes, type_bytes, row_key, row_value, block, value_part, change_bytes}
use Rattle.type_schema.specs.Schemas.{Schema}
use Rattle.type_schema.specs.Formed.{is_counter, is_graph_number, is_vertex_list, is_edge_list, is_list, is_type, IsRecord, IsStoreKey, FitsKey, IsValueOf, HasForm}
use Rattle.type_schema.specs.Reading.{schema_front, record_front}
use Rattle.type_schema.proofs.LayoutLemmas.{schema_exact, record_exact}
use Rattle.graph_changes.specs.Reading.{key_whole, graph_number_front, counter_front, schema_of, is_type_tag, type_schema_front, value_whole, part_of_tag, value_part_front, is_value_part, change_front}
use Rattle.type_schema.proofs.SchemaLemmas.{short}
use Rattle.graph_changes.proofs.SizeLemmas.{value_short}
use Rattle.graph_changes.proofs.KeyLemmas.{whole_takes, graph_number_exact, key_exact_whole}

-- ---- values

counter_below : (n : ℕ) → is_counter n ≡ true → n < 2 ^ 64
counter_below n h = let le = leb-true n GRAPH_NUMBER_LIMIT (and_parts (nat_le 2 n) _ h).1 in omega (arith, le)

counter_exact : Exact counter_front (to_be_bytes w64) (λ n. IsTrue (is_counter n))
unfolding counter_front
counter_exact = same_exact (tested is_counter (number w64)) (to_be_bytes w64) (λ n. (n < 2 ^ 64) × (is_counter n ≡ true)) (λ n. IsTrue (is_counter n))
    (tested_exact (number w64) (to_be_bytes w64) (λ n. n < 2 ^ 64) number64_exact is_counter) (λ n h. h.1) (λ n h. (counter_below n h, h))

abbrev type_parts : TypeSchema → ℕ × Schema
type_parts (OfVertices schema) = (1, schema)
type_parts (OfEdges schema) = (2, schema)

abbrev parts_bytes : ℕ × Schema → List ℕ
parts_bytes x = x.0 ∷ schema_bytes x.1

abbrev ArePartsOf : ℕ × Schema → Type 0
ArePartsOf x = ((x.0 < 256) × (is_type_tag x.0 ≡ true)) × IsTrue (is_list x.1)

parts_back : (tag : ℕ) (schema : Schema) → is_type_tag tag ≡ true → type_parts (schema_of tag schema) ≡ (tag, schema)
parts_back zero schema h = absurd (false≢true h)
parts_back (suc zero) schema h = refl
parts_back (suc (suc zero)) schema h = refl
parts_back (suc (suc (suc n))) schema h =
    let few = leb-true (suc (suc (suc n))) 2 (and_parts (nat_le 1 (suc (suc (suc n)))) (nat_le (suc (suc (suc n))) 2) h).1 in
    absurd (omega (arith, few))

parts_there : (t : TypeSchema) → schema_of (type_parts t).0 (type_parts t).1 ≡ t
parts_there (OfVertices schema) = refl
parts_there (OfEdges schema) = refl

spelled : (t : TypeSchema) → parts_bytes (type_parts t) ≡ type_bytes t
spelled (OfVertices schema) = refl
spelled (OfEdges schema) = refl

parts_fit : (t : TypeSchema) → is_type t ≡ true → ArePartsOf (type_parts t)
unfolding is_type
parts_fit (OfVertices schema) h = ((omega arith, refl), (and_parts (is_vertex_list schema) (is_list schema) h).1)
parts_fit (OfEdges schema) h = ((omega arith, refl), (and_parts (is_edge_list schema) (is_list schema) h).1)

abbrev parts_front : Front (ℕ × Schema)
parts_front = both (tested is_type_tag byte) schema_front

parts_exact : Exact (made (λ x. schema_of x.0 x.1) parts_front) (λ t. parts_bytes (type_parts t)) (λ t. ArePartsOf (type_parts t))
parts_exact = made_exact parts_front parts_bytes ArePartsOf
    (both_exact (tested is_type_tag byte) (λ n. n ∷ []) (λ n. (n < 256) × (is_type_tag n ≡ true)) (tested_exact byte (λ n. n ∷ []) (λ n. n < 256) byte_exact is_type_tag)
    schema_front schema_bytes (λ schema. IsTrue (is_list schema)) schema_exact)
    (λ x. schema_of x.0 x.1) type_parts (λ x h. parts_back x.0 x.1 h.0.1) (λ t h. parts_there t)

-- the same bytes, said otherwise
respelled : {A : Type 0} (p : Front A) (s t : A → List ℕ) (P : A → Type 0) → ((a : A) → s a ≡ t a) → Exact p s P → Exact p t P
respelled p s t P same first = record {
  takes = λ bytes a fits e. let one = first.takes bytes a fits e in (one.0, one.1 ∙ ap (λ z. z ++ a.1) (same a.0));
  again = λ a rest h. ap (λ z. p (z ++ rest)) (sym (same a)) ∙ first.again a rest h;
}

type_schema_exact : Exact type_schema_front type_bytes (λ t. IsTrue (is_type t))
unfolding type_schema_front
type_schema_exact = respelled (tested is_type (made (λ x. schema_of x.0 x.1) parts_front)) (λ t. parts_bytes (type_parts t)) type_bytes (λ t. IsTrue (is_type t)) spelled
    (same_exact (tested is_type (made (λ x. schema_of x.0 x.1) parts_front)) (λ t. parts_bytes (type_parts t)) (λ t. ArePartsOf (type_parts t) × (is_type t ≡ true)) (λ t. IsTrue (is_type t))
    (tested_exact (made (λ x. schema_of x.0 x.1) parts_front) (λ t. parts_bytes (type_parts t)) (λ t. ArePartsOf (type_parts t)) parts_exact is_type)
    (λ t h. h.1) (λ t h. (parts_fit t h, h)))

counter_whole : ExactWhole (whole counter_front) (to_be_bytes w64) (λ n. IsTrue (is_counter n))
counter_whole = whole_exact counter_front (to_be_bytes w64) (λ n. IsTrue (is_counter n)) counter_exact

graph_number_whole : ExactWhole (whole graph_number_front) (to_be_bytes w64) (λ n. IsTrue (is_graph_number n))
graph_number_whole = whole_exact graph_number_front (to_be_bytes w64) (λ n. IsTrue (is_graph_number n)) graph_number_exact

type_whole : ExactWhole (whole type_schema_front) type_bytes (λ t. IsTrue (is_type t))
type_whole = whole_exact type_schema_front type_bytes (λ t. IsTrue (is_type t)) type_schema_exact

record_whole : ExactWhole (whole record_front) record_bytes IsRecord
record_whole = whole_exact record_front record_bytes IsRecord record_exact

value_takes : (k : StoreKey) (bytes : List ℕ) (v : StoreValue) → IsBytes bytes → value_whole k bytes ≡ Some v → FitsKey k v × (bytes ≡ row_value v)
unfolding value_whole
value_takes key.Counter bytes v fits e = whole_takes (whole counter_front) (to_be_bytes w64) (λ n. IsTrue (is_counter n)) counter_whole value.Number row_value (FitsKey key.Counter) [] (λ n h. (h, refl)) bytes v fits e
value_takes (key.Tenant t) bytes v fits e =
    let c = cond_some (nat_eq (length bytes) 0) value.Nothing v e in
    subst (λ (y : StoreValue). FitsKey (key.Tenant t) y × (bytes ≡ row_value y)) c.1 (tt, nil_from_length bytes (eqb-true _ _ c.0))
value_takes (key.Graph g) bytes v fits e = whole_takes (whole graph_number_front) (to_be_bytes w64) (λ n. IsTrue (is_graph_number n)) graph_number_whole value.Number row_value (FitsKey (key.Graph g)) [] (λ n h. (h, refl)) bytes v fits e
value_takes (key.TypeKey t) bytes v fits e = whole_takes (whole type_schema_front) type_bytes (λ s. IsTrue (is_type s)) type_whole value.Schema row_value (FitsKey (key.TypeKey t)) [] (λ s h. (h, refl)) bytes v fits e
value_takes (key.Vertex x) bytes v fits e = whole_takes (whole record_front) record_bytes IsRecord record_whole value.Record row_value (FitsKey (key.Vertex x)) [] (λ r h. (h, refl)) bytes v fits e
value_takes (key.Edge x) bytes v fits e = whole_takes (whole record_front) record_bytes IsRecord record_whole value.Record row_value (FitsKey (key.Edge x)) [] (λ r h. (h, refl)) bytes v fits e

value_again : (k : StoreKey) (v : StoreValue) → FitsKey k v → value_whole k (row_value v) ≡ Some v
unfolding value_whole
value_again key.Counter (value.Number n) h = ap (option_map value.Number) (counter_whole.again n h)
value_again (key.Tenant t) value.Nothing h = refl
value_again (key.Graph g) (value.Number n) h = ap (option_map value.Number) (graph_number_whole.again n h)
value_again (key.TypeKey t) (value.Schema s) h = ap (option_map value.Schema) (type_whole.again s h)
value_again (key.Vertex x) (value.Record r) h = ap (option_map value.Record) (record_whole.again r h)
value_again (key.Edge x) (value.Record r) h = ap (option_map value.Record) (record_whole.again r h)
value_again k v h = absurd h

pub value_exact_whole : (k : StoreKey) → ExactWhole (value_whole k) row_value (FitsKey k)
value_exact_whole k = record { takes = value_takes k; again = value_again k }

-- ---- the part of a value

abbrev Fits32 : List ℕ → Type 0
Fits32 bytes = length bytes < 2 ^ 32

block_exact : Exact (sized (number w32)) block Fits32
block_exact = sized_exact (number w32) (to_be_bytes w32) (λ n. n < 2 ^ 32) number32_exact

part_takes : (bytes : List ℕ) (v : Option (List ℕ) × List ℕ) → IsBytes bytes → value_part_front bytes ≡ Some v → IfSome v.0 Fits32 × (bytes ≡ value_part v.0 ++ v.1)
unfolding value_part_front
part_takes [] v fits e = absurd (none-some v e)
part_takes (zero ∷ bytes) v fits e = subst (λ (y : Option (List ℕ) × List ℕ). IfSome y.0 Fits32 × (0 ∷ bytes ≡ value_part y.0 ++ y.1)) (same_Some (None, bytes) v e) (tt, refl)
part_takes (suc zero ∷ bytes) v fits e = mapped_some (λ (b : List ℕ × List ℕ). (Some b.0, b.1)) (sized (number w32) bytes) v e (λ b found same.
    let one = block_exact.takes bytes b (bytes_behind (1 ∷ []) bytes fits) found in
    subst (λ (y : Option (List ℕ) × List ℕ). IfSome y.0 Fits32 × (1 ∷ bytes ≡ value_part y.0 ++ y.1)) same (one.0, ap (λ z. 1 ∷ z) one.1))
part_takes (suc (suc n) ∷ bytes) v fits e = absurd (none-some v (sym (no_part n bytes) ∙ e))
  where
    no_part : (n : ℕ) (bytes : List ℕ) → part_of_tag (suc (suc n)) bytes ≡ None
    no_part n bytes = rw (ne_eqb (suc (suc n)) 0 (omega arith), ne_eqb (suc (suc n)) 1 (omega arith)) refl

part_again : (v : Option (List ℕ)) (rest : List ℕ) → IfSome v Fits32 → value_part_front (value_part v ++ rest) ≡ Some (v, rest)
unfolding value_part_front
part_again None rest h = refl
part_again (Some b) rest h = ap (option_map (λ (a : List ℕ × List ℕ). (Some a.0, a.1))) (block_exact.again b rest h)

part_exact : Exact value_part_front value_part (λ v. IfSome v Fits32)
part_exact = record { takes = part_takes; again = part_again }

-- ---- how long keys are

key_length : (v : Value) → IsKey v → length (key_bytes v) ≤ 515
key_length (Int n) h = omega arith
key_length (Text t) h = omega (arith, escaped_length t, few_zeros t, h.1)
key_length (Bytes b) h = omega (arith, escaped_length b, few_zeros b, h.1)

-- a length that fits 32 bits
row_key_short : (k : StoreKey) → IsStoreKey k → Fits32 (row_key k)
row_key_short key.Counter h = omega arith
row_key_short (key.Tenant t) h = omega (arith, short t h)
row_key_short (key.Graph g) h = omega (arith, short g.tenant h.0, short g.name h.1, length-append g.tenant (47 ∷ g.name))
row_key_short (key.TypeKey t) h = omega (arith, short t.name h.1, length-append (to_be_bytes w64 t.graph) (name_bytes t.name))
row_key_short (key.Vertex v) h =
    let first = length-append (to_be_bytes w64 v.graph) (name_bytes v.kind ++ key_bytes v.key) in
    let second = length-append (name_bytes v.kind) (key_bytes v.key) in
    omega (arith, short v.kind h.1.0, key_length v.key h.1.1, first, second)
row_key_short (key.Edge e) h =
    let a = length-append (to_be_bytes w64 e.graph) (name_bytes e.kind ++ (name_bytes e.from_kind ++ (key_bytes e.from ++ (name_bytes e.to_kind ++ key_bytes e.to)))) in
    let b = length-append (name_bytes e.kind) (name_bytes e.from_kind ++ (key_bytes e.from ++ (name_bytes e.to_kind ++ key_bytes e.to))) in
    let c = length-append (name_bytes e.from_kind) (key_bytes e.from ++ (name_bytes e.to_kind ++ key_bytes e.to)) in
    let d = length-append (key_bytes e.from) (name_bytes e.to_kind ++ key_bytes e.to) in
    let f = length-append (name_bytes e.to_kind) (key_bytes e.to) in
    omega (arith, short e.kind h.1, short e.from_kind h.2.0, key_length e.from h.2.1, short e.to_kind h.3.0, key_length e.to h.3.1, a, b, c, d, f)

-- ---- changes

abbrev keyed_front : Front (StoreKey × Option (List ℕ))
keyed_front = both (inside (sized (number w32)) key_whole) value_part_front

abbrev keyed_bytes : StoreKey × Option (List ℕ) → List ℕ
keyed_bytes x = block (row_key x.0) ++ value_part x.1

abbrev Keyed : StoreKey × Option (List ℕ) → Type 0
Keyed x = (IsStoreKey x.0 × Fits32 (row_key x.0)) × IfSome x.1 Fits32

abbrev fit : StoreKey × Option (List ℕ) → Bool
fit x = is_value_part x.0 x.1

abbrev change_of : StoreKey × Option (List ℕ) → Change
change_of x = record { key = x.0; value = x.1 }

abbrev parts_of : Change → StoreKey × Option (List ℕ)
parts_of c = (c.key, c.value)

keyed_exact : Exact keyed_front keyed_bytes Keyed
keyed_exact = both_exact (inside (sized (number w32)) key_whole) (λ k. block (row_key k)) (λ k. IsStoreKey k × Fits32 (row_key k))
    (inside_exact (number w32) (to_be_bytes w32) (λ n. n < 2 ^ 32) number32_exact key_whole row_key IsStoreKey key_exact_whole)
    value_part_front value_part (λ v. IfSome v Fits32) part_exact

changed_exact : Exact (made change_of (tested fit keyed_front)) change_bytes (λ c. Keyed (parts_of c) × (fit (parts_of c) ≡ true))
changed_exact = made_exact (tested fit keyed_front) keyed_bytes (λ x. Keyed x × (fit x ≡ true)) (tested_exact keyed_front keyed_bytes Keyed keyed_exact fit)
    change_of parts_of (λ x h. refl) (λ c h. refl)

some_of : {A : Type 0} (o : Option A) → is_some o ≡ true → (a : A) × (o ≡ Some a)
some_of (Some a) h = (a, refl)
some_of None h = absurd (false≢true h)

value_is : (k : StoreKey) (v : Option (List ℕ)) → IsBytes (value_part v) → is_value_part k v ≡ true → IfSome v (IsValueOf k)
value_is k None fits h = tt
value_is k (Some b) fits h =
    let found = some_of (value_whole k b) h in
    let one = (value_exact_whole k).takes b found.0 (bytes_behind (1 ∷ to_be_bytes w32 (length b)) b fits) found.1 in
    (found.0, one.0, one.1)

is_value : (k : StoreKey) (v : Option (List ℕ)) → IfSome v (IsValueOf k) → is_value_part k v ≡ true
is_value k None h = refl
is_value k (Some b) h = ap (λ z. is_some (value_whole k z)) h.2 ∙ ap is_some ((value_exact_whole k).again h.0 h.1)

value_fits : (k : StoreKey) (v : Option (List ℕ)) → IfSome v (IsValueOf k) → IfSome v Fits32
value_fits k None h = tt
value_fits k (Some b) h = omega (arith, value_short k b h)

change_takes : (bytes : List ℕ) (c : Change × List ℕ) → IsBytes bytes → change_front bytes ≡ Some c → HasForm c.0 × (bytes ≡ change_bytes c.0 ++ c.1)
unfolding change_front
change_takes bytes c fits e =
    let one = changed_exact.takes bytes c fits e in
    let part = bytes_behind (block (row_key c.0.key)) (value_part c.0.value) (bytes_front (change_bytes c.0) c.1 (subst IsBytes one.1 fits)) in
    ((one.0.0.0.0, value_is c.0.key c.0.value part one.0.1), one.1)

change_again : (c : Change) (rest : List ℕ) → HasForm c → change_front (change_bytes c ++ rest) ≡ Some (c, rest)
unfolding change_front
change_again c rest h = changed_exact.again c rest (((h.0, row_key_short c.key h.0), value_fits c.key c.value h.1), is_value c.key c.value h.1)

pub change_exact : Exact change_front change_bytes HasForm
change_exact = record { takes = change_takes; again = change_again }

-- what the law of the rows cites
pub ruleset rows = (key_exact_whole, value_exact_whole, change_exact)
