-- The value of a row is no longer than a record may be.
use Rattle.std.proofs.Common.{◌≡◌, ℕ, ◌*◌, ◌<◌, ◌≤◌, List, [], ◌∷◌, length, true, ap, arith, length-append}
use Rattle.std.specs.Prelude.{IsTrue}
use Rattle.std.specs.List.{list_all, flat_map}
use Rattle.std.proofs.lemmas.Bool.{and_parts, leb-true}
use Rattle.a1_base.specs.declared.limits.TheConstants.{ATTRIBUTE_LIMIT, RECORD_LIMIT}
use Rattle.type_schema.specs.declared.schema.Attr.{Attr}
use Rattle.type_schema.specs.declared.rows.StoreKey.{StoreKey}
use Rattle.type_schema.specs.declared.rows.StoreKey.TheVariants as key
use Rattle.type_schema.specs.declared.rows.StoreValue.{StoreValue}
use Rattle.type_schema.specs.declared.rows.StoreValue.TheVariants as value
use Rattle.type_schema.specs.declared.rows.TypeSchema.{TypeSchema}
use Rattle.type_schema.specs.declared.rows.TypeSchema.TheVariants.{OfVertices, OfEdges}
use Rattle.type_schema.specs.Names.{is_name}
use Rattle.type_schema.specs.Layout.{name_bytes, kind_code, flag, attr_bytes, schema_bytes, type_bytes, row_value}
use Rattle.type_schema.specs.Formed.{is_list, is_type, FitsKey, IsValueOf}
use Rattle.type_schema.proofs.SchemaLemmas.{short, list_of_vertices, list_of_edges}

attr_short : (a : Attr) → is_name a.name ≡ true → length (attr_bytes a) ≤ 258
attr_short a h =
    let name = short a.name h in
    let sum = length-append (name_bytes a.name) (kind_code a.kind ∷ flag a.index ∷ []) in
    omega (arith, name, sum)

attrs_short : (schema : List Attr) → list_all (λ a. is_name a.name) schema ≡ true → length (flat_map attr_bytes schema) ≤ 258 * length schema
attrs_short [] h = omega arith
attrs_short (a ∷ schema) h =
    let parts = and_parts (is_name a.name) _ h in
    let first = attr_short a parts.0 in
    let more = attrs_short schema parts.1 in
    let sum = length-append (attr_bytes a) (flat_map attr_bytes schema) in
    omega (arith, first, more, sum)

schema_short : (schema : List Attr) → IsTrue (is_list schema) → length (schema_bytes schema) < RECORD_LIMIT
unfolding is_list
schema_short schema h =
    let parts = and_parts _ _ h in
    let few = leb-true (length schema) ATTRIBUTE_LIMIT parts.0 in
    let each = attrs_short schema (and_parts _ _ parts.1).0 in
    omega (arith, few, each)

type_short : (schema : TypeSchema) → IsTrue (is_type schema) → length (type_bytes schema) ≤ RECORD_LIMIT
type_short (OfVertices schema) h = let k = schema_short schema (list_of_vertices schema h) in omega (arith, k)
type_short (OfEdges schema) h = let k = schema_short schema (list_of_edges schema h) in omega (arith, k)

row_short : (k : StoreKey) (v : StoreValue) → FitsKey k v → length (row_value v) ≤ RECORD_LIMIT
row_short k value.Nothing h = omega arith
row_short k (value.Number n) h = omega arith
row_short (key.TypeKey t) (value.Schema schema) h = type_short schema h
row_short k (value.Schema schema) h = absurd h
row_short (key.Vertex v) (value.Record values) h = h.short
row_short (key.Edge e) (value.Record values) h = h.short
row_short k (value.Record values) h = absurd h

pub value_short : (k : StoreKey) (bytes : List ℕ) → IsValueOf k bytes → length bytes ≤ RECORD_LIMIT
value_short k bytes h = let few = row_short k h.0 h.1 in let same = ap length h.2 in omega (arith, few, same)
