-- The bytes of schemas, records, store keys, store values and changes.
use Rattle.std.specs.Prelude.{ℕ, List, [], ◌∷◌, ◌++◌, length, Bool, true, false, Option, Some, None}
use Rattle.std.specs.List.{flat_map}
use Rattle.std.specs.Int.{w32, w64, to_be_bytes}
use Rattle.a1_value.specs.declared.value.Value.{Value}
use Rattle.a1_value.specs.Encoding.{value_bytes, key_bytes}
use Rattle.type_schema.specs.declared.schema.Attr.{Attr}
use Rattle.type_schema.specs.declared.schema.Kind.{Kind}
use Rattle.type_schema.specs.declared.schema.Kind.TheVariants as kind
use Rattle.type_schema.specs.declared.rows.StoreKey.{StoreKey}
use Rattle.type_schema.specs.declared.rows.StoreKey.TheVariants as key
use Rattle.type_schema.specs.declared.rows.StoreValue.{StoreValue}
use Rattle.type_schema.specs.declared.rows.StoreValue.TheVariants as value
use Rattle.type_schema.specs.declared.rows.TypeSchema.{TypeSchema}
use Rattle.type_schema.specs.declared.rows.TypeSchema.TheVariants.{OfVertices, OfEdges}
use Rattle.type_schema.specs.declared.rows.Change.{Change}
use Rattle.type_schema.specs.Names.{Name}

-- a byte of length, and the name
abbrev pub name_bytes : Name → List ℕ
name_bytes name = length name ∷ name

-- ---- schemas and records

abbrev pub kind_code : Kind → ℕ
kind_code kind.Int = 1
kind_code kind.Text = 2
kind_code kind.Bytes = 3

abbrev pub flag : Bool → ℕ
flag false = 0
flag true = 1

abbrev pub attr_bytes : Attr → List ℕ
attr_bytes attr = name_bytes attr.name ++ kind_code attr.kind ∷ flag attr.index ∷ []

-- a byte for the number of attributes, and each
abbrev pub schema_bytes : List Attr → List ℕ
schema_bytes schema = length schema ∷ flat_map attr_bytes schema

-- a byte for the number of values, and each
abbrev pub record_bytes : List Value → List ℕ
record_bytes values = length values ∷ flat_map value_bytes values

-- 1 for a type of vertices, 2 for one of edges, and the schema
abbrev pub type_bytes : TypeSchema → List ℕ
type_bytes (OfVertices schema) = 1 ∷ schema_bytes schema
type_bytes (OfEdges schema) = 2 ∷ schema_bytes schema

-- ---- rows of a store

abbrev pub row_key : StoreKey → List ℕ
row_key key.Counter = 0 ∷ []
row_key (key.Tenant t) = 1 ∷ t
row_key (key.Graph g) = 2 ∷ g.tenant ++ 47 ∷ g.name
row_key (key.TypeKey t) = 3 ∷ to_be_bytes w64 t.graph ++ name_bytes t.name
row_key (key.Vertex v) = 4 ∷ to_be_bytes w64 v.graph ++ (name_bytes v.kind ++ key_bytes v.key)
row_key (key.Edge e) =
    5 ∷ to_be_bytes w64 e.graph ++ (name_bytes e.kind
    ++ (name_bytes e.from_kind ++ (key_bytes e.from ++ (name_bytes e.to_kind ++ key_bytes e.to))))

abbrev pub row_value : StoreValue → List ℕ
row_value value.Nothing = []
row_value (value.Number n) = to_be_bytes w64 n
row_value (value.Schema schema) = type_bytes schema
row_value (value.Record values) = record_bytes values

-- four bytes of length, and that many bytes
abbrev pub block : List ℕ → List ℕ
block bytes = to_be_bytes w32 (length bytes) ++ bytes

-- 00 for no value, or 01 and the value
abbrev pub value_part : Option (List ℕ) → List ℕ
value_part None = 0 ∷ []
value_part (Some bytes) = 1 ∷ block bytes

-- the bytes of a row item behind its stamp
abbrev pub change_bytes : Change → List ℕ
change_bytes change = block (row_key change.key) ++ value_part change.value

abbrev pub changes_bytes : List Change → List ℕ
changes_bytes changes = flat_map change_bytes changes
