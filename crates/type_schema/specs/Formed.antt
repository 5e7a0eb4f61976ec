-- The form of schemas, records, store keys, store values and changes.
use Rattle.std.specs.Prelude.{◌≡◌, ℕ, ◌≤◌, ◌<◌, List, [], ◌∷◌, length, Bool, true, false, not, ◌&&◌, nat_le, nat_lt, IfSome, IsTrue, bytes_eq, ⊤}
use Rattle.std.specs.List.{list_all, AllByRecursion}
use Rattle.a1_base.specs.declared.limits.TheConstants.{ATTRIBUTE_LIMIT, GRAPH_NUMBER_LIMIT, RECORD_LIMIT}
use Rattle.a1_value.specs.declared.value.Value.{Value}
use Rattle.a1_value.specs.Encoding.{IsStored, IsKey}
use Rattle.type_schema.specs.declared.rows.StoreKey.{StoreKey}
use Rattle.type_schema.specs.declared.rows.StoreKey.TheVariants as key
use Rattle.type_schema.specs.declared.rows.StoreValue.{StoreValue}
use Rattle.type_schema.specs.declared.rows.StoreValue.TheVariants as value
use Rattle.type_schema.specs.declared.rows.TypeSchema.{TypeSchema}
use Rattle.type_schema.specs.declared.rows.TypeSchema.TheVariants.{OfVertices, OfEdges}
use Rattle.type_schema.specs.declared.rows.Change.{Change}
use Rattle.type_schema.specs.Names.{Name, is_name}
use Rattle.type_schema.specs.Layout.{record_bytes, row_value}
use Rattle.type_schema.specs.Schemas.{Schema, Record, id, is_attr}

-- a graph's number
abbrev pub is_graph_number : ℕ → Bool
is_graph_number n = nat_le 1 n && nat_lt n GRAPH_NUMBER_LIMIT

-- the number of the next graph: the opening graph has 1
abbrev pub is_counter : ℕ → Bool
is_counter n = nat_le 2 n && nat_le n GRAPH_NUMBER_LIMIT

-- ---- schemas and records

-- no name stands twice
abbrev pub differ : Schema → Bool
differ [] = true
differ (a ∷ schema) = not (is_attr schema a.name) && differ schema

-- at most 32 attributes, whose names differ
unfoldable pub is_list : Schema → Bool
is_list schema = nat_le (length schema) ATTRIBUTE_LIMIT && (list_all (λ a. is_name a.name) schema && differ schema)

-- the first is `id`, which needs no index
abbrev pub is_vertex_list : Schema → Bool
is_vertex_list [] = false
is_vertex_list (a ∷ schema) = bytes_eq a.name id && not a.index

-- none is `id`, and none is indexed
abbrev pub is_edge_list : Schema → Bool
is_edge_list schema = not (is_attr schema id) && list_all (λ a. not a.index) schema

unfoldable pub is_type : TypeSchema → Bool
is_type (OfVertices schema) = is_vertex_list schema && is_list schema
is_type (OfEdges schema) = is_edge_list schema && is_list schema

-- values that may be kept, at most 255, of at most 16,384 bytes together
pub record IsRecord (values : Record) : Type 0 where
  pub few : length values < 256
  pub each : AllByRecursion IsStored values
  pub short : length (record_bytes values) ≤ RECORD_LIMIT

-- ---- rows of a store

-- a type of vertices and a key
abbrev pub IsEnd : Name → Value → Type 0
IsEnd kind v = IsTrue (is_name kind) × IsKey v

abbrev pub IsStoreKey : StoreKey → Type 0
IsStoreKey key.Counter = ⊤
IsStoreKey (key.Tenant t) = IsTrue (is_name t)
IsStoreKey (key.Graph g) = IsTrue (is_name g.tenant) × IsTrue (is_name g.name)
IsStoreKey (key.TypeKey t) = IsTrue (is_graph_number t.graph) × IsTrue (is_name t.name)
IsStoreKey (key.Vertex v) = IsTrue (is_graph_number v.graph) × IsEnd v.kind v.key
IsStoreKey (key.Edge e) =
    IsTrue (is_graph_number e.graph) × IsTrue (is_name e.kind) × IsEnd e.from_kind e.from × IsEnd e.to_kind e.to

-- the value has the form of its key
abbrev pub FitsKey : StoreKey → StoreValue → Type 0
FitsKey key.Counter (value.Number n) = IsTrue (is_counter n)
FitsKey (key.Tenant t) value.Nothing = ⊤
FitsKey (key.Graph g) (value.Number n) = IsTrue (is_graph_number n)
FitsKey (key.TypeKey t) (value.Schema schema) = IsTrue (is_type schema)
FitsKey (key.Vertex v) (value.Record values) = IsRecord values
FitsKey (key.Edge e) (value.Record values) = IsRecord values
FitsKey k v = ⊥

-- the bytes are those of a value of this key
abbrev pub IsValueOf : StoreKey → List ℕ → Type 0
IsValueOf k bytes = (v : StoreValue) × FitsKey k v × (bytes ≡ row_value v)

-- the key, and the value where there is one, have their form
abbrev pub HasForm : Change → Type 0
HasForm change = IsStoreKey change.key × IfSome change.value (IsValueOf change.key)

abbrev pub AreChanges : List Change → Type 0
AreChanges changes = AllByRecursion HasForm changes
