-- For the clauses of the readers of keys, values and changes.
use Rattle.std.specs.Prelude.{ℕ, List, length, Bool, true, ◌&&◌, nat_le, ◌==◌, if◌then◌else◌, Option, Some, None, is_some, option_map, option_and_then}
use Rattle.std.specs.Int.{w32, w64}
use Rattle.a1_base.specs.Fronts.{Front, byte, number, both, made, tested, sized, whole, inside}
use Rattle.a1_value.specs.Encoding.{key_front}
use Rattle.type_schema.specs.declared.names.TypeName.{TypeName}
use Rattle.type_schema.specs.declared.names.VertexName.{VertexName}
use Rattle.type_schema.specs.declared.names.EdgeName.{EdgeName}
use Rattle.type_schema.specs.declared.rows.StoreKey.{StoreKey}
use Rattle.type_schema.specs.declared.rows.StoreKey.TheVariants as key
use Rattle.type_schema.specs.declared.rows.StoreValue.{StoreValue}
use Rattle.type_schema.specs.declared.rows.StoreValue.TheVariants as value
use Rattle.type_schema.specs.declared.rows.TypeSchema.{TypeSchema}
use Rattle.type_schema.specs.declared.rows.TypeSchema.TheVariants.{OfVertices, OfEdges}
use Rattle.type_schema.specs.declared.rows.Change.{Change}
use Rattle.type_schema.specs.Names.{Name, is_name, graph_whole}
use Rattle.type_schema.specs.Schemas.{Schema}
use Rattle.type_schema.specs.Formed.{is_graph_number, is_counter, is_type}
use Rattle.type_schema.specs.Reading.{name_front, schema_front, record_front}

-- ---- keys

-- the name that the bytes are
abbrev pub name_whole : List ℕ → Option Name
name_whole bytes = if is_name bytes then Some bytes else None

unfoldable pub graph_number_front : Front ℕ
graph_number_front bytes = tested is_graph_number (number w64) bytes

unfoldable pub type_front : Front TypeName
type_front bytes = made (λ x. record { graph = x.0; name = x.1 }) (both graph_number_front name_front) bytes

unfoldable pub vertex_front : Front VertexName
vertex_front bytes =
    made (λ x. record { graph = x.0; kind = x.1.0; key = x.1.1 }) (both graph_number_front (both name_front key_front)) bytes

unfoldable pub edge_front : Front EdgeName
edge_front bytes =
    made (λ x. record {
      graph = x.0;
      kind = x.1.0;
      from_kind = x.1.1.0;
      from = x.1.1.1.0;
      to_kind = x.1.1.1.1.0;
      to = x.1.1.1.1.1;
    })
    (both graph_number_front (both name_front (both name_front (both key_front (both name_front key_front))))) bytes

-- the key behind its first byte
unfoldable pub key_of_tag : ℕ → List ℕ → Option StoreKey
key_of_tag tag bytes =
    if tag == 0 then (if length bytes == 0 then Some key.Counter else None)
    else if tag == 1 then option_map key.Tenant (name_whole bytes)
    else if tag == 2 then option_map key.Graph (graph_whole bytes)
    else if tag == 3 then option_map key.TypeKey (whole type_front bytes)
    else if tag == 4 then option_map key.Vertex (whole vertex_front bytes)
    else if tag == 5 then option_map key.Edge (whole edge_front bytes)
    else None

-- the key that the bytes are
unfoldable pub key_whole : List ℕ → Option StoreKey
key_whole bytes = option_and_then (λ tag. key_of_tag tag.0 tag.1) (byte bytes)

-- ---- values

unfoldable pub counter_front : Front ℕ
counter_front bytes = tested is_counter (number w64) bytes

abbrev pub schema_of : ℕ → Schema → TypeSchema
schema_of tag schema = if tag == 1 then OfVertices schema else OfEdges schema

abbrev pub is_type_tag : ℕ → Bool
is_type_tag tag = nat_le 1 tag && nat_le tag 2

unfoldable pub type_schema_front : Front TypeSchema
type_schema_front bytes =
    tested is_type (made (λ x. schema_of x.0 x.1) (both (tested is_type_tag byte) schema_front)) bytes

-- the value of this key that the bytes are
unfoldable pub value_whole : StoreKey → List ℕ → Option StoreValue
value_whole key.Counter bytes = option_map value.Number (whole counter_front bytes)
value_whole (key.Tenant t) bytes = if length bytes == 0 then Some value.Nothing else None
value_whole (key.Graph g) bytes = option_map value.Number (whole graph_number_front bytes)
value_whole (key.TypeKey t) bytes = option_map value.Schema (whole type_schema_front bytes)
value_whole (key.Vertex v) bytes = option_map value.Record (whole record_front bytes)
value_whole (key.Edge e) bytes = option_map value.Record (whole record_front bytes)

-- ---- changes

abbrev pub part_of_tag : ℕ → Front (Option (List ℕ))
part_of_tag tag bytes =
    if tag == 0 then Some (None, bytes)
    else if tag == 1 then made (λ b. Some b) (sized (number w32)) bytes
    else None

-- no value, or the bytes of one
unfoldable pub value_part_front : Front (Option (List ℕ))
value_part_front bytes = option_and_then (λ tag. part_of_tag tag.0 tag.1) (byte bytes)

-- where there is a value, its bytes are those of a value of this key
abbrev pub is_value_part : StoreKey → Option (List ℕ) → Bool
is_value_part k None = true
is_value_part k (Some bytes) = is_some (value_whole k bytes)

-- the change in front
unfoldable pub change_front : Front Change
change_front bytes =
    made (λ x. record { key = x.0; value = x.1 })
    (tested (λ x. is_value_part x.0 x.1) (both (inside (sized (number w32)) key_whole) value_part_front)) bytes
