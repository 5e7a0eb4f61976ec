-- The least key of each part of a map.
use Rattle.std.specs.Prelude.{ℕ, List, [], Bool}
use Rattle.type_schema.specs.declared.names.TypeName.{TypeName}
use Rattle.type_schema.specs.declared.names.VertexName.{VertexName}
use Rattle.type_schema.specs.declared.names.EdgeName.{EdgeName}
use Rattle.graph_maps.specs.declared.half.Half.{Half}
use Rattle.graph_maps.specs.Keys.{least_key}
use Rattle.graph_maps.specs.Halves.{edge_between}

-- of the types of a graph
abbrev pub first_type : ℕ → TypeName
first_type n = record { graph = n; name = [] }

-- of the vertices of a type
abbrev pub first_vertex : TypeName → VertexName
first_vertex t = record { graph = t.graph; kind = t.name; key = least_key }

-- of the edges of a graph
abbrev pub first_edge : ℕ → EdgeName
first_edge n = record { graph = n; kind = []; from_kind = []; from = least_key; to_kind = []; to = least_key }

-- of the edges of a type that lead from a vertex (true) or to it
abbrev pub first_half : Bool → List ℕ → VertexName → Half
first_half out kind v = record { out = out; edge = edge_between out kind v (first_vertex (first_type v.graph)) }
