-- What operations mean over a graph: the graph afterwards with the changes, or the refusal.
use Rattle.std.specs.Prelude.{ℕ, ◌+◌, List, [], ◌∷◌, ◌++◌, length, map, filter, Bool, not, ◌||◌, nat_eq, nat_le, nat_lt, is_some, Result, Ok, bytes_eq, sum_by}
use Rattle.std.specs.Ordering.{is_eq}
use Rattle.a1_base.specs.declared.limits.TheConstants.{CHANGE_LIMIT, CHANGE_BYTES_LIMIT, GRAPH_NUMBER_LIMIT}
use Rattle.a1_base.specs.Maps.{with_entry, without}
use Rattle.a1_value.specs.declared.given.Given.{Given}
use Rattle.a1_value.specs.declared.value.Value.{Value}
use Rattle.a1_value.specs.Order.{byte_order}
use Rattle.type_schema.specs.declared.names.GraphName.{GraphName}
use Rattle.type_schema.specs.declared.names.TypeName.{TypeName}
use Rattle.type_schema.specs.declared.names.VertexName.{VertexName}
use Rattle.type_schema.specs.declared.names.EdgeName.{EdgeName}
use Rattle.type_schema.specs.declared.refusal.Refusal.{Refusal}
use Rattle.type_schema.specs.declared.refusal.Word.TheVariants as word
use Rattle.type_schema.specs.declared.rows.RowChange.{RowChange}
use Rattle.type_schema.specs.declared.rows.StoreKey.{StoreKey}
use Rattle.type_schema.specs.declared.rows.StoreKey.TheVariants as key
use Rattle.type_schema.specs.declared.rows.StoreValue.TheVariants as value
use Rattle.type_schema.specs.declared.rows.TypeSchema.{TypeSchema}
use Rattle.type_schema.specs.Names.{Name}
use Rattle.type_schema.specs.Refusals.{refused, unless, need, passing}
use Rattle.type_schema.specs.Schemas.{Schema, Record, checked, merged, added, key_of, key_in}
use Rattle.type_schema.specs.Lookups.{graph_number, vertex_schema, edge_schema}
use Rattle.type_schema.specs.Graph.{Graph, graph_order, type_order, vertex_order, edge_order, source, target, tenant_at, number_at, type_at, vertex_at, edge_at, system}
use Rattle.type_schema.specs.Rows.{put_at, gone_at, item_size, in_key_order}
use Rattle.request_reader.specs.declared.operation.Op.{Op}
use Rattle.request_reader.specs.declared.operation.Op.TheVariants as op
use Rattle.request_reader.specs.declared.operation.End.{End}
use Rattle.request_reader.specs.declared.operation.Action.{Action}
use Rattle.request_reader.specs.declared.operation.Action.TheVariants as act

-- ---- what an operation looks up, in the order in which it does

-- the graph belongs to the tenant `sys`
abbrev pub is_system : GraphName → Bool
is_system n = bytes_eq n.tenant system

-- a vertex that is there, with the schema of its type and its record
pub record Found : Type 0 where
  pub name : VertexName
  pub schema : Schema
  pub values : Record

abbrev pub vertex_named : Graph → ℕ → Name → Schema → Value → Result Found Refusal
vertex_named g number kind schema k =
    let name : VertexName = record { graph = number; kind = kind; key = k } in
    need (vertex_at g name) (refused word.NoVertex) (λ values. Ok (record { name = name; schema = schema; values = values }))

-- the vertex of this graph, type and key
unfoldable pub found : Graph → GraphName → Name → Given → Result Found Refusal
found g n kind id =
    passing (graph_number g n) (λ number.
    passing (vertex_schema g number kind) (λ schema.
    passing (key_in schema id) (vertex_named g number kind schema)))

-- an edge type with a vertex at both ends
pub record Between : Type 0 where
  pub name : EdgeName
  pub schema : Schema

-- both ends are there
abbrev pub ends_there : Graph → EdgeName → Schema → Result Between Refusal
ends_there g e schema =
    need (vertex_at g (source e)) (refused word.NoVertex) (λ x.
    need (vertex_at g (target e)) (refused word.NoVertex) (λ y.
    Ok (record { name = e; schema = schema })))

-- the edge of this type between these two vertices, which may be there or not: first the three types, then the two
-- keys, then the two vertices
unfoldable pub between : Graph → GraphName → Name → End → End → Result Between Refusal
between g n kind from to =
    passing (graph_number g n) (λ number.
    passing (edge_schema g number kind) (λ schema.
    passing (vertex_schema g number from.kind) (λ one.
    passing (vertex_schema g number to.kind) (λ two.
    passing (key_in one from.id) (λ a.
    passing (key_in two to.id) (λ b.
    ends_there g
    (record { graph = number; kind = kind; from_kind = from.kind; from = a; to_kind = to.kind; to = b })
    schema))))))

-- ---- what stands against an operation, in order, or else what it does

-- the vertex of this record, which is new
abbrev pub new_vertex : Graph → ℕ → Name → Record → Result Action Refusal
new_vertex g number kind values =
    let name : VertexName = record { graph = number; kind = kind; key = key_of values } in
    unless (is_some (vertex_at g name)) (refused word.KeyTaken) (Ok (act.WriteVertex name values))

abbrev pub new_type : Graph → ℕ → Name → TypeSchema → Result Action Refusal
new_type g number name schema =
    let t : TypeName = record { graph = number; name = name } in
    unless (is_some (type_at g t)) (refused word.TypeTaken) (Ok (act.AddType t schema))

unfoldable pub decided : Graph → Op → Result Action Refusal
decided g (op.CreateTenant t) = unless (is_some (tenant_at g t)) (refused word.TenantTaken) (Ok (act.AddTenant t))
decided g (op.CreateGraph n) =
    unless (is_system n) (refused word.System)
    (need (tenant_at g n.tenant) (refused word.NoTenant) (λ u.
    unless (is_some (number_at g n)) (refused word.GraphTaken)
    (unless (nat_le GRAPH_NUMBER_LIMIT g.next) (refused word.GraphsFull) (Ok (act.AddGraph n g.next)))))
decided g (op.DropGraph n) =
    unless (is_system n) (refused word.System) (passing (graph_number g n) (λ number. Ok (act.DropGraph n number)))
decided g (op.CreateType n name schema) =
    unless (is_system n) (refused word.System) (passing (graph_number g n) (λ number. new_type g number name schema))
decided g (op.Put n kind v) =
    passing (graph_number g n) (λ number.
    passing (vertex_schema g number kind) (λ schema.
    passing (checked schema v) (new_vertex g number kind)))
decided g (op.Set n kind id v) =
    passing (found g n kind id) (λ x.
    passing (merged x.schema x.values v) (λ values. Ok (act.WriteVertex x.name values)))
decided g (op.Add n kind id attr by) =
    passing (found g n kind id) (λ x.
    passing (added x.schema x.values attr by) (λ values. Ok (act.WriteVertex x.name values)))
decided g (op.Drop n kind id) = passing (found g n kind id) (λ x. Ok (act.DropVertex x.name))
decided g (op.Link n kind from to v) =
    passing (between g n kind from to) (λ x.
    passing (checked x.schema v) (λ values.
    unless (is_some (edge_at g x.name)) (refused word.EdgeTaken) (Ok (act.AddEdge x.name values))))
decided g (op.Unlink n kind from to) =
    passing (between g n kind from to) (λ x.
    need (edge_at g x.name) (refused word.NoEdge) (λ old. Ok (act.DropEdge x.name)))

-- ---- what an action leaves

-- the edge begins or ends at v
abbrev pub touches : VertexName → EdgeName → Bool
touches v e = is_eq (vertex_order v (source e)) || is_eq (vertex_order v (target e))

-- without v and its edges
abbrev pub without_vertex : Graph → VertexName → Graph
without_vertex g v = record g {
  vertices = without vertex_order v g.vertices;
  edges = filter (λ e. not (touches v e.0)) g.edges;
}

-- without the graph n of this number, its types, vertices and edges
abbrev pub without_graph : Graph → GraphName → ℕ → Graph
without_graph g n number = record g {
  graphs = without graph_order n g.graphs;
  types = filter (λ t. not (nat_eq t.0.graph number)) g.types;
  vertices = filter (λ v. not (nat_eq v.0.graph number)) g.vertices;
  edges = filter (λ e. not (nat_eq e.0.graph number)) g.edges;
}

-- the graph behind it
unfoldable pub after : Graph → Action → Graph
after g (act.AddTenant t) = record g { tenants = with_entry byte_order t tt g.tenants }
after g (act.AddGraph n number) = record g { graphs = with_entry graph_order n number g.graphs; next = number + 1 }
after g (act.DropGraph n number) = without_graph g n number
after g (act.AddType t schema) = record g { types = with_entry type_order t schema g.types }
after g (act.WriteVertex v values) = record g { vertices = with_entry vertex_order v values g.vertices }
after g (act.DropVertex v) = without_vertex g v
after g (act.AddEdge e values) = record g { edges = with_entry edge_order e values g.edges }
after g (act.DropEdge e) = record g { edges = without edge_order e g.edges }

-- the keys of the edges that begin or end at v
abbrev pub edges_at : Graph → VertexName → List StoreKey
edges_at g v = map (λ e. key.Edge e.0) (filter (λ e. touches v e.0) g.edges)

-- the rows that it changes
unfoldable pub changes : Graph → Action → List RowChange
changes g (act.AddTenant t) = put_at (key.Tenant t) value.Nothing ∷ []
changes g (act.AddGraph n number) =
    put_at (key.Graph n) (value.Number number) ∷ put_at key.Counter (value.Number (number + 1)) ∷ []
changes g (act.DropGraph n number) = gone_at (key.Graph n) ∷ []
changes g (act.AddType t schema) = put_at (key.TypeKey t) (value.Schema schema) ∷ []
changes g (act.WriteVertex v values) = put_at (key.Vertex v) (value.Record values) ∷ []
changes g (act.DropVertex v) = map gone_at (in_key_order (edges_at g v)) ++ gone_at (key.Vertex v) ∷ []
changes g (act.AddEdge e values) = put_at (key.Edge e) (value.Record values) ∷ []
changes g (act.DropEdge e) = gone_at (key.Edge e) ∷ []

-- ---- a request's operations, one behind the other

-- a graph with the changes that led to it
pub record Reached : Type 0 where
  pub graph : Graph
  pub changes : List RowChange

-- more than 1,024 changes, or row items of more than 1,048,576 bytes
abbrev pub is_large : List RowChange → Bool
is_large changes = nat_lt CHANGE_LIMIT (length changes) || nat_lt CHANGE_BYTES_LIMIT (sum_by item_size changes)

unfoldable pub effect_behind : Graph → List RowChange → List Op → Result Reached Refusal
effect_behind g before [] = Ok (record { graph = g; changes = before })
effect_behind g before (o ∷ ops) =
    passing (decided g o) (λ a.
    unless (is_large (before ++ changes g a)) (refused word.Large)
    (effect_behind (after g a) (before ++ changes g a) ops))

-- the graph after all operations with every change, or the first refusal
abbrev pub effect : Graph → List Op → Result Reached Refusal
effect g ops = effect_behind g [] ops
