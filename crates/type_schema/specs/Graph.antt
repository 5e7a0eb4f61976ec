-- The graph: ordered lists, with one entry for each tenant, graph, type, vertex and edge.
use Rattle.std.specs.Prelude.{ℕ, List, [], ◌∷◌, Bool, true, false, codes, Option}
use Rattle.std.specs.Ordering.{on, then_cmp, nat_cmp}
use Rattle.std.specs.declared.cmp.Ordering.{Ordering}
use Rattle.a1_base.specs.Maps.{at}
use Rattle.a1_value.specs.Order.{byte_order, value_order}
use Rattle.type_schema.specs.declared.names.GraphName.{GraphName}
use Rattle.type_schema.specs.declared.names.TypeName.{TypeName}
use Rattle.type_schema.specs.declared.names.VertexName.{VertexName}
use Rattle.type_schema.specs.declared.names.EdgeName.{EdgeName}
use Rattle.type_schema.specs.declared.rows.TypeSchema.{TypeSchema}
use Rattle.type_schema.specs.declared.rows.TypeSchema.TheVariants.{OfVertices}
use Rattle.type_schema.specs.declared.schema.Kind.TheVariants as kind
use Rattle.type_schema.specs.Names.{Name}
use Rattle.type_schema.specs.Schemas.{Record, id}

-- each list is ordered by these fields from left to right, names by their bytes, and keys by the order of values
abbrev pub graph_order : GraphName → GraphName → Ordering
graph_order = then_cmp (on (λ g. g.tenant) byte_order) (on (λ g. g.name) byte_order)

abbrev pub type_order : TypeName → TypeName → Ordering
type_order = then_cmp (on (λ t. t.graph) nat_cmp) (on (λ t. t.name) byte_order)

abbrev pub vertex_order : VertexName → VertexName → Ordering
vertex_order =
    then_cmp (on (λ v. v.graph) nat_cmp)
    (then_cmp (on (λ v. v.kind) byte_order) (on (λ v. v.key) value_order))

abbrev pub edge_order : EdgeName → EdgeName → Ordering
edge_order =
    then_cmp (on (λ e. e.graph) nat_cmp)
    (then_cmp (on (λ e. e.kind) byte_order)
    (then_cmp (on (λ e. e.from_kind) byte_order)
    (then_cmp (on (λ e. e.from) value_order)
    (then_cmp (on (λ e. e.to_kind) byte_order) (on (λ e. e.to) value_order)))))

pub record Graph : Type 0 where
  -- each tenant
  pub tenants : List (Name × Unit {0})
  -- each graph with its number
  pub graphs : List (GraphName × ℕ)
  -- each type, of the graph with its number, with its schema
  pub types : List (TypeName × TypeSchema)
  pub vertices : List (VertexName × Record)
  pub edges : List (EdgeName × Record)
  -- the number that the next graph gets
  pub next : ℕ

-- where an edge begins
abbrev pub source : EdgeName → VertexName
source e = record { graph = e.graph; kind = e.from_kind; key = e.from }

-- where it ends
abbrev pub target : EdgeName → VertexName
target e = record { graph = e.graph; kind = e.to_kind; key = e.to }

-- the end of an edge at the vertex that it leads from (true) or to
abbrev pub near : Bool → EdgeName → VertexName
near true e = source e
near false e = target e

-- the other end
abbrev pub far : Bool → EdgeName → VertexName
far true e = target e
far false e = source e

abbrev pub tenant_at : Graph → Name → Option (Unit {0})
tenant_at g t = at byte_order t g.tenants

abbrev pub number_at : Graph → GraphName → Option ℕ
number_at g n = at graph_order n g.graphs

abbrev pub type_at : Graph → TypeName → Option TypeSchema
type_at g t = at type_order t g.types

abbrev pub vertex_at : Graph → VertexName → Option Record
vertex_at g v = at vertex_order v g.vertices

abbrev pub edge_at : Graph → EdgeName → Option Record
edge_at g e = at edge_order e g.edges

-- ---- the graph that a database begins with

abbrev pub system : Name
system = codes "sys"

-- the graph `sys/names`
abbrev pub names_graph : GraphName
names_graph = record { tenant = system; name = codes "names" }

abbrev pub names_number : ℕ
names_number = 1

-- its one type, of vertices with nothing but a text as `id`
abbrev pub names_type : TypeName
names_type = record { graph = names_number; name = codes "name" }

abbrev pub names_schema : TypeSchema
names_schema = OfVertices (record { name = id; kind = kind.Text; index = false } ∷ [])

abbrev pub opening : Graph
opening = record {
  tenants = (system, tt) ∷ [];
  graphs = (names_graph, names_number) ∷ [];
  types = (names_type, names_schema) ∷ [];
  vertices = [];
  edges = [];
  next = 2;
}
