-- What a request looks up in a graph, or the refusal where it is not there.
use Rattle.std.specs.Prelude.{ℕ, Option, Some, None, Result, Ok}
use Rattle.type_schema.specs.declared.names.GraphName.{GraphName}
use Rattle.type_schema.specs.declared.refusal.Refusal.{Refusal}
use Rattle.type_schema.specs.declared.refusal.Word.TheVariants as word
use Rattle.type_schema.specs.declared.rows.TypeSchema.{TypeSchema}
use Rattle.type_schema.specs.declared.rows.TypeSchema.TheVariants.{OfVertices, OfEdges}
use Rattle.type_schema.specs.Names.{Name}
use Rattle.type_schema.specs.Refusals.{refused, need}
use Rattle.type_schema.specs.Schemas.{Schema}
use Rattle.type_schema.specs.Graph.{Graph, tenant_at, number_at, type_at}

-- the number of the graph of this name
unfoldable pub graph_number : Graph → GraphName → Result ℕ Refusal
graph_number g n =
    need (tenant_at g n.tenant) (refused word.NoTenant) (λ u. need (number_at g n) (refused word.NoGraph) Ok)

abbrev pub of_vertices : Option TypeSchema → Option Schema
of_vertices None = None
of_vertices (Some (OfVertices schema)) = Some schema
of_vertices (Some (OfEdges schema)) = None

abbrev pub of_edges : Option TypeSchema → Option Schema
of_edges None = None
of_edges (Some (OfVertices schema)) = None
of_edges (Some (OfEdges schema)) = Some schema

-- the schema of this type of vertices
unfoldable pub vertex_schema : Graph → ℕ → Name → Result Schema Refusal
vertex_schema g number kind =
    need (of_vertices (type_at g (record { graph = number; name = kind }))) (refused word.NoType) Ok

-- the schema of this type of edges
unfoldable pub edge_schema : Graph → ℕ → Name → Result Schema Refusal
edge_schema g number kind =
    need (of_edges (type_at g (record { graph = number; name = kind }))) (refused word.NoType) Ok
