-- The graph while a request is tried out, and the one before it.
use Rattle.std.specs.Prelude.{◌≡◌, ◌<◌, ⊤}
use Rattle.a1_base.specs.declared.limits.TheConstants.{GRAPH_NUMBER_LIMIT}
use Rattle.type_schema.specs.Graph.{Graph}
use Rattle.type_schema.specs.Schemas.{key_of}
use Rattle.request_reader.specs.declared.operation.Action.{Action}
use Rattle.request_reader.specs.declared.operation.Action.TheVariants as act
use Rattle.graph_plain.specs.declared.draft.Draft.{Draft}

abbrev pub now_of : Draft → Graph
now_of d = record {
  tenants = d.tenants.now;
  graphs = d.graphs.now;
  types = d.types.now;
  vertices = d.vertices.now;
  edges = d.edges.now;
  next = d.next;
}

abbrev pub was_of : Draft → Graph
was_of d = record {
  tenants = d.tenants.was;
  graphs = d.graphs.was;
  types = d.types.was;
  vertices = d.vertices.was;
  edges = d.edges.was;
  next = d.was_next;
}

-- what is true of each action that an operation does: the number behind that of a new graph is one of 64 bits, and the
-- record of a vertex has its key first
abbrev pub IsDue : Action → Type 0
IsDue (act.AddGraph n number) = number < GRAPH_NUMBER_LIMIT
IsDue (act.WriteVertex v values) = key_of values ≡ v.key
IsDue other = ⊤
