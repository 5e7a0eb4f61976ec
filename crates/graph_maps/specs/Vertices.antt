-- Vertices with their records.
use Rattle.std.specs.Prelude.{◌≡◌, List, Some}
use Rattle.a1_base.specs.Maps.{at}
use Rattle.type_schema.specs.declared.names.VertexName.{VertexName}
use Rattle.type_schema.specs.Graph.{vertex_order}
use Rattle.type_schema.specs.Schemas.{Record, key_of}

-- the record of each vertex has its key first
abbrev pub AreKeyed : List (VertexName × Record) → Type 0
AreKeyed vertices = (v : VertexName) (x : Record) → at vertex_order v vertices ≡ Some x → key_of x ≡ v.key
