-- What the calls on a vertex say.
use Rattle.std.specs.Prelude.{◌≡◌, ◌⊎◌, ℕ, ◌%◌, List, [], ◌∷◌, Some}
use Rattle.a1_base.specs.declared.place.Addr.{Addr}
use Rattle.object_view.specs.Agreement.{State}
use Rattle.object_view.specs.Parts.{Moves, with_bytes}
use Rattle.object_view.specs.Trees.{Distinct}
use Rattle.type_schema.specs.declared.objects.Header.{Header}
use Rattle.type_schema.specs.Objects.{body_bytes}
use Rattle.type_schema.specs.Schemas.{Record}
use Rattle.type_schema.specs.Structures.{IsVertex, IsBody, IsList}

-- the objects of a vertex without half-edges
abbrev pub objects_of : Addr → Header → List Addr
objects_of at fields = at ∷ fields.body ∷ fields.out ∷ fields.into ∷ []

-- in the state stands a vertex of this graph with this record, and it has no half-edges
pub record IsBare (nodes : ℕ) (s : State) (at graph : Addr) (fields : Header) (values : Record) : Type 0 where
  pub vertex : IsVertex nodes s at graph fields
  pub body : IsBody s 8 fields.body at values
  pub out : IsList nodes s fields.out at [] (fields.out ∷ [])
  pub into : IsList nodes s fields.into at [] (fields.into ∷ [])
  pub distinct : Distinct (objects_of at fields)

-- a new vertex of a type, on a node, at four places where nothing stood
pub record Creates (nodes node : ℕ) (s t : State) (graph : Addr) (kind : ℕ) (values : Record) (at : Addr) : Type 0 where
  pub fields : Header
  pub kind_is : fields.kind ≡ kind
  pub home : at.region % nodes ≡ node
  pub bare : IsBare nodes t at graph fields values
  pub moves : Moves s t [] (objects_of at fields)

-- the record's object has these values, and no other place changed
pub record Sets (nodes : ℕ) (s t : State) (at graph : Addr) (fields : Header) (values : Record) : Type 0 where
  pub vertex : IsVertex nodes t at graph fields
  pub body : IsBody t 8 fields.body at values
  pub only : t ≡ with_bytes fields.body (Some (body_bytes 8 at values)) s

-- the record of a vertex, or of an edge
abbrev pub IsRecordKind : ℕ → Type 0
IsRecordKind kind = (kind ≡ 8) ⊎ (kind ≡ 10)
