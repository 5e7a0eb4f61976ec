-- For the proofs alone: what a step inside a call says.
use Rattle.std.specs.Prelude.{◌≡◌, ℕ, ◌%◌, [], ◌∷◌, Some}
use Rattle.a1_base.specs.declared.place.Addr.{Addr}
use Rattle.object_view.specs.Agreement.{State}
use Rattle.object_view.specs.Parts.{Moves}
use Rattle.object_view.specs.Trees.{Distinct}
use Rattle.type_schema.specs.declared.objects.Header.{Header}
use Rattle.type_schema.specs.Objects.{IsHeader, body_bytes, short_bytes}
use Rattle.type_schema.specs.Schemas.{Record}

-- the record and the two empty lists of a vertex, at three places of a node where nothing stood
pub record MakesParts (nodes node : ℕ) (s t : State) (kind : ℕ) (owner : Addr) (values : Record)
    (fields : Header) : Type 0 where
  pub fit : IsHeader fields
  pub kind_is : fields.kind ≡ kind
  pub body : t fields.body ≡ Some (body_bytes 8 owner values)
  pub out : t fields.out ≡ Some (short_bytes owner [])
  pub into : t fields.into ≡ Some (short_bytes owner [])
  pub body_home : fields.body.region % nodes ≡ node
  pub out_home : fields.out.region % nodes ≡ node
  pub into_home : fields.into.region % nodes ≡ node
  pub distinct : Distinct (fields.body ∷ fields.out ∷ fields.into ∷ [])
  pub moves : Moves s t [] (fields.body ∷ fields.out ∷ fields.into ∷ [])
