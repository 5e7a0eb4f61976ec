-- A vertex made, given another record, and taken away.
use Rattle.std.proofs.Common.{◌≡◌, inl, inr, ℕ, ◌%◌, List, [], ◌∷◌, Some, None, refl, sym, ap, subst, ◌∙◌, arith}
use Rattle.std.specs.Prelude.{IsSome}
use Rattle.a1_base.specs.Lists.{IsAmong}
use Rattle.a1_base.specs.declared.place.Addr.{Addr}
use Rattle.object_view.specs.Agreement.{State}
use Rattle.object_view.specs.Parts.{Moves, with_bytes}
use Rattle.object_view.proofs.Moving.{moves_then, moves_beside}
use Rattle.object_view.proofs.Views.{some_not_none, none_some, here_now, beside}
use Rattle.type_schema.specs.declared.objects.Header.{Header}
use Rattle.type_schema.specs.Formed.{IsRecord}
use Rattle.type_schema.specs.Objects.{IsAddr, IsHeader, header_bytes, body_bytes, short_bytes}
use Rattle.type_schema.specs.Schemas.{Record}
use Rattle.type_schema.specs.Structures.{IsVertex, IsBody, IsList}
use Rattle.vertex_store.specs.Changes.{IsBare, Creates, Sets, objects_of}
use Rattle.vertex_store.specs.Steps.{MakesParts}
use Rattle.vertex_store.proofs.Making.{Built, built_none, built_more, placed, rewritten, taken, stood_apart}

-- ---- made

-- the record, then the two lists
pub parts_made : (nodes node : ℕ) (s t u v : State) (kind : ℕ) (owner : Addr) (values : Record) (fields : Header)
    → IsHeader fields → fields.kind ≡ kind → fields.body.region % nodes ≡ node → fields.out.region % nodes ≡ node
    → fields.into.region % nodes ≡ node
    → s fields.body ≡ None → t ≡ with_bytes fields.body (Some (body_bytes 8 owner values)) s
    → t fields.out ≡ None → u ≡ with_bytes fields.out (Some (short_bytes owner [])) t
    → u fields.into ≡ None → v ≡ with_bytes fields.into (Some (short_bytes owner [])) u
    → MakesParts nodes node s v kind owner values fields
parts_made nodes node s t u v kind owner values fields fit named one two three new_body body new_out out new_into into =
    let first : Built s t (fields.body ∷ []) =
    built_more s s t [] fields.body (body_bytes 8 owner values) (built_none s) new_body body in
    let second : Built s u (fields.body ∷ fields.out ∷ []) =
    built_more s t u (fields.body ∷ []) fields.out (short_bytes owner []) first new_out out in
    let third : Built s v (fields.body ∷ fields.out ∷ fields.into ∷ []) =
    built_more s u v (fields.body ∷ fields.out ∷ []) fields.into (short_bytes owner []) second new_into into in
    let d = third.distinct in
    record {
      fit = fit;
      kind_is = named;
      body = beside u v fields.into _ into fields.body (λ e. d.0 (inr (inl (sym e)))) ∙
          beside t u fields.out _ out fields.body (λ e. d.0 (inl (sym e))) ∙
          here_now s t fields.body (Some (body_bytes 8 owner values)) body;
      out = beside u v fields.into _ into fields.out (λ e. d.1.0 (inl (sym e))) ∙
          here_now t u fields.out (Some (short_bytes owner [])) out;
      into = here_now u v fields.into (Some (short_bytes owner [])) into;
      body_home = one;
      out_home = two;
      into_home = three;
      distinct = d;
      moves = third.moves;
    }

abbrev pub parts_of : Header → List Addr
parts_of fields = fields.body ∷ fields.out ∷ fields.into ∷ []

-- what stood before its parts were made still stands
pub header_stays : (nodes node : ℕ) (s t u : State) (kind : ℕ) (at : Addr) (bytes : List ℕ) (values : Record)
    (fields : Header) → t ≡ with_bytes at (Some bytes) s → MakesParts nodes node t u kind at values fields
    → (IsAmong at (parts_of fields) → ⊥) × IsSome (u at)
header_stays nodes node s t u kind at bytes values fields put parts =
    let here : t at ≡ Some bytes = here_now s t at (Some bytes) put in
    let off : IsAmong at (parts_of fields) → ⊥ =
    stood_apart t u at (parts_of fields) parts.moves (some_not_none (t at) bytes here) in
    (off, none_some (u at) (some_not_none (u at) bytes (parts.moves.others at (λ z. z) off ∙ here)))

empty_list : (nodes : ℕ) (s : State) (at owner : Addr) → IsAddr at → IsAddr owner
    → at.region % nodes ≡ owner.region % nodes → s at ≡ Some (short_bytes owner [])
    → IsList nodes s at owner [] (at ∷ [])
empty_list nodes s at owner self owned near bytes = record {
  self = self;
  owner_fits = owned;
  near = near;
  fit = tt;
  rising = tt;
  form = inl (record { bytes = bytes; few = omega arith; places_are = refl });
}

-- the header, then its parts, then the header anew
pub created : (nodes node : ℕ) (s t u v : State) (graph : Addr) (kind : ℕ) (values : Record) (at : Addr)
    (first : List ℕ) (fields : Header) → IsAddr graph → IsAddr at → IsRecord values
    → at.region % nodes ≡ node → s at ≡ None → t ≡ with_bytes at (Some first) s
    → MakesParts nodes node t u kind at values fields → v ≡ with_bytes at (Some (header_bytes graph fields)) u
    → Creates nodes node s v graph kind values at
created nodes node s t u v graph kind values at first fields graph_fits self record_fits home free put parts last =
    let qs : List Addr = parts_of fields in
    let off : IsAmong at qs → ⊥ = (header_stays nodes node s t u kind at first values fields put parts).0 in
    let keep : (b : Addr) → IsAmong b qs → v b ≡ u b = λ b i.
    beside u v at (Some (header_bytes graph fields)) last b
    (λ e. off (subst (λ (x : Addr). IsAmong x qs) e i)) in
    record {
      fields = fields;
      kind_is = parts.kind_is;
      home = home;
      bare = record {
        vertex = record {
          bytes = here_now u v at (Some (header_bytes graph fields)) last;
          self = self;
          graph_fits = graph_fits;
          fit = parts.fit;
          body_near = parts.body_home ∙ sym home;
          out_near = parts.out_home ∙ sym home;
          into_near = parts.into_home ∙ sym home;
        };
        body = record {
          bytes = keep fields.body (inl refl) ∙ parts.body;
          owner_fits = self;
          fit = record_fits;
        };
        out = empty_list nodes v fields.out at parts.fit.out self (parts.out_home ∙ sym home)
            (keep fields.out (inr (inl refl)) ∙ parts.out);
        into = empty_list nodes v fields.into at parts.fit.into self (parts.into_home ∙ sym home)
            (keep fields.into (inr (inr (inl refl))) ∙ parts.into);
        distinct = (off, parts.distinct);
      };
      moves = moves_then s t v [] (at ∷ []) (at ∷ qs) (placed s t [] at first free put)
          (moves_then t u v (at ∷ []) (at ∷ qs) (at ∷ qs) (moves_beside t u (at ∷ []) [] qs parts.moves)
          (rewritten u v (at ∷ qs) at (header_bytes graph fields) (inl refl) last));
    }

-- ---- given another record

-- a header and a record are of different kinds
kinds_differ : (nodes : ℕ) (s : State) (at graph : Addr) (fields : Header) (values : Record)
    → IsVertex nodes s at graph fields → IsBody s 8 fields.body at values → at ≡ fields.body → ⊥
kinds_differ nodes s at graph fields values vertex body e =
    let same : Some (header_bytes graph fields) ≡ Some (body_bytes 8 at values) =
    sym vertex.bytes ∙ ap s e ∙ body.bytes in
    cc

pub was_set : (nodes : ℕ) (s t : State) (at graph : Addr) (fields : Header) (old values : Record)
    → IsVertex nodes s at graph fields → IsBody s 8 fields.body at old → IsRecord values
    → t ≡ with_bytes fields.body (Some (body_bytes 8 at values)) s → Sets nodes s t at graph fields values
was_set nodes s t at graph fields old values vertex body fit put = record {
  vertex = record {
    bytes = beside s t fields.body (Some (body_bytes 8 at values)) put at
        (kinds_differ nodes s at graph fields old vertex body) ∙ vertex.bytes;
    self = vertex.self;
    graph_fits = vertex.graph_fits;
    fit = vertex.fit;
    body_near = vertex.body_near;
    out_near = vertex.out_near;
    into_near = vertex.into_near;
  };
  body = record {
    bytes = here_now s t fields.body (Some (body_bytes 8 at values)) put;
    owner_fits = body.owner_fits;
    fit = fit;
  };
  only = put;
}

-- ---- taken away

empty_bytes : (nodes : ℕ) (s : State) (at owner : Addr) (places : List Addr) → IsList nodes s at owner [] places
    → s at ≡ Some (short_bytes owner [])
empty_bytes nodes s at owner places list = elim list.form [
  | inl short ↦ short.bytes
  | inr long ↦ absurd (omega (arith, long.many))
]

-- without its header a vertex still has its record
pub body_left : (nodes : ℕ) (s t : State) (at graph : Addr) (fields : Header) (values : Record)
    → IsBare nodes s at graph fields values → t ≡ with_bytes at None s → t fields.body ≡ None → ⊥
body_left nodes s t at graph fields values bare one = some_not_none (t fields.body) (body_bytes 8 at values)
    (beside s t at None one fields.body (λ e. bare.distinct.0 (inl e)) ∙ bare.body.bytes)

-- without its header and its record it still has its lists
pub out_left : (nodes : ℕ) (s t u : State) (at graph : Addr) (fields : Header) (values : Record)
    → IsBare nodes s at graph fields values → t ≡ with_bytes at None s → u ≡ with_bytes fields.body None t
    → u fields.out ≡ Some (short_bytes at [])
out_left nodes s t u at graph fields values bare one two =
    beside t u fields.body None two fields.out (λ e. bare.distinct.1.0 (inl e)) ∙
    beside s t at None one fields.out (λ e. bare.distinct.0 (inr (inl e))) ∙
    empty_bytes nodes s fields.out at (fields.out ∷ []) bare.out

pub into_left : (nodes : ℕ) (s t u v : State) (at graph : Addr) (fields : Header) (values : Record)
    → IsBare nodes s at graph fields values → t ≡ with_bytes at None s → u ≡ with_bytes fields.body None t
    → v ≡ with_bytes fields.out None u → v fields.into ≡ Some (short_bytes at [])
into_left nodes s t u v at graph fields values bare one two three =
    beside u v fields.out None three fields.into (λ e. bare.distinct.1.1.0 (inl e)) ∙
    beside t u fields.body None two fields.into (λ e. bare.distinct.1.0 (inr (inl e))) ∙
    beside s t at None one fields.into (λ e. bare.distinct.0 (inr (inr (inl e)))) ∙
    empty_bytes nodes s fields.into at (fields.into ∷ []) bare.into

pub destroyed : (s t u v w : State) (at : Addr) (fields : Header) → t ≡ with_bytes at None s
    → u ≡ with_bytes fields.body None t → v ≡ with_bytes fields.out None u → w ≡ with_bytes fields.into None v
    → Moves s w (objects_of at fields) []
destroyed s t u v w at fields one two three four =
    moves_then s t w (objects_of at fields) (parts_of fields) [] (taken s t at (parts_of fields) one)
    (moves_then t u w (parts_of fields) (fields.out ∷ fields.into ∷ []) []
    (taken t u fields.body (fields.out ∷ fields.into ∷ []) two)
    (moves_then u v w (fields.out ∷ fields.into ∷ []) (fields.into ∷ []) []
    (taken u v fields.out (fields.into ∷ []) three) (taken v w fields.into [] four)))
