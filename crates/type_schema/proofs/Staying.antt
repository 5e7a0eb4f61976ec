-- Equal bytes on its places keep a vertex, a record, a list or an index; each place has an object.
use Rattle.std.proofs.Common.{◌≡◌, inl, inr, ℕ, List, [], refl, sym, subst, ◌∙◌}
use Rattle.std.specs.Prelude.{length, map}
use Rattle.a1_base.specs.Lists.{IsAmong}
use Rattle.a1_base.specs.declared.place.Addr.{Addr}
use Rattle.object_view.specs.Agreement.{State}
use Rattle.object_view.proofs.Standing.{Full, full_cons, tree_kept, tree_filled}
use Rattle.object_view.proofs.Views.{some_not_none}
use Rattle.type_schema.specs.declared.objects.Header.{Header}
use Rattle.type_schema.specs.declared.objects.Half.{Half}
use Rattle.type_schema.specs.Schemas.{Record}
use Rattle.type_schema.specs.Objects.{half_entry, short_bytes, long_bytes, index_entry, IndexRow}
use Rattle.type_schema.specs.Structures.{IsVertex, IsBody, IsList, IsShort, IsLong, IsIndex, SameOn}

pub vertex_kept : (nodes : ℕ) (s t : State) (at graph : Addr) (fields : Header) → IsVertex nodes s at graph fields
    → t at ≡ s at → IsVertex nodes t at graph fields
vertex_kept nodes s t at graph fields vertex same = record {
  bytes = same ∙ vertex.bytes;
  self = vertex.self;
  graph_fits = vertex.graph_fits;
  fit = vertex.fit;
  body_near = vertex.body_near;
  out_near = vertex.out_near;
  into_near = vertex.into_near;
}

pub body_kept : (s t : State) (kind : ℕ) (at owner : Addr) (values : Record) → IsBody s kind at owner values
    → t at ≡ s at → IsBody t kind at owner values
body_kept s t kind at owner values body same = record {
  bytes = same ∙ body.bytes;
  owner_fits = body.owner_fits;
  fit = body.fit;
}

short_kept : (s t : State) (at owner : Addr) (halves : List Half) (places : List Addr)
    → IsShort s at owner halves places → SameOn s t places → IsShort t at owner halves places
short_kept s t at owner halves places list same = record {
  bytes = same at (subst (λ (xs : List Addr). IsAmong at xs) (sym list.places_are) (inl refl)) ∙ list.bytes;
  few = list.few;
  places_are = list.places_are;
}

long_kept : (nodes : ℕ) (s t : State) (at owner : Addr) (halves : List Half) (places : List Addr)
    → IsLong nodes s at owner halves places → SameOn s t places → IsLong nodes t at owner halves places
long_kept nodes s t at owner halves places list same = record {
  anchor = list.anchor;
  below = list.below;
  bytes = same at (subst (λ (xs : List Addr). IsAmong at xs) (sym list.places_are) (inl refl)) ∙ list.bytes;
  many = list.many;
  count = list.count;
  anchor_fits = list.anchor_fits;
  near = list.near;
  tree = tree_kept nodes s t list.anchor at (map half_entry halves) list.below list.tree
      (λ a i. same a (subst (λ (xs : List Addr). IsAmong a xs) (sym list.places_are) (inr i)));
  apart = list.apart;
  places_are = list.places_are;
}

pub list_kept : (nodes : ℕ) (s t : State) (at owner : Addr) (halves : List Half) (places : List Addr)
    → IsList nodes s at owner halves places → SameOn s t places → IsList nodes t at owner halves places
list_kept nodes s t at owner halves places list same = record {
  self = list.self;
  owner_fits = list.owner_fits;
  near = list.near;
  fit = list.fit;
  rising = list.rising;
  form = elim list.form [
    | inl short ↦ inl (short_kept s t at owner halves places short same)
    | inr long ↦ inr (long_kept nodes s t at owner halves places long same)
  ];
}

pub list_filled : (nodes : ℕ) (s : State) (at owner : Addr) (halves : List Half) (places : List Addr)
    → IsList nodes s at owner halves places → Full s places
list_filled nodes s at owner halves places list a i = elim list.form [
  | inl short ↦ full_cons s at [] (some_not_none (s at) (short_bytes owner (map half_entry halves)) short.bytes)
      (λ b j. absurd j) a (subst (λ (xs : List Addr). IsAmong a xs) short.places_are i)
  | inr long ↦ full_cons s at long.below
      (some_not_none (s at) (long_bytes owner (length halves) long.anchor) long.bytes)
      (tree_filled nodes s long.anchor at (map half_entry halves) long.below long.tree) a
      (subst (λ (xs : List Addr). IsAmong a xs) long.places_are i)
]

pub list_self : (nodes : ℕ) (s : State) (at owner : Addr) (halves : List Half) (places : List Addr)
    → IsList nodes s at owner halves places → IsAmong at places
list_self nodes s at owner halves places list = elim list.form [
  | inl short ↦ subst (λ (xs : List Addr). IsAmong at xs) (sym short.places_are) (inl refl)
  | inr long ↦ subst (λ (xs : List Addr). IsAmong at xs) (sym long.places_are) (inl refl)
]

pub index_kept : (nodes : ℕ) (s t : State) (anchor owner : Addr) (rows : List IndexRow) (places : List Addr)
    → IsIndex nodes s anchor owner rows places → SameOn s t places → IsIndex nodes t anchor owner rows places
index_kept nodes s t anchor owner rows places index same = record {
  fit = index.fit;
  tree = tree_kept nodes s t anchor owner (map index_entry rows) places index.tree same;
}
