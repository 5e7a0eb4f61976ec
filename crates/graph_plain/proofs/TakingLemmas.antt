-- Taking out, one after another, the entries at all keys that pass a test.
use Rattle.std.proofs.Common.{◌≡◌, ℕ, List, [], ◌∷◌, ◌++◌, map, Bool, true, false, not, ◌||◌, cond, nat_eq, filter, sym, refl, ap, ◌∙◌, true≢false, Ordering, is_eq}
use Rattle.std.specs.Cmp.{IsTotalOrder, nat_cmp_total, on_total, then_total}
use Rattle.std.specs.Cmp.Lexicographic.{nat_list_cmp_total}
use Rattle.std.specs.List.{AllByRecursion, list_any}
use Rattle.std.proofs.lemmas.Map.Lookups.{CmpEqualImpliesEq}
use Rattle.a1_base.specs.Maps.{without}
use Rattle.type_schema.specs.declared.names.TypeName.{TypeName}
use Rattle.type_schema.specs.declared.names.VertexName.{VertexName}
use Rattle.type_schema.specs.declared.names.EdgeName.{EdgeName}
use Rattle.type_schema.specs.declared.rows.TypeSchema.{TypeSchema}
use Rattle.type_schema.specs.Schemas.{Record}
use Rattle.type_schema.specs.Graph.{type_order, vertex_order, edge_order}
use Rattle.request_reader.specs.Operations.{touches}
use Rattle.graph_maps.specs.ExactKeys.{exact_types, exact_vertices, exact_edges}
use Rattle.graph_maps.specs.KeyOrders.{vertex_total, edge_total}
use Rattle.graph_plain.specs.Taking.{without_all}
use Rattle.graph_maps.proofs.MapLemmas.{itself, one_key, all_more}

abbrev named : {K : Type 0} → (K → K → Ordering) → K → List K → Bool
named R k keys = list_any (λ x. is_eq (R k x)) keys

none_left : {K X : Type 0} (R : K → K → Ordering) (keys : List K) → without_all {X = X} R keys [] ≡ []
none_left R [] = refl
none_left R (k ∷ keys) = none_left R keys

-- one key more
pub without_last : {K X : Type 0} (R : K → K → Ordering) (keys : List K) (k : K) (es : List (K × X)) → without_all R (keys ++ k ∷ []) es ≡ without R k (without_all R keys es)
without_last R [] k es = refl
without_last R (x ∷ keys) k es = without_last R keys k (without R x es)

module _ {K X : Type 0} (R : K → K → Ordering) where
  -- the first entry goes where one of the keys is its own
  first_of : (keys : List K) (e : K × X) (es : List (K × X)) → without_all R keys (e ∷ es) ≡ cond (named R e.0 keys) (without_all R keys es) (e ∷ without_all R keys es)
  first_of [] e es = refl
  first_of (k ∷ keys) e es = by (is_eq (R e.0 k)) (first_of keys e (without R k es)) where
    by : (b : Bool) → without_all R keys (e ∷ without R k es) ≡ cond (named R e.0 keys) (without_all R keys (without R k es)) (e ∷ without_all R keys (without R k es))
        → without_all R keys (cond (not b) (e ∷ without R k es) (without R k es)) ≡ cond (b || named R e.0 keys) (without_all R keys (without R k es)) (e ∷ without_all R keys (without R k es))
    by true ih = refl
    by false ih = ih

  module _ (q : K → Bool) where
    -- the keys that pass
    abbrev passing_keys : List (K × X) → List K
    passing_keys es = map (λ e. e.0) (filter (λ e. q e.0) es)

    left : (keys : List K) (es : List (K × X)) → AllByRecursion (λ e. named R e.0 keys ≡ q e.0) es → without_all R keys es ≡ filter (λ e. not (q e.0)) es
    left keys [] all = none_left R keys
    left keys (e ∷ es) all = first_of keys e es ∙ by (named R e.0 keys) (q e.0) all.0 (left keys es all.1) where
      by : (b c : Bool) → b ≡ c → without_all R keys es ≡ filter (λ e. not (q e.0)) es
          → cond b (without_all R keys es) (e ∷ without_all R keys es) ≡ cond (not c) (e ∷ filter (λ e. not (q e.0)) es) (filter (λ e. not (q e.0)) es)
      by true true p ih = ih
      by true false p ih = cc
      by false true p ih = cc
      by false false p ih = ap (λ xs. e ∷ xs) ih

    module _ (o : IsTotalOrder R) (exact : CmpEqualImpliesEq R) where
      -- one more entry among those whose keys are looked through
      one_more : (k : K) (e : K × X) (es : List (K × X)) → named R k (passing_keys es) ≡ q k → named R k (passing_keys (e ∷ es)) ≡ q k
      one_more k e es h = by (q e.0) refl where
        level : (b : Bool) → is_eq (R k e.0) ≡ b → q e.0 ≡ true → (b || named R k (passing_keys es)) ≡ q k
        level true p t = sym (ap q (one_key R o exact k e.0 p) ∙ t)
        level false p t = h

        by : (c : Bool) → q e.0 ≡ c → named R k (map (λ e. e.0) (cond c (e ∷ filter (λ e. q e.0) es) (filter (λ e. q e.0) es))) ≡ q k
        by true t = level (is_eq (R k e.0)) refl t
        by false t = h

      -- a key that does not pass is none of them
      absent : (k : K) (es : List (K × X)) → q k ≡ false → named R k (passing_keys es) ≡ q k
      absent k [] f = sym f
      absent k (e ∷ es) f = one_more k e es (absent k es f)

      own : (e : K × X) (es : List (K × X)) (c : Bool) → q e.0 ≡ c → named R e.0 (passing_keys (e ∷ es)) ≡ q e.0
      own e es true t = rw (t, itself R o e.0) refl
      own e es false t = absent e.0 (e ∷ es) t

      each : (es : List (K × X)) → AllByRecursion (λ e. named R e.0 (passing_keys es) ≡ q e.0) es
      each [] = tt
      each (e ∷ es) = (own e es (q e.0) refl, all_more _ _ (λ x h. one_more x.0 e es h) es (each es))

      -- taking out the keys that pass leaves the entries whose keys do not
      pub taken : (es : List (K × X)) → without_all R (passing_keys es) es ≡ filter (λ e. not (q e.0)) es
      taken es = left (passing_keys es) es (each es)

type_total : IsTotalOrder type_order
type_total = then_total (on_total (λ t. t.graph) nat_cmp_total) (on_total (λ t. t.name) nat_list_cmp_total)

pub types_taken : (number : ℕ) (types : List (TypeName × TypeSchema))
    → without_all type_order (map (λ t. t.0) (filter (λ t. nat_eq t.0.graph number) types)) types ≡ filter (λ t. not (nat_eq t.0.graph number)) types
types_taken number types = taken type_order (λ t. nat_eq t.graph number) type_total exact_types types

pub vertices_taken : (number : ℕ) (vertices : List (VertexName × Record))
    → without_all vertex_order (map (λ v. v.0) (filter (λ v. nat_eq v.0.graph number) vertices)) vertices ≡ filter (λ v. not (nat_eq v.0.graph number)) vertices
vertices_taken number vertices = taken vertex_order (λ v. nat_eq v.graph number) vertex_total exact_vertices vertices

pub edges_taken : (number : ℕ) (edges : List (EdgeName × Record))
    → without_all edge_order (map (λ e. e.0) (filter (λ e. nat_eq e.0.graph number) edges)) edges ≡ filter (λ e. not (nat_eq e.0.graph number)) edges
edges_taken number edges = taken edge_order (λ e. nat_eq e.graph number) edge_total exact_edges edges

pub touching_taken : (v : VertexName) (edges : List (EdgeName × Record))
    → without_all edge_order (map (λ e. e.0) (filter (λ e. touches v e.0) edges)) edges ≡ filter (λ e. not (touches v e.0)) edges
touching_taken v edges = taken edge_order (touches v) edge_total exact_edges edges
