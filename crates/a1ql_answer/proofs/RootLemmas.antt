-- The first set, from fewer candidates than all vertices.
use Rattle.std.proofs.Common.{◌≡◌, ℕ, List, [], ◌∷◌, Bool, true, false, cond, nat_eq, Option, Some, None, filter, slice_get, refl, sym, ap, ◌∙◌}
use Rattle.std.specs.List.{list_all}
use Rattle.std.specs.List.Sorted.{IsStrictlySortedBy}
use Rattle.std.proofs.lemmas.Bool.{eqb-true}
use Rattle.a1_base.specs.Maps.{at, IsOrdered}
use Rattle.a1_value.specs.declared.value.Value.{Value}
use Rattle.a1_value.specs.Order.{value_order}
use Rattle.type_schema.specs.declared.names.VertexName.{VertexName}
use Rattle.type_schema.specs.Schemas.{Record, key_of}
use Rattle.type_schema.specs.Graph.{Graph, type_order, vertex_order, vertex_at}
use Rattle.a1ql_reader.specs.declared.patterns.Comparison.{Comparison}
use Rattle.a1ql_reader.specs.declared.patterns.Comparison.TheVariants as compared
use Rattle.a1ql_plan.specs.declared.plans.Predicate.{Predicate}
use Rattle.a1ql_plan.specs.declared.plans.Plan.{Plan, out-Plan}
use Rattle.a1ql_plan.specs.Answer.{is_vertex, is_type, Vertex, value_holds, holds, all_hold, says, first_set, answer_of}
use Rattle.a1ql_answer.specs.Steps.{suits, before, is_equal, asks_key, key_asked, keyed, answer_from}
use Rattle.a1ql_answer.specs.Laws.{RootLaw}
use Rattle.a1ql_answer.proofs.AnyLemmas.{and_first, and_second, filter_within}
use Rattle.a1ql_answer.proofs.OrderLemmas.{exact_values, exact_types, vertex_total, exact_vertices}
use Rattle.a1ql_answer.proofs.MapLemmas.{is_level, itself, one_key, narrowed}
use Rattle.a1ql_answer.proofs.LevelLemmas.{stands_is, start_law}

pub root_law : RootLaw
root_law g plan candidates ordered sorted within covers = narrowed vertex_order vertex_total exact_vertices ((says plan).stands g) candidates g.vertices sorted ordered within covers

-- what stands suits
suits_too : (g : Graph) (p : Plan) (v : Vertex) → (says p).stands g v ≡ true → suits p v ≡ true
suits_too g p v stands = and_first (suits p v) _ (sym (stands_is g p v) ∙ stands)

-- ---- the vertices of the type

pub by_type : (g : Graph) (p : Plan) → filter ((says p).stands g) (filter (λ v. is_type (out-Plan p).kind v.0.graph v.0.kind) g.vertices) ≡ first_set g p
by_type g p =
    filter_within ((says p).stands g) (λ v. is_type (out-Plan p).kind v.0.graph v.0.kind)
    (λ v stands. and_first (is_type (out-Plan p).kind v.0.graph v.0.kind) (all_hold (out-Plan p).tests v.1) (suits_too g p v stands)) g.vertices

-- ---- the vertex of a key

equals : (op : Comparison) (place : ℕ) (key : Value) (x : Record) → is_equal op ≡ true → place ≡ 0 → value_holds (record { place = place; op = op; value = key }) (slice_get x place) ≡ true → key_of x ≡ key
equals compared.Eq place key x e at h = by x (ap (λ n. value_holds (record { place = 0; op = compared.Eq; value = key }) (slice_get x n)) (sym at) ∙ h) where
  by : (x : Record) → value_holds (record { place = 0; op = compared.Eq; value = key }) (slice_get x 0) ≡ true → key_of x ≡ key
  by [] h = cc
  by (v ∷ x) h = exact_values v key (is_level (value_order v key) h)
equals compared.Ne place key x e at h = cc
equals compared.Lt place key x e at h = cc
equals compared.Le place key x e at h = cc
equals compared.Gt place key x e at h = cc
equals compared.Ge place key x e at h = cc

key_held : (tests : List Predicate) (key : Value) (x : Record) → key_asked tests ≡ Some key → all_hold tests x ≡ true → key_of x ≡ key
key_held [] key x e h = cc
key_held (t ∷ tests) key x e h = by (asks_key t) refl e (λ f. key_held tests key x f (and_second (holds x t) (list_all (holds x) tests) h)) where
  by : (b : Bool) → asks_key t ≡ b → cond b (Some t.value) (key_asked tests) ≡ Some key → (key_asked tests ≡ Some key → key_of x ≡ key) → key_of x ≡ key
  by true asks f ih =
      let same : t.value ≡ key = cc in
      equals t.op t.place t.value x (and_first (is_equal t.op) (nat_eq t.place 0) asks) (eqb-true t.place 0 (and_second (is_equal t.op) (nat_eq t.place 0) asks))
      (and_first (holds x t) (list_all (holds x) tests) h) ∙ same
  by false asks f ih = ih f

-- whatever stands has that key
is_keyed : (g : Graph) (p : Plan) (key : Value) → key_asked (out-Plan p).tests ≡ Some key → (v : VertexName) (x : Record) → key_of x ≡ v.key → (says p).stands g (v, x) ≡ true → v ≡ keyed p key
is_keyed g p key asked v x first stands =
    let d = out-Plan p in
    let suits_it = suits_too g p (v, x) stands in
    let of_type = exact_types d.kind (record { graph = v.graph; name = v.kind })
    (is_level (type_order d.kind (record { graph = v.graph; name = v.kind })) (and_first (is_type d.kind v.graph v.kind) (all_hold d.tests x) suits_it)) in
    let its_key : v.key ≡ key = sym first ∙ key_held d.tests key x asked (and_second (is_type d.kind v.graph v.kind) (all_hold d.tests x) suits_it) in
    λ i. record { graph = (sym of_type i).graph; kind = (sym of_type i).name; key = its_key i }

one_ordered : (k : VertexName) (o : Option Record) → IsOrdered vertex_order (before k o [])
unfolding IsStrictlySortedBy
one_ordered k None = tt
one_ordered k (Some x) = (tt, tt)

one_at : (q k : VertexName) (o : Option Record) (x : Record) → at vertex_order q (before k o []) ≡ Some x → (q ≡ k) × (o ≡ Some x)
one_at q k None x e = cc
one_at q k (Some y) x e = by (is_vertex q k) refl e where
  by : (b : Bool) → is_vertex q k ≡ b → cond b (Some y) None ≡ Some x → (q ≡ k) × (Some y ≡ Some x)
  by true h e = (one_key vertex_order vertex_total exact_vertices q k h, e)
  by false h e = cc

pub by_key : (g : Graph) (p : Plan) (key : Value) → key_asked (out-Plan p).tests ≡ Some key → IsOrdered vertex_order g.vertices → ((v : VertexName) (x : Record) → vertex_at g v ≡ Some x → key_of x ≡ v.key)
    → filter ((says p).stands g) (before (keyed p key) (vertex_at g (keyed p key)) []) ≡ first_set g p
by_key g p key asked ordered first =
    let k = keyed p key in
    root_law g p (before k (vertex_at g k) []) ordered (one_ordered k (vertex_at g k))
    (λ v x e. let here = one_at v k (vertex_at g k) x e in ap (vertex_at g) here.0 ∙ here.1)
    (λ v x e stands. let here : v ≡ k = is_keyed g p key asked v x (first v x e) stands in
    let there : vertex_at g k ≡ Some x = sym (ap (vertex_at g) here) ∙ e in
    ap (λ o. at vertex_order v (before k o [])) there ∙ ap (λ b. cond b (Some x) None) (ap (is_vertex v) (sym here) ∙ itself vertex_order vertex_total v))

-- ---- the answer, from either on

pub from_type : (g : Graph) (p : Plan) → answer_of g p ≡ answer_from g (says p) (filter ((says p).stands g) (filter (λ v. is_type (out-Plan p).kind v.0.graph v.0.kind) g.vertices))
from_type g p = start_law g p ∙ ap (answer_from g (says p)) (sym (by_type g p))

pub from_key : (g : Graph) (p : Plan) (key : Value) → key_asked (out-Plan p).tests ≡ Some key → IsOrdered vertex_order g.vertices → ((v : VertexName) (x : Record) → vertex_at g v ≡ Some x → key_of x ≡ v.key)
    → answer_of g p ≡ answer_from g (says p) (filter ((says p).stands g) (before (keyed p key) (vertex_at g (keyed p key)) []))
from_key g p key asked ordered first = start_law g p ∙ ap (answer_from g (says p)) (sym (by_key g p key asked ordered first))
