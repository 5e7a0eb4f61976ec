-- The set behind a hop, found by names.
use Rattle.std.proofs.Common.{◌≡◌, List, [], ◌∷◌, Bool, true, false, cond, ◌&&◌, ◌||◌, Option, Some, None, filter, refl, sym, ap, ◌∙◌, Ordering, Less, Equal, Greater}
use Rattle.std.specs.List.{list_any, AllByRecursion}
use Rattle.std.specs.List.Sorted.{IsStrictlySortedBy}
use Rattle.std.specs.Ordering.{match_ordering}
use Rattle.std.specs.BTreeSet.{insert_key}
use Rattle.std.specs.Map.{keys_of}
use Rattle.a1_base.specs.Maps.{at, IsOrdered}
use Rattle.type_schema.specs.declared.names.VertexName.{VertexName}
use Rattle.type_schema.specs.Schemas.{Record}
use Rattle.type_schema.specs.Graph.{Graph, vertex_order, near, far, vertex_at}
use Rattle.a1ql_plan.specs.declared.plans.Expand.{Expand, out-Expand}
use Rattle.a1ql_plan.specs.Answer.{is_vertex, is_type, Vertex, all_hold, says}
use Rattle.a1ql_answer.specs.Steps.{before, found, ends_at, is_led, is_joined, set_behind}
use Rattle.a1ql_answer.specs.Laws.{HopLaw}
use Rattle.a1ql_answer.proofs.AnyLemmas.{any_same, regrouped}
use Rattle.a1ql_answer.proofs.OrderLemmas.{vertex_total, exact_vertices}
use Rattle.a1ql_answer.proofs.MapLemmas.{one_key, keep, ordered_filter, at_keep, same_lists}

one_vertex : (v w : VertexName) → is_vertex v w ≡ true → v ≡ w
one_vertex v w e = one_key vertex_order vertex_total exact_vertices v w e

-- ---- look-ups among what is found

nothing : {X : Type 0} (b : Bool) (o : Option X) → o ≡ None → cond b o None ≡ None
nothing true o e = e
nothing false o e = refl

at_found : (g : Graph) (q : VertexName) (names : List VertexName) → at vertex_order q (found g names) ≡ cond (list_any (is_vertex q) names) (vertex_at g q) None
at_found g q [] = refl
at_found g q (k ∷ names) = by (vertex_at g k) refl (is_vertex q k) refl (at_found g q names) where
  by : (o : Option Record) → vertex_at g k ≡ o → (b : Bool) → is_vertex q k ≡ b → at vertex_order q (found g names) ≡ cond (list_any (is_vertex q) names) (vertex_at g q) None
      → at vertex_order q (before k o (found g names)) ≡ cond (b || list_any (is_vertex q) names) (vertex_at g q) None
  by None e true h ih =
      let none : vertex_at g q ≡ None = ap (vertex_at g) (one_vertex q k h) ∙ e in
      ih ∙ (nothing (list_any (is_vertex q) names) (vertex_at g q) none ∙ sym none)
  by None e false h ih = ih
  by (Some x) e true h ih = ap (λ z. cond z (Some x) (at vertex_order q (found g names))) h ∙ sym (ap (vertex_at g) (one_vertex q k h) ∙ e)
  by (Some x) e false h ih = ap (λ z. cond z (Some x) (at vertex_order q (found g names))) h ∙ ih

all_found : (g : Graph) (P : VertexName → Type 0) (names : List VertexName) → AllByRecursion P names → AllByRecursion P (keys_of (found g names))
all_found g P [] all = tt
all_found g P (k ∷ names) all = by (vertex_at g k) (all_found g P names all.1) where
  by : (o : Option Record) → AllByRecursion P (keys_of (found g names)) → AllByRecursion P (keys_of (before k o (found g names)))
  by None ih = ih
  by (Some x) ih = (all.0, ih)

found_ordered : (g : Graph) (names : List VertexName) → IsStrictlySortedBy vertex_order names → IsOrdered vertex_order (found g names)
unfolding IsStrictlySortedBy
found_ordered g [] s = tt
found_ordered g (k ∷ names) s = by (vertex_at g k) (found_ordered g names s.1) where
  by : (o : Option Record) → IsOrdered vertex_order (found g names) → IsOrdered vertex_order (before k o (found g names))
  by None ih = ih
  by (Some x) ih = (all_found g (λ y. vertex_order k y ≡ Less) names s.0, ih)

-- ---- of the vertices of some names those that pass a test are the filter of the whole list by the test and the names

both_tests : (p : Record → Bool) (b : Bool) (o : Option Record) → keep p (cond b o None) ≡ keep (λ x. p x && b) o
both_tests p true None = refl
both_tests p false None = refl
both_tests p true (Some x) = by (p x) where
  by : (c : Bool) → cond c (Some x) None ≡ cond (c && true) (Some x) None
  by true = refl
  by false = refl
both_tests p false (Some x) = by (p x) where
  by : (c : Bool) → None ≡ cond (c && false) (Some x) None
  by true = refl
  by false = refl

pub among_names : (g : Graph) (p : Vertex → Bool) (names : List VertexName) → IsOrdered vertex_order g.vertices → IsStrictlySortedBy vertex_order names
    → filter p (found g names) ≡ filter (λ w. p w && list_any (is_vertex w.0) names) g.vertices
among_names g p names ordered sorted =
    same_lists vertex_order vertex_total exact_vertices (filter p (found g names)) (filter (λ w. p w && list_any (is_vertex w.0) names) g.vertices)
    (ordered_filter vertex_order vertex_total exact_vertices p (found g names) (found_ordered g names sorted))
    (ordered_filter vertex_order vertex_total exact_vertices (λ w. p w && list_any (is_vertex w.0) names) g.vertices ordered)
    (λ q. at_keep vertex_order vertex_total exact_vertices p q (found g names) (found_ordered g names sorted)
    ∙ (ap (keep (λ x. p (q, x))) (at_found g q names)
    ∙ (both_tests (λ x. p (q, x)) (list_any (is_vertex q) names) (vertex_at g q)
    ∙ sym (at_keep vertex_order vertex_total exact_vertices (λ w. p w && list_any (is_vertex w.0) names) q g.vertices ordered))))

-- the names tell which vertices are joined to the set
pub joined_names : (g : Graph) (h : Expand) (set : List Vertex) (names : List VertexName) → ((w : VertexName) → list_any (is_vertex w) names ≡ is_joined g h set w)
    → filter (λ w. (says (out-Expand h).to).stands g w && list_any (is_vertex w.0) names) g.vertices ≡ set_behind g h set
joined_names g h set names tells = λ i. filter (λ w. (says (out-Expand h).to).stands g w && tells w.0 i) g.vertices

-- ---- the names that are gathered

again : (a b : Bool) → (a || b) ≡ ((a || b) || a)
again true b = refl
again false true = refl
again false false = refl

turned : (a b c : Bool) → (a || (b || c)) ≡ ((a || b) || c)
turned true b c = refl
turned false b c = refl

swapped : (a b : Bool) → (a || b) ≡ (b || a)
swapped true true = refl
swapped true false = refl
swapped false true = refl
swapped false false = refl

-- a name put among the others
pub any_key : (w k : VertexName) (keys : List VertexName) → list_any (is_vertex w) (insert_key vertex_order keys k) ≡ (list_any (is_vertex w) keys || is_vertex w k)
any_key w k [] = swapped (is_vertex w k) false
any_key w k (x ∷ keys) = by (any_key w k keys) (vertex_order k x) refl where
  by : list_any (is_vertex w) (insert_key vertex_order keys k) ≡ (list_any (is_vertex w) keys || is_vertex w k) → (r : Ordering) → vertex_order k x ≡ r
      → list_any (is_vertex w) (match_ordering r (k ∷ x ∷ keys) (x ∷ keys) (x ∷ insert_key vertex_order keys k)) ≡ ((is_vertex w x || list_any (is_vertex w) keys) || is_vertex w k)
  by ih Less p = swapped (is_vertex w k) (is_vertex w x || list_any (is_vertex w) keys)
  by ih Equal p = again (is_vertex w x) (list_any (is_vertex w) keys) ∙ ap (λ z. (is_vertex w x || list_any (is_vertex w) keys) || is_vertex w z) (sym (exact_vertices k x p))
  by ih Greater p = ap (λ b. is_vertex w x || b) ih ∙ turned (is_vertex w x) (list_any (is_vertex w) keys) (is_vertex w k)

-- of the edges at a vertex, those that end there lead there
pub leads_on : (g : Graph) (h : Expand) (v w : VertexName)
    → list_any (λ e. is_vertex v (near (out-Expand h).out e.0) && (is_type (out-Expand h).kind e.0.graph e.0.kind && ends_at h w e)) g.edges ≡ is_led g h v w
leads_on g h v w =
    any_same _ _ (λ e. sym (regrouped (is_vertex v (near (out-Expand h).out e.0)) (is_type (out-Expand h).kind e.0.graph e.0.kind) (all_hold (out-Expand h).tests e.1) (is_vertex w (far (out-Expand h).out e.0)))) g.edges

pub hop_law : HopLaw
hop_law g h set arrivals names ordered sorted arrive ends =
    among_names g ((says (out-Expand h).to).stands g) names ordered sorted
    ∙ joined_names g h set names (λ w. ends w ∙ (arrive (ends_at h w) ∙ any_same _ _ (λ v. leads_on g h v.0 w) set))
