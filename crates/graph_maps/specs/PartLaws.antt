-- Parts of an ordered list hang together: those of keys that tie in front of what the order compares.
use Rattle.std.specs.Prelude.{◌≡◌, ℕ, List, [], ◌∷◌, Bool, true, false, nat_eq}
use Rattle.std.specs.Ordering.{is_eq, is_gt, ordering_then, ordering_reverse, then_cmp, on, nat_cmp, bool_cmp}
use Rattle.std.specs.declared.cmp.Ordering.{Ordering}
use Rattle.std.specs.declared.cmp.Ordering.TheVariants.{Less, Equal, Greater}
use Rattle.std.specs.BTreeMap.Range.{IsLeBy}
use Rattle.std.specs.Cmp.{IsTotalOrder, alike_right, tied_back, Equal-is, unsigned_tied, nat_eq_equiv, nat_cmp_total, on_total, then_total, bool_cmp_total}
use Rattle.std.specs.Cmp.Lexicographic.{nat_list_cmp_total}
use mathlib.Core.Path.{refl, sym, ap, ◌∙◌}
use Rattle.a1_value.specs.Order.{byte_order, value_order}
use Rattle.a1_value.specs.OrderLaws.{value_total}
use Rattle.type_schema.specs.Graph.{type_order, vertex_order, edge_order, near, far}
use Rattle.type_schema.specs.declared.names.TypeName.{TypeName}
use Rattle.type_schema.specs.declared.names.VertexName.{VertexName}
use Rattle.type_schema.specs.declared.names.EdgeName.{EdgeName}
use Rattle.graph_maps.specs.declared.half.Half.{Half}
use Rattle.graph_maps.specs.Keys.{IsKey}
use Rattle.graph_maps.specs.Halves.{near_end, far_end, front_order, half_order}
use Rattle.graph_maps.specs.KeyOrders.{vertex_total}
use Rattle.graph_maps.specs.Parts.{first_type, first_vertex, first_edge, first_half}

-- ---- fronts

-- R compares by more than P, after P
pub record IsFront {K : Type 0} (P R : K → K → Ordering) : Type 0 where
  pub total : IsTotalOrder P
  pub before : (a b : K) → IsLeBy R a b → IsLeBy P a b

not_after : (r s : Ordering) → is_gt (ordering_then r s) ≡ false → is_gt r ≡ false
not_after Less s e = refl
not_after Equal s e = refl
not_after Greater s e = e

under : (r s t : Ordering) → (is_gt s ≡ false → is_gt t ≡ false) → is_gt (ordering_then r s) ≡ false → is_gt (ordering_then r t) ≡ false
under Less s t h e = refl
under Equal s t h e = h e
under Greater s t h e = e

pub front_then : {K : Type 0} (P Q : K → K → Ordering) → IsTotalOrder P → IsFront P (then_cmp P Q)
front_then P Q o = record { total = o; before = λ a b. not_after (P a b) (Q a b) }

pub front_under : {K : Type 0} (O P R : K → K → Ordering) → IsTotalOrder O → IsFront P R → IsFront (then_cmp O P) (then_cmp O R)
front_under O P R o f = record {
  total = then_total o f.total;
  before = λ a b. under (O a b) (R a b) (P a b) (f.before a b);
}

level : (r s : Ordering) → is_gt r ≡ false → r ≡ ordering_reverse s → is_gt s ≡ false → is_eq r ≡ true
level Less Less h e k = cc
level Less Equal h e k = cc
level Less Greater h e k = cc
level Equal s h e k = refl
level Greater s h e k = cc

-- what stands between two keys that tie in front ties with them
pub between : {K : Type 0} (P R : K → K → Ordering) → IsFront P R → (s a b : K) → IsLeBy R s a → IsLeBy R a b → is_eq (P s b) ≡ true → is_eq (P s a) ≡ true
between P R f s a b first second tied =
    let back : P b s ≡ Equal = tied_back f.total s b ((Equal-is (P s b)).0 tied) in
    level (P s a) (P a s) (f.before s a first) (f.total.antisymm s a)
    (ap is_gt (sym (alike_right f.total b s a back)) ∙ f.before a b second)

-- ---- what is not after

pub tied : (r : Ordering) → is_eq r ≡ true → is_gt r ≡ false
tied Less e = refl
tied Equal e = refl
tied Greater e = cc

pub both_up : (r s : Ordering) → is_gt r ≡ false → is_gt s ≡ false → is_gt (ordering_then r s) ≡ false
both_up Less s h k = refl
both_up Equal s h k = k
both_up Greater s h k = h

pub tied_first : (r s : Ordering) → is_eq (ordering_then r s) ≡ true → is_eq r ≡ true
tied_first Less s e = e
tied_first Equal s e = refl
tied_first Greater s e = e

pub tied_second : (r s : Ordering) → is_eq (ordering_then r s) ≡ true → is_eq s ≡ true
tied_second Less s e = cc
tied_second Equal s e = e
tied_second Greater s e = cc

pub empty_first : (name : List ℕ) → is_gt (byte_order [] name) ≡ false
empty_first [] = refl
empty_first (b ∷ name) = refl

pub out_last : (out : Bool) → is_gt (bool_cmp false out) ≡ false
out_last true = refl
out_last false = refl

pub number_tied : (n m : ℕ) → is_eq (nat_cmp n m) ≡ nat_eq m n
number_tied n m = unsigned_tied n m ∙ nat_eq_equiv.symm n m

-- ---- the types of a graph

pub types_first : (n : ℕ) (t : TypeName) → nat_eq t.graph n ≡ true → IsLeBy type_order (first_type n) t
types_first n t e = both_up (nat_cmp n t.graph) (byte_order [] t.name) (tied (nat_cmp n t.graph) (number_tied n t.graph ∙ e)) (empty_first t.name)

by_graph : {K : Type 0} (graph : K → ℕ) (Q : K → K → Ordering) (n : ℕ) (s a b : K) → graph s ≡ n
    → IsLeBy (then_cmp (on graph nat_cmp) Q) s a → IsLeBy (then_cmp (on graph nat_cmp) Q) a b → nat_eq (graph b) n ≡ true → nat_eq (graph a) n ≡ true
by_graph graph Q n s a b is h k e =
    sym (number_tied n (graph a)) ∙ (ap (λ m. is_eq (nat_cmp m (graph a))) (sym is)
    ∙ between (on graph nat_cmp) (then_cmp (on graph nat_cmp) Q) (front_then (on graph nat_cmp) Q (on_total graph nat_cmp_total)) s a b h k
    (ap (λ m. is_eq (nat_cmp m (graph b))) is ∙ (number_tied n (graph b) ∙ e)))

pub types_hang : (n : ℕ) (a b : TypeName) → IsLeBy type_order (first_type n) a → IsLeBy type_order a b → nat_eq b.graph n ≡ true → nat_eq a.graph n ≡ true
types_hang n a b h k e = by_graph (λ t. t.graph) (on (λ t. t.name) byte_order) n (first_type n) a b refl h k e

-- ---- the vertices of a graph, and of a type

pub vertices_first : (n : ℕ) (v : VertexName) → IsKey v.key → nat_eq v.graph n ≡ true → IsLeBy vertex_order (first_vertex (first_type n)) v
vertices_first n v key e =
    both_up (nat_cmp n v.graph) _ (tied (nat_cmp n v.graph) (number_tied n v.graph ∙ e)) (both_up (byte_order [] v.kind) _ (empty_first v.kind) key)

pub vertices_hang : (n : ℕ) (a b : VertexName) → IsLeBy vertex_order (first_vertex (first_type n)) a → IsLeBy vertex_order a b
    → nat_eq b.graph n ≡ true → nat_eq a.graph n ≡ true
vertices_hang n a b h k e =
    by_graph (λ v. v.graph) (then_cmp (on (λ v. v.kind) byte_order) (on (λ v. v.key) value_order)) n (first_vertex (first_type n)) a b refl h k e

pub of_type_first : (t : TypeName) (v : VertexName) → IsKey v.key → is_eq (type_order t (record { graph = v.graph; name = v.kind })) ≡ true
    → IsLeBy vertex_order (first_vertex t) v
of_type_first t v key e =
    let graph = nat_cmp t.graph v.graph in let kind = byte_order t.name v.kind in
    both_up graph _ (tied graph (tied_first graph kind e)) (both_up kind _ (tied kind (tied_second graph kind e)) key)

of_type_front : IsFront (then_cmp (on (λ (v : VertexName). v.graph) nat_cmp) (on (λ (v : VertexName). v.kind) byte_order)) vertex_order
of_type_front =
    front_under (on (λ (v : VertexName). v.graph) nat_cmp) (on (λ (v : VertexName). v.kind) byte_order) _ (on_total (λ v. v.graph) nat_cmp_total)
    (front_then (on (λ (v : VertexName). v.kind) byte_order) (on (λ (v : VertexName). v.key) value_order) (on_total (λ v. v.kind) nat_list_cmp_total))

pub of_type_hang : (t : TypeName) (a b : VertexName) → IsLeBy vertex_order (first_vertex t) a → IsLeBy vertex_order a b
    → is_eq (type_order t (record { graph = b.graph; name = b.kind })) ≡ true → is_eq (type_order t (record { graph = a.graph; name = a.kind })) ≡ true
of_type_hang t a b h k e =
    between (then_cmp (on (λ (v : VertexName). v.graph) nat_cmp) (on (λ (v : VertexName). v.kind) byte_order)) vertex_order of_type_front (first_vertex t) a b h k e

-- ---- the edges of a graph

pub edges_first : (n : ℕ) (e : EdgeName) → IsKey e.from × IsKey e.to → nat_eq e.graph n ≡ true → IsLeBy edge_order (first_edge n) e
edges_first n e keys h =
    both_up (nat_cmp n e.graph) _ (tied (nat_cmp n e.graph) (number_tied n e.graph ∙ h))
    (both_up (byte_order [] e.kind) _ (empty_first e.kind)
    (both_up (byte_order [] e.from_kind) _ (empty_first e.from_kind)
    (both_up (value_order (first_edge n).from e.from) _ keys.0
    (both_up (byte_order [] e.to_kind) _ (empty_first e.to_kind) keys.1))))

behind_graph : EdgeName → EdgeName → Ordering
behind_graph =
    then_cmp (on (λ e. e.kind) byte_order)
    (then_cmp (on (λ e. e.from_kind) byte_order)
    (then_cmp (on (λ e. e.from) value_order)
    (then_cmp (on (λ e. e.to_kind) byte_order) (on (λ e. e.to) value_order))))

pub edges_hang : (n : ℕ) (a b : EdgeName) → IsLeBy edge_order (first_edge n) a → IsLeBy edge_order a b → nat_eq b.graph n ≡ true → nat_eq a.graph n ≡ true
unfolding behind_graph
edges_hang n a b h k e = by_graph (λ e. e.graph) behind_graph n (first_edge n) a b refl h k e

-- ---- the edges at a vertex, and those of a type and a direction

far_first : (out : Bool) (e : EdgeName) (v : VertexName) → IsKey e.from × IsKey e.to → is_eq (nat_cmp v.graph (near out e).graph) ≡ true
    → IsLeBy vertex_order (first_vertex (first_type v.graph)) (far out e)
far_first true e v keys h = both_up (nat_cmp v.graph e.graph) _ (tied (nat_cmp v.graph e.graph) h) (both_up (byte_order [] e.to_kind) _ (empty_first e.to_kind) keys.1)
far_first false e v keys h = both_up (nat_cmp v.graph e.graph) _ (tied (nat_cmp v.graph e.graph) h) (both_up (byte_order [] e.from_kind) _ (empty_first e.from_kind) keys.0)

pub at_first : (v : VertexName) (h : Half) → IsKey h.edge.from × IsKey h.edge.to → is_eq (vertex_order v (near_end h)) ≡ true → IsLeBy half_order (first_half false [] v) h
at_first v h keys e =
    both_up (vertex_order v (near_end h)) _ (tied (vertex_order v (near_end h)) e)
    (both_up (bool_cmp false h.out) _ (out_last h.out)
    (both_up (byte_order [] h.edge.kind) _ (empty_first h.edge.kind)
    (far_first h.out h.edge v keys (tied_first (nat_cmp v.graph (near_end h).graph) _ e))))

at_front : IsFront (on near_end vertex_order) half_order
at_front = front_then (on near_end vertex_order) _ (on_total near_end vertex_total)

pub at_hangs : (v : VertexName) (a b : Half) → IsLeBy half_order (first_half false [] v) a → IsLeBy half_order a b
    → is_eq (vertex_order v (near_end b)) ≡ true → is_eq (vertex_order v (near_end a)) ≡ true
at_hangs v a b h k e = between (on near_end vertex_order) half_order at_front (first_half false [] v) a b h k e

front_first : (s h : Half) → IsLeBy vertex_order (far_end s) (far_end h) → is_eq (front_order s h) ≡ true → IsLeBy half_order s h
front_first s h last e =
    let ends = vertex_order (near_end s) (near_end h) in let out = bool_cmp s.out h.out in let kind = byte_order s.edge.kind h.edge.kind in
    let rest = tied_second ends (ordering_then out kind) e in
    both_up ends _ (tied ends (tied_first ends (ordering_then out kind) e))
    (both_up out _ (tied out (tied_first out kind rest)) (both_up kind _ (tied kind (tied_second out kind rest)) last))

pub toward_first : (out : Bool) (kind : List ℕ) (v : VertexName) (h : Half) → IsKey h.edge.from × IsKey h.edge.to
    → is_eq (front_order (first_half out kind v) h) ≡ true → IsLeBy half_order (first_half out kind v) h
toward_first true kind v h keys e =
    front_first (first_half true kind v) h (far_first h.out h.edge v keys (tied_first (nat_cmp v.graph (near_end h).graph) _ (tied_first (vertex_order v (near_end h)) _ e))) e
toward_first false kind v h keys e =
    front_first (first_half false kind v) h (far_first h.out h.edge v keys (tied_first (nat_cmp v.graph (near_end h).graph) _ (tied_first (vertex_order v (near_end h)) _ e))) e

toward_front : IsFront front_order half_order
toward_front =
    front_under (on near_end vertex_order) _ _ (on_total near_end vertex_total)
    (front_under (on (λ h. h.out) bool_cmp) _ _ (on_total (λ h. h.out) bool_cmp_total)
    (front_then (on (λ h. h.edge.kind) byte_order) (on far_end vertex_order) (on_total (λ h. h.edge.kind) nat_list_cmp_total)))

pub toward_hangs : (s a b : Half) → IsLeBy half_order s a → IsLeBy half_order a b → is_eq (front_order s b) ≡ true → is_eq (front_order s a) ≡ true
toward_hangs s a b h k e = between front_order half_order toward_front s a b h k e
