-- Edges that are found from the vertices at their ends.
use Rattle.std.proofs.Common.{◌≡◌, ℕ, List, [], ◌∷◌, Bool, true, false, cond, not, ◌&&◌, ◌||◌, filter, map, Option, Some, None, is_some, refl, sym, ap, ◌∙◌, subst, true≢false, Ordering, Less, Equal, Greater, is_eq}
use Rattle.std.specs.Option.{option_map}
use Rattle.std.specs.List.{list_any, filter_map, cons_option}
use Rattle.std.specs.List.Sorted.{IsStrictlySortedBy}
use Rattle.std.specs.Ordering.{ordering_then, nat_cmp, bool_cmp}
use Rattle.std.specs.Cmp.{IsTotalOrder, both_ways, Equal-is, eq_by_cmp_equiv}
use Rattle.std.proofs.lemmas.Map.Lookups.{CmpEqualImpliesEq, btree_set_from_contains, exact_unsigned}
use Rattle.a1_base.specs.Maps.{at, has, with_entry, without, IsOrdered}
use Rattle.a1_value.specs.Order.{byte_order}
use Rattle.type_schema.specs.declared.names.EdgeName.{EdgeName}
use Rattle.type_schema.specs.declared.names.TypeName.{TypeName}
use Rattle.type_schema.specs.declared.names.VertexName.{VertexName}
use Rattle.type_schema.specs.Graph.{type_order, vertex_order, edge_order, source, target, near}
use Rattle.type_schema.specs.Schemas.{Record}
use Rattle.graph_maps.specs.declared.half.Half.{Half}
use Rattle.graph_maps.specs.Halves.{near_end, front_order, half_order, edge_between, touches, AreSeen, seen_edges}
use Rattle.graph_maps.specs.KeyOrders.{half_total, exact_halves, edge_total, exact_out}
use Rattle.graph_maps.specs.PartLaws.{tied_first, tied_second}
use Rattle.graph_maps.specs.Parts.{first_type, first_vertex, first_half}
use Rattle.graph_maps.specs.ExactKeys.{exact_edges}
use Rattle.graph_maps.proofs.AnyLemmas.{Found, found, passed, both_true, and_true, and_assoc, or_first, or_second, any_map, any_filter, none_passes}
use Rattle.graph_maps.proofs.MapLemmas.{ordered_filter, itself, one_key, at_with, at_filter}

-- the value, where there is one, passes the test
abbrev passes : {X : Type 0} → (X → Bool) → Option X → Bool
passes t None = false
passes t (Some x) = t x

any_made : {X Y : Type 0} (t : Y → Bool) (f : X → Option Y) (p : X → Bool) (xs : List X) → list_any t (filter_map f (filter p xs)) ≡ list_any (λ x. p x && passes t (f x)) xs
any_made t f p [] = refl
any_made {Y = Y} t f p (x ∷ xs) = by (any_made t f p xs) (p x) (f x) refl where
  by : list_any t (filter_map f (filter p xs)) ≡ list_any (λ x. p x && passes t (f x)) xs → (b : Bool) (w : Option Y) → f x ≡ w
      → list_any t (filter_map f (cond b (x ∷ filter p xs) (filter p xs))) ≡ ((b && passes t (f x)) || list_any (λ x. p x && passes t (f x)) xs)
  by ih false w e = ih
  by ih true None e = ap (λ w. list_any t (cons_option w (filter_map f (filter p xs)))) e ∙ (ih ∙ ap (λ w. passes t w || list_any (λ x. p x && passes t (f x)) xs) (sym e))
  by ih true (Some y) e =
      ap (λ w. list_any t (cons_option w (filter_map f (filter p xs)))) e ∙ (ap (λ z. t y || z) ih ∙ ap (λ w. passes t w || list_any (λ x. p x && passes t (f x)) xs) (sym e))

module _ (edges : List (EdgeName × Record)) (halves : List (Half × Unit {0})) (p : Half → Bool) (q : EdgeName → Bool) where
  abbrev edge_at : Half × Unit {0} → Option (EdgeName × Record)
  edge_at h = option_map (λ x. (h.0.edge, x)) (at edge_order h.0.edge edges)

  record IsThere (t : EdgeName × Record → Bool) (e : EdgeName) : Type 0 where
    value : Record
    there : at edge_order e edges ≡ Some value
    yes : t (e, value) ≡ true

  stands : (w : Option (Unit {0})) → is_some w ≡ true → w ≡ Some tt
  stands None h = absurd (true≢false (sym h))
  stands (Some u) h = refl

  there_is : (t : EdgeName × Record → Bool) (e : EdgeName) (w : Option Record) → at edge_order e edges ≡ w → passes t (option_map (λ x. (e, x)) w) ≡ true → IsThere t e
  there_is t e None is h = absurd (true≢false (sym h))
  there_is t e (Some x) is h = record { value = x; there = is; yes = h }

  seen : IsOrdered edge_order edges → IsOrdered half_order halves → AreSeen edges halves
      → ((h : Half) → p h ≡ true → q h.edge ≡ true) → ((e : EdgeName) → q e ≡ true → (out : Bool) × (p (record { out = out; edge = e }) ≡ true))
      → (t : EdgeName × Record → Bool) → list_any t (seen_edges edges (filter (λ h. p h.0) halves)) ≡ list_any (λ e. q e.0 && t e) edges
  seen ordered rising both to from t = any_made t edge_at (λ h. p h.0) halves ∙ both_ways _ _ there back where
    there : list_any (λ h. p h.0 && passes t (edge_at h)) halves ≡ true → list_any (λ e. q e.0 && t e) edges ≡ true
    there any =
        let f = found half_order half_total exact_halves (λ h. p h.0 && passes t (edge_at h)) halves rising any in
        let two = both_true (p f.key) (passes t (edge_at (f.key, f.value))) f.passes in
        let is = there_is t f.key.edge (at edge_order f.key.edge edges) refl two.1 in
        passed edge_order edge_total exact_edges (λ e. q e.0 && t e) f.key.edge is.value edges is.there
        (and_true (q f.key.edge) (t (f.key.edge, is.value)) (to f.key two.0) is.yes)

    back : list_any (λ e. q e.0 && t e) edges ≡ true → list_any (λ h. p h.0 && passes t (edge_at h)) halves ≡ true
    back any =
        let f = found edge_order edge_total exact_edges (λ e. q e.0 && t e) edges ordered any in
        let two = both_true (q f.key) (t (f.key, f.value)) f.passes in
        let side = from f.key two.0 in
        let half : Half = record { out = side.0; edge = f.key } in
        passed half_order half_total exact_halves (λ h. p h.0 && passes t (edge_at h)) half tt halves
        (stands (at half_order half halves) (both side.0 f.key (ap is_some f.there)))
        (and_true (p half) (passes t (edge_at (half, tt))) side.1 (ap (λ w. passes t (option_map (λ x. (f.key, x)) w)) f.there ∙ two.1))

-- ---- edges that come and go

module _ {K X : Type 0} (R : K → K → Ordering) (o : IsTotalOrder R) (exact : CmpEqualImpliesEq R) where
  some_either : (b : Bool) (x : X) (w : Option X) → is_some (cond b (Some x) w) ≡ (b || is_some w)
  some_either true x w = refl
  some_either false x w = refl

  pub has_with : (q k : K) (x : X) (es : List (K × X)) → has R q (with_entry R k x es) ≡ (is_eq (R q k) || has R q es)
  has_with q k x es = ap is_some (at_with R o exact q k x es) ∙ some_either (is_eq (R q k)) x (at R q es)

  pub has_new : (k : K) (x : X) (es : List (K × X)) → has R k (with_entry R k x es) ≡ true
  has_new k x es = has_with k k x es ∙ or_first (is_eq (R k k)) (has R k es) (itself R o k)

  pub has_still : (q k : K) (x : X) (es : List (K × X)) → has R q es ≡ true → has R q (with_entry R k x es) ≡ true
  has_still q k x es h = has_with q k x es ∙ or_second (is_eq (R q k)) (has R q es) h

  pub has_less : (q k : K) (es : List (K × X)) → is_eq (R q k) ≡ false → has R q (without R k es) ≡ has R q es
  has_less q k es apart =
      ap is_some (at_filter R o exact (λ z. not (is_eq (R z k))) q es ∙ ap (λ b. cond (not b) (at R q es) None) apart)

  -- what is left is not what was taken out
  pub left : (q k : K) (es : List (K × X)) → has R q (without R k es) ≡ true → (is_eq (R q k) ≡ false) × (has R q es ≡ true)
  left q k es h = by (is_eq (R q k)) refl (sym (ap is_some (at_filter R o exact (λ z. not (is_eq (R z k))) q es)) ∙ h) where
    by : (b : Bool) → is_eq (R q k) ≡ b → is_some (cond (not b) (at R q es) None) ≡ true → (is_eq (R q k) ≡ false) × (has R q es ≡ true)
    by true e h = absurd (true≢false (sym h))
    by false e h = (e, h)

pub other_half : (h k : Half) → is_eq (edge_order h.edge k.edge) ≡ false → is_eq (half_order h k) ≡ false
other_half h k apart = by (is_eq (half_order h k)) refl where
  by : (b : Bool) → is_eq (half_order h k) ≡ b → b ≡ false
  by true e =
      absurd (true≢false (sym (ap (λ z. is_eq (edge_order h.edge z)) (sym (ap (λ z. z.edge) (one_key half_order half_total exact_halves h k e))) ∙ itself edge_order edge_total h.edge) ∙ apart))
  by false e = refl

pub seen_more : (edges : List (EdgeName × Record)) (old new : List (Half × Unit {0})) → AreSeen edges old → ((h : Half) → has half_order h old ≡ true → has half_order h new ≡ true) → AreSeen edges new
seen_more edges old new both still out e there = still (record { out = out; edge = e }) (both out e there)

pub seen_put : (e : EdgeName) (x : Record) (edges : List (EdgeName × Record)) (old new : List (Half × Unit {0})) → AreSeen edges old
    → ((h : Half) → has half_order h old ≡ true → has half_order h new ≡ true) → ((out : Bool) → has half_order (record { out = out; edge = e }) new ≡ true)
    → AreSeen (with_entry edge_order e x edges) new
seen_put e x edges old new both still mine out q there = by (is_eq (edge_order q e)) refl (sym (has_with edge_order edge_total exact_edges q e x edges) ∙ there) where
  by : (b : Bool) → is_eq (edge_order q e) ≡ b → (b || has edge_order q edges) ≡ true → has half_order (record { out = out; edge = q }) new ≡ true
  by true h any = ap (λ z. has half_order (record { out = out; edge = z }) new) (one_key edge_order edge_total exact_edges q e h) ∙ mine out
  by false h any = still (record { out = out; edge = q }) (both out q any)

pub seen_take : (e : EdgeName) (edges : List (EdgeName × Record)) (old new : List (Half × Unit {0})) → AreSeen edges old
    → ((h : Half) → is_eq (edge_order h.edge e) ≡ false → has half_order h old ≡ true → has half_order h new ≡ true) → AreSeen (without edge_order e edges) new
seen_take e edges old new both still out q there =
    let two = left edge_order edge_total exact_edges q e edges there in
    still (record { out = out; edge = q }) two.0 (both out q two.1)

-- ---- the edges at a vertex

sees : (v : VertexName) (out : Bool) (e : EdgeName) → is_eq (vertex_order v (near out e)) ≡ true → touches v e ≡ true
sees v true e h = or_first (is_eq (vertex_order v (source e))) (is_eq (vertex_order v (target e))) h
sees v false e h = or_second (is_eq (vertex_order v (source e))) (is_eq (vertex_order v (target e))) h

seen_by : (v : VertexName) (e : EdgeName) → touches v e ≡ true → (out : Bool) × (is_eq (vertex_order v (near out e)) ≡ true)
seen_by v e h = by (is_eq (vertex_order v (source e))) refl h where
  by : (b : Bool) → is_eq (vertex_order v (source e)) ≡ b → (b || is_eq (vertex_order v (target e))) ≡ true → (out : Bool) × (is_eq (vertex_order v (near out e)) ≡ true)
  by true g h = (true, g)
  by false g h = (false, h)

-- names in order that are those of the edges that the vertex sees
pub names_at : (v : VertexName) (edges : List (EdgeName × Record)) (halves : List (Half × Unit {0})) (names : List EdgeName)
    → IsOrdered edge_order edges → IsOrdered half_order halves → AreSeen edges halves → IsStrictlySortedBy edge_order names
    → ((e : EdgeName) → list_any (λ k. is_eq (edge_order e k)) names
    ≡ list_any (λ x. is_eq (edge_order e x.0)) (seen_edges edges (filter (λ h. is_eq (vertex_order v (near_end h.0))) halves)))
    → names ≡ map (λ e. e.0) (filter (λ e. touches v e.0) edges)
names_at v edges halves names ordered rising both strict same =
    btree_set_from_contains edge_total (record { keys = names }) (record { keys = map (λ e. e.0) (filter (λ e. touches v e.0) edges) }) strict
    (ordered_filter edge_order edge_total exact_edges (λ e. touches v e.0) edges ordered)
    (λ e. same e
    ∙ (seen edges halves (λ h. is_eq (vertex_order v (near_end h))) (touches v) ordered rising both (λ h. sees v h.out h.edge) (seen_by v) (λ x. is_eq (edge_order e x.0))
    ∙ sym (any_map (λ k. is_eq (edge_order e k)) (λ x. x.0) (filter (λ e. touches v e.0) edges)
    ∙ any_filter (λ x. is_eq (edge_order e x.0)) (λ x. touches v x.0) edges)))
    exact_edges

-- ---- the edges of a type that begin or end at a vertex

one_graph : (out : Bool) (e : EdgeName) → (near out e).graph ≡ e.graph
one_graph true e = refl
one_graph false e = refl

near_between : (out : Bool) (kind : List ℕ) (v w : VertexName) → near out (edge_between out kind v w) ≡ v
near_between true kind v w = refl
near_between false kind v w = refl

kind_between : (out : Bool) (kind : List ℕ) (v w : VertexName) → (edge_between out kind v w).kind ≡ kind
kind_between true kind v w = refl
kind_between false kind v w = refl

out_itself : (out : Bool) → is_eq (bool_cmp out out) ≡ true
out_itself true = refl
out_itself false = refl

both_tied : (r s : Ordering) → is_eq r ≡ true → is_eq s ≡ true → is_eq (ordering_then r s) ≡ true
both_tied Less s h k = h
both_tied Equal s h k = k
both_tied Greater s h k = h

module _ (out : Bool) (kind : TypeName) (v : VertexName) where
  leads : EdgeName → Bool
  leads e = is_eq (vertex_order v (near out e)) && is_eq (type_order kind (record { graph = e.graph; name = e.kind }))

  start : Half
  start = first_half out kind.name v

  near_is : near_end start ≡ v
  unfolding start
  near_is = near_between out kind.name v (first_vertex (first_type v.graph))

  kind_is : start.edge.kind ≡ kind.name
  unfolding start
  kind_is = kind_between out kind.name v (first_vertex (first_type v.graph))

  out_is : start.out ≡ out
  unfolding start
  out_is = refl

  to_leads : kind.graph ≡ v.graph → (h : Half) → is_eq (front_order start h) ≡ true → leads h.edge ≡ true
  unfolding leads
  to_leads same h e =
      let ends = vertex_order (near_end start) (near_end h) in let side = bool_cmp start.out h.out in let name = byte_order start.edge.kind h.edge.kind in
      let rest : is_eq (ordering_then side name) ≡ true = tied_second ends (ordering_then side name) e in
      let turned : out ≡ h.out = sym out_is ∙ exact_out start.out h.out ((Equal-is side).0 (tied_first side name rest)) in
      let here : is_eq (vertex_order v (near out h.edge)) ≡ true =
      (λ i. is_eq (vertex_order (sym near_is i) (near (turned i) h.edge))) ∙ tied_first ends (ordering_then side name) e in
      let graph : is_eq (nat_cmp kind.graph h.edge.graph) ≡ true =
      (λ i. is_eq (nat_cmp (same i) (sym (one_graph out h.edge) i))) ∙ tied_first (nat_cmp v.graph (near out h.edge).graph) _ here in
      and_true _ _ here (both_tied (nat_cmp kind.graph h.edge.graph) _ graph (ap (λ n. is_eq (byte_order n h.edge.kind)) (sym kind_is) ∙ tied_second side name rest))

  from_leads : (e : EdgeName) → leads e ≡ true → is_eq (front_order start (record { out = out; edge = e })) ≡ true
  unfolding leads
  from_leads e h =
      let two = both_true (is_eq (vertex_order v (near out e))) (is_eq (type_order kind (record { graph = e.graph; name = e.kind }))) h in
      both_tied (vertex_order (near_end start) (near out e)) _ (ap (λ z. is_eq (vertex_order z (near out e))) near_is ∙ two.0)
      (both_tied (bool_cmp start.out out) _ (ap (λ b. is_eq (bool_cmp b out)) out_is ∙ out_itself out)
      (ap (λ n. is_eq (byte_order n e.kind)) kind_is ∙ tied_second (nat_cmp kind.graph e.graph) (byte_order kind.name e.kind) two.1))

  pub edges_leading : (edges : List (EdgeName × Record)) (halves : List (Half × Unit {0})) → IsOrdered edge_order edges → IsOrdered half_order halves → AreSeen edges halves
      → kind.graph ≡ v.graph → (t : EdgeName × Record → Bool)
      → list_any t (seen_edges edges (filter (λ h. is_eq (front_order (first_half out kind.name v) h.0)) halves))
      ≡ list_any (λ e. is_eq (vertex_order v (near out e.0)) && (is_eq (type_order kind (record { graph = e.0.graph; name = e.0.kind })) && t e)) edges
  unfolding leads start
  edges_leading edges halves ordered rising both same t =
      seen edges halves (λ h. is_eq (front_order start h)) leads ordered rising both (to_leads same) (λ e h. (out, from_leads e h)) t
      ∙ ap (λ f. list_any f edges)
      (λ i e. and_assoc (is_eq (vertex_order v (near out e.0))) (is_eq (type_order kind (record { graph = e.0.graph; name = e.0.kind }))) (t e) i)

  -- an edge leads nowhere in another graph
  pub none_leads : (edges : List (EdgeName × Record)) → (kind.graph ≡ v.graph → ⊥) → (t : EdgeName × Record → Bool)
      → list_any (λ e. is_eq (vertex_order v (near out e.0)) && (is_eq (type_order kind (record { graph = e.0.graph; name = e.0.kind })) && t e)) edges ≡ false
  none_leads edges apart t = none_passes _ edges (λ e h.
      let here = both_true (is_eq (vertex_order v (near out e.0))) _ h in
      let this = both_true (is_eq (type_order kind (record { graph = e.0.graph; name = e.0.kind }))) (t e) here.1 in
      let there : v.graph ≡ (near out e.0).graph = exact_unsigned v.graph (near out e.0).graph ((Equal-is (nat_cmp v.graph (near out e.0).graph)).0 (tied_first (nat_cmp v.graph (near out e.0).graph) _ here.0)) in
      let graph : kind.graph ≡ e.0.graph = exact_unsigned kind.graph e.0.graph ((Equal-is (nat_cmp kind.graph e.0.graph)).0 (tied_first (nat_cmp kind.graph e.0.graph) _ this.0)) in
      apart (graph ∙ sym (there ∙ one_graph out e.0)))

-- ---- names that are gathered

regroup : (this so_far later : Bool) → (cond this true so_far || later) ≡ (so_far || (this || later))
regroup true true later = refl
regroup true false later = refl
regroup false so_far later = refl

-- one name more, of the first row that is left
pub named_more : {K A X : Type 0} (R : K → K → Ordering) → IsTotalOrder R → (row : A → K × X) (e k : K) (old new : Bool) (this : A) (left rest : List A) (w : Bool)
    → new ≡ cond (is_eq (R k e)) true old → k ≡ (row this).0 → left ≡ this ∷ rest → (old || list_any (λ x. is_eq (R e x.0)) (map row left)) ≡ w
    → (new || list_any (λ x. is_eq (R e x.0)) (map row rest)) ≡ w
named_more R o row e k old new this left rest w put name is so_far =
    ap (λ b. b || list_any (λ x. is_eq (R e x.0)) (map row rest)) put
    ∙ (regroup (is_eq (R k e)) old (list_any (λ x. is_eq (R e x.0)) (map row rest))
    ∙ (ap (λ b. old || (b || list_any (λ x. is_eq (R e x.0)) (map row rest))) ((eq_by_cmp_equiv o).symm k e ∙ ap (λ z. is_eq (R e z)) name)
    ∙ (ap (λ l. old || list_any (λ x. is_eq (R e x.0)) (map row l)) (sym is) ∙ so_far)))
