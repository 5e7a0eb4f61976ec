-- Store keys read back.
use Rattle.std.proofs.Common.{◌≡◌, ℕ, zero, suc, ◌<◌, ◌^◌, Bool, true, false, cond, List, [], ◌∷◌, ◌++◌, length, Option, Some, None, refl, sym, ap, subst, ◌∙◌, arith, nat_eq, nat_le}
use Rattle.std.specs.Prelude.{◌&&◌, IsTrue, option_map}
use Rattle.std.specs.List.{list_all}
use Rattle.std.specs.Int.{w64, to_be_bytes}
use Rattle.std.proofs.lemmas.Bool.{false≢true, and_parts, and_from, or_left, ltb-true, eqb-true, ne_eqb}
use Rattle.std.proofs.lemmas.List.{nil_from_length}
use Rattle.std.proofs.lemmas.Option.{option_and_then_some, same_Some, cond_some, none-some}
use Rattle.a1_base.specs.declared.limits.TheConstants.{GRAPH_NUMBER_LIMIT}
use Rattle.a1_base.specs.Fronts.{IsBytes, Front, number, both, tested, whole, Exact, ExactWhole}
use Rattle.a1_base.proofs.Exact.{bytes_behind, mapped_some, number64_exact, tested_exact, made_exact, both_exact, whole_exact, same_exact}
use Rattle.a1_value.specs.declared.value.Value.{Value}
use Rattle.a1_value.specs.Encoding.{IsKey, key_bytes, key_front}
use Rattle.a1_value.proofs.KeyLemmas.{key_exact}
use Rattle.type_schema.specs.declared.names.GraphName.{GraphName}
use Rattle.type_schema.specs.declared.names.TypeName.{TypeName}
use Rattle.type_schema.specs.declared.names.VertexName.{VertexName}
use Rattle.type_schema.specs.declared.names.EdgeName.{EdgeName}
use Rattle.type_schema.specs.declared.rows.StoreKey.{StoreKey}
use Rattle.type_schema.specs.declared.rows.StoreKey.TheVariants as key
use Rattle.type_schema.specs.Names.{Name, is_letter, is_name_byte, is_name, cut, graph_of, graph_whole}
use Rattle.type_schema.specs.Layout.{name_bytes, row_key}
use Rattle.type_schema.specs.Formed.{is_graph_number, IsStoreKey}
use Rattle.type_schema.specs.Reading.{name_front}
use Rattle.type_schema.proofs.LayoutLemmas.{name_exact}
use Rattle.graph_changes.specs.Reading.{name_whole, graph_number_front, type_front, vertex_front, edge_front, key_of_tag, key_whole}

-- what is made of a value that all of some bytes are
pub whole_takes : {A K : Type 0} (read : List ℕ → Option A) (s : A → List ℕ) (P : A → Type 0) → ExactWhole read s P → (f : A → K) (spelling : K → List ℕ) (Q : K → Type 0) (front : List ℕ)
    → ((a : A) → P a → Q (f a) × (front ++ s a ≡ spelling (f a)))
    → (bytes : List ℕ) (k : K) → IsBytes bytes → option_map f (read bytes) ≡ Some k → Q k × (front ++ bytes ≡ spelling k)
whole_takes read s P exact f spelling Q front is bytes k fits e = mapped_some f (read bytes) k e (λ a found same.
    let one = exact.takes bytes a fits found in
    let two = is a one.0 in
    subst (λ y. Q y × (front ++ bytes ≡ spelling y)) same (two.0, ap (λ z. front ++ z) one.1 ∙ two.1))

-- ---- names

abbrev itself : Name → List ℕ
itself name = name

abbrev Named : Name → Type 0
Named name = IsTrue (is_name name)

name_whole_exact : ExactWhole name_whole itself Named
name_whole_exact = record { takes = takes; again = again } where
  takes : (bytes : List ℕ) (name : Name) → IsBytes bytes → name_whole bytes ≡ Some name → Named name × (bytes ≡ name)
  takes bytes name fits e = let c = cond_some (is_name bytes) bytes name e in (subst Named c.1 c.0, c.1)

  again : (name : Name) → Named name → name_whole name ≡ Some name
  again name h = rw h refl

cut_takes : (mark : ℕ) (bytes : List ℕ) (p : List ℕ × List ℕ) → cut mark bytes ≡ Some p → bytes ≡ p.0 ++ mark ∷ p.1
unfolding cut
cut_takes mark [] p e = absurd (none-some p e)
cut_takes mark (b ∷ bytes) p e = by (λ q found. cut_takes mark bytes q found) (nat_eq b mark) refl e where
  by : ((q : List ℕ × List ℕ) → cut mark bytes ≡ Some q → bytes ≡ q.0 ++ mark ∷ q.1) → (t : Bool) → nat_eq b mark ≡ t → cond t (Some ([], bytes)) (option_map (λ q. (b ∷ q.0, q.1)) (cut mark bytes)) ≡ Some p → b ∷ bytes ≡ p.0 ++ mark ∷ p.1
  by rest true t e = subst (λ (q : List ℕ × List ℕ). b ∷ bytes ≡ q.0 ++ mark ∷ q.1) (same_Some ([], bytes) p e) (ap (λ x. x ∷ bytes) (eqb-true b mark t))
  by rest false t e = mapped_some (λ (q : List ℕ × List ℕ). (b ∷ q.0, q.1)) (cut mark bytes) p e (λ q found same.
      subst (λ (r : List ℕ × List ℕ). b ∷ bytes ≡ r.0 ++ mark ∷ r.1) same (ap (λ z. b ∷ z) (rest q found)))

-- no byte of a name is a slash
not_slash : (b : ℕ) → is_name_byte b ≡ true → nat_eq b 47 ≡ false
not_slash b h = ne_eqb b 47 (λ e. false≢true (subst (λ (x : ℕ). is_name_byte x ≡ true) e h))

cut_again : (front rest : List ℕ) → list_all is_name_byte front ≡ true → cut 47 (front ++ 47 ∷ rest) ≡ Some (front, rest)
unfolding cut
cut_again [] rest h = refl
cut_again (b ∷ front) rest h = let two = and_parts (is_name_byte b) (list_all is_name_byte front) h in rw (not_slash b two.0, cut_again front rest two.1) refl

name_letters : (name : Name) → Named name → list_all is_name_byte name ≡ true
unfolding is_name
name_letters [] h = refl
name_letters (b ∷ name) h =
    let first = and_parts (is_letter b) _ h in
    and_from (is_name_byte b) (list_all is_name_byte name) (or_left (is_letter b) _ first.0) (and_parts _ _ first.1).0

abbrev graph_text : GraphName → List ℕ
graph_text g = g.tenant ++ 47 ∷ g.name

abbrev GraphNamed : GraphName → Type 0
GraphNamed g = Named g.tenant × Named g.name

graph_whole_exact : ExactWhole graph_whole graph_text GraphNamed
unfolding graph_whole
graph_whole_exact = record { takes = takes; again = again } where
  takes : (bytes : List ℕ) (g : GraphName) → IsBytes bytes → graph_whole bytes ≡ Some g → GraphNamed g × (bytes ≡ graph_text g)
  takes bytes g fits e = option_and_then_some graph_of (cut 47 bytes) g e (λ p found made.
      let c = cond_some (is_name p.0 && is_name p.1) (record { tenant = p.0; name = p.1 }) g made in
      subst (λ (h : GraphName). GraphNamed h × (bytes ≡ graph_text h)) c.1 (and_parts (is_name p.0) (is_name p.1) c.0, cut_takes 47 bytes p found))

  again : (g : GraphName) → GraphNamed g → graph_whole (graph_text g) ≡ Some g
  again g h = rw (cut_again g.tenant g.name (name_letters g.tenant h.0), h.0, h.1) refl

-- ---- types, vertices and edges

below_64 : (n : ℕ) → is_graph_number n ≡ true → n < 2 ^ 64
below_64 n h = let lt = ltb-true n GRAPH_NUMBER_LIMIT (and_parts (nat_le 1 n) _ h).1 in omega (arith, lt)

abbrev Numbered : ℕ → Type 0
Numbered n = IsTrue (is_graph_number n)

pub graph_number_exact : Exact graph_number_front (to_be_bytes w64) Numbered
unfolding graph_number_front
graph_number_exact = same_exact (tested is_graph_number (number w64)) (to_be_bytes w64) (λ n. (n < 2 ^ 64) × (is_graph_number n ≡ true)) Numbered
    (tested_exact (number w64) (to_be_bytes w64) (λ n. n < 2 ^ 64) number64_exact is_graph_number) (λ n h. h.1) (λ n h. (below_64 n h, h))

abbrev type_tail : TypeName → List ℕ
type_tail t = to_be_bytes w64 t.graph ++ name_bytes t.name

type_exact : Exact type_front type_tail (λ t. Numbered t.graph × Named t.name)
unfolding type_front
type_exact = made_exact (both graph_number_front name_front) (λ x. to_be_bytes w64 x.0 ++ name_bytes x.1) (λ x. Numbered x.0 × Named x.1)
    (both_exact graph_number_front (to_be_bytes w64) Numbered graph_number_exact name_front name_bytes Named name_exact)
    (λ x. record { graph = x.0; name = x.1 }) (λ t. (t.graph, t.name)) (λ x h. refl) (λ t h. refl)

-- a name and what stands behind it
behind_name : {B : Type 0} (q : Front B) (t : B → List ℕ) (Q : B → Type 0) → Exact q t Q → Exact (both name_front q) (λ x. name_bytes x.0 ++ t x.1) (λ x. Named x.0 × Q x.1)
behind_name q t Q exact = both_exact name_front name_bytes Named name_exact q t Q exact

abbrev vertex_tail : VertexName → List ℕ
vertex_tail v = to_be_bytes w64 v.graph ++ (name_bytes v.kind ++ key_bytes v.key)

vertex_exact : Exact vertex_front vertex_tail (λ v. Numbered v.graph × (Named v.kind × IsKey v.key))
unfolding vertex_front
vertex_exact = made_exact (both graph_number_front (both name_front key_front)) (λ x. to_be_bytes w64 x.0 ++ (name_bytes x.1.0 ++ key_bytes x.1.1)) (λ x. Numbered x.0 × (Named x.1.0 × IsKey x.1.1))
    (both_exact graph_number_front (to_be_bytes w64) Numbered graph_number_exact (both name_front key_front) (λ x. name_bytes x.0 ++ key_bytes x.1) (λ x. Named x.0 × IsKey x.1)
    (behind_name key_front key_bytes IsKey key_exact))
    (λ x. record { graph = x.0; kind = x.1.0; key = x.1.1 }) (λ v. (v.graph, (v.kind, v.key))) (λ x h. refl) (λ v h. refl)

abbrev edge_tail : EdgeName → List ℕ
edge_tail e = to_be_bytes w64 e.graph ++ (name_bytes e.kind ++ (name_bytes e.from_kind ++ (key_bytes e.from ++ (name_bytes e.to_kind ++ key_bytes e.to))))

abbrev EdgeNamed : EdgeName → Type 0
EdgeNamed e = Numbered e.graph × (Named e.kind × (Named e.from_kind × (IsKey e.from × (Named e.to_kind × IsKey e.to))))

-- the parts of an edge behind its graph
abbrev Ends : Type 0
Ends = Name × (Name × (Value × (Name × Value)))

abbrev ends_tail : Ends → List ℕ
ends_tail x = name_bytes x.0 ++ (name_bytes x.1.0 ++ (key_bytes x.1.1.0 ++ (name_bytes x.1.1.1.0 ++ key_bytes x.1.1.1.1)))

abbrev EndsNamed : Ends → Type 0
EndsNamed x = Named x.0 × (Named x.1.0 × (IsKey x.1.1.0 × (Named x.1.1.1.0 × IsKey x.1.1.1.1)))

abbrev ends_front : Front Ends
ends_front = both name_front (both name_front (both key_front (both name_front key_front)))

ends_exact : Exact ends_front ends_tail EndsNamed
ends_exact =
    behind_name (both name_front (both key_front (both name_front key_front))) (λ x. name_bytes x.0 ++ (key_bytes x.1.0 ++ (name_bytes x.1.1.0 ++ key_bytes x.1.1.1))) (λ x. Named x.0 × (IsKey x.1.0 × (Named x.1.1.0 × IsKey x.1.1.1)))
    (behind_name (both key_front (both name_front key_front)) (λ x. key_bytes x.0 ++ (name_bytes x.1.0 ++ key_bytes x.1.1)) (λ x. IsKey x.0 × (Named x.1.0 × IsKey x.1.1))
    (both_exact key_front key_bytes IsKey key_exact (both name_front key_front) (λ x. name_bytes x.0 ++ key_bytes x.1) (λ x. Named x.0 × IsKey x.1)
    (behind_name key_front key_bytes IsKey key_exact)))

abbrev edge_of : ℕ × Ends → EdgeName
edge_of x = record { graph = x.0; kind = x.1.0; from_kind = x.1.1.0; from = x.1.1.1.0; to_kind = x.1.1.1.1.0; to = x.1.1.1.1.1 }

abbrev edge_parts : EdgeName → ℕ × Ends
edge_parts e = (e.graph, (e.kind, (e.from_kind, (e.from, (e.to_kind, e.to)))))

edge_exact : Exact edge_front edge_tail EdgeNamed
unfolding edge_front
edge_exact = made_exact (both graph_number_front ends_front) (λ x. to_be_bytes w64 x.0 ++ ends_tail x.1) (λ x. Numbered x.0 × EndsNamed x.1)
    (both_exact graph_number_front (to_be_bytes w64) Numbered graph_number_exact ends_front ends_tail EndsNamed ends_exact)
    edge_of edge_parts (λ x h. refl) (λ e h. refl)

-- ---- keys

no_tag : (tag : ℕ) (bytes : List ℕ) → 5 < tag → key_of_tag tag bytes ≡ None
unfolding key_of_tag
no_tag tag bytes h = rw (ne_eqb tag 0 (omega arith), ne_eqb tag 1 (omega arith), ne_eqb tag 2 (omega arith), ne_eqb tag 3 (omega arith), ne_eqb tag 4 (omega arith), ne_eqb tag 5 (omega arith)) refl

key_takes : (bytes : List ℕ) (k : StoreKey) → IsBytes bytes → key_whole bytes ≡ Some k → IsStoreKey k × (bytes ≡ row_key k)
unfolding key_whole key_of_tag
key_takes [] k fits e = absurd (none-some k e)
key_takes (zero ∷ bytes) k fits e =
    let c = cond_some (nat_eq (length bytes) 0) key.Counter k e in
    subst (λ (y : StoreKey). IsStoreKey y × (0 ∷ bytes ≡ row_key y)) c.1 (tt, ap (λ z. 0 ∷ z) (nil_from_length bytes (eqb-true _ _ c.0)))
key_takes (suc zero ∷ bytes) k fits e =
    whole_takes name_whole itself Named name_whole_exact key.Tenant row_key IsStoreKey (1 ∷ []) (λ t h. (h, refl)) bytes k (bytes_behind (1 ∷ []) bytes fits) e
key_takes (suc (suc zero) ∷ bytes) k fits e =
    whole_takes graph_whole graph_text GraphNamed graph_whole_exact key.Graph row_key IsStoreKey (2 ∷ []) (λ g h. (h, refl)) bytes k (bytes_behind (2 ∷ []) bytes fits) e
key_takes (suc (suc (suc zero)) ∷ bytes) k fits e =
    whole_takes (whole type_front) type_tail (λ t. Numbered t.graph × Named t.name) (whole_exact type_front type_tail (λ t. Numbered t.graph × Named t.name) type_exact)
    key.TypeKey row_key IsStoreKey (3 ∷ []) (λ t h. (h, refl)) bytes k (bytes_behind (3 ∷ []) bytes fits) e
key_takes (suc (suc (suc (suc zero))) ∷ bytes) k fits e =
    whole_takes (whole vertex_front) vertex_tail (λ v. Numbered v.graph × (Named v.kind × IsKey v.key)) (whole_exact vertex_front vertex_tail (λ v. Numbered v.graph × (Named v.kind × IsKey v.key)) vertex_exact)
    key.Vertex row_key IsStoreKey (4 ∷ []) (λ v h. (h, refl)) bytes k (bytes_behind (4 ∷ []) bytes fits) e
key_takes (suc (suc (suc (suc (suc zero)))) ∷ bytes) k fits e =
    whole_takes (whole edge_front) edge_tail EdgeNamed (whole_exact edge_front edge_tail EdgeNamed edge_exact)
    key.Edge row_key IsStoreKey (5 ∷ []) (λ x h. ((h.0, h.1.0, (h.1.1.0, h.1.1.1.0), h.1.1.1.1), refl)) bytes k (bytes_behind (5 ∷ []) bytes fits) e
key_takes (suc (suc (suc (suc (suc (suc n))))) ∷ bytes) k fits e = absurd (none-some k (sym (no_tag (suc (suc (suc (suc (suc (suc n)))))) bytes (omega arith)) ∙ e))

key_again : (k : StoreKey) → IsStoreKey k → key_whole (row_key k) ≡ Some k
unfolding key_whole key_of_tag
key_again key.Counter h = refl
key_again (key.Tenant t) h = ap (option_map key.Tenant) (name_whole_exact.again t h)
key_again (key.Graph g) h = ap (option_map key.Graph) (graph_whole_exact.again g h)
key_again (key.TypeKey t) h = ap (option_map key.TypeKey) ((whole_exact type_front type_tail (λ t. Numbered t.graph × Named t.name) type_exact).again t h)
key_again (key.Vertex v) h = ap (option_map key.Vertex) ((whole_exact vertex_front vertex_tail (λ v. Numbered v.graph × (Named v.kind × IsKey v.key)) vertex_exact).again v h)
key_again (key.Edge x) h = ap (option_map key.Edge) ((whole_exact edge_front edge_tail EdgeNamed edge_exact).again x (h.0, (h.1, (h.2.0, (h.2.1, h.3)))))

pub key_exact_whole : ExactWhole key_whole row_key IsStoreKey
key_exact_whole = record { takes = key_takes; again = key_again }
