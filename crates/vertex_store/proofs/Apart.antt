-- An object tells its kind, so a header or a record lies on no place of a list or a tree.
use Rattle.std.proofs.Common.{◌≡◌, ◌⊎◌, inl, inr, ℕ, zero, suc, ◌%◌, Bool, true, false, List, [], ◌∷◌, Some, refl, sym, ap, subst, ◌∙◌, eqb, eq-eqb}
use Rattle.std.proofs.lemmas.Option.{same_Some}
use Rattle.std.specs.Prelude.{◌<◌, map}
use Rattle.std.specs.List.{AllByRecursion, flat_map}
use Rattle.a1_base.specs.Lists.{IsAmong}
use Rattle.a1_base.specs.declared.place.Addr.{Addr}
use Rattle.object_view.specs.Agreement.{State}
use Rattle.object_view.specs.Layout.{Entry, addr_of, word_of, node_bytes}
use Rattle.object_view.specs.Trees.{Item, spell, homes, Stands, IsTree, is_on}
use Rattle.object_view.proofs.Standing.{in_or}
use Rattle.type_schema.specs.declared.objects.Half.{Half}
use Rattle.type_schema.specs.declared.objects.Header.{Header}
use Rattle.type_schema.specs.Objects.{half_entry, header_bytes, header_of, body_bytes, body_of}
use Rattle.type_schema.proofs.ObjectLemmas.{header_exact, body_exact}
use Rattle.type_schema.specs.Schemas.{Record}
use Rattle.type_schema.specs.Structures.{IsVertex, IsBody, IsList}
use Rattle.vertex_store.specs.Changes.{IsRecordKind}

abbrev HasKind : State → ℕ → Addr → Type 0
HasKind s kind a = (rest : List ℕ) × (s a ≡ Some (kind ∷ rest))

one_kind : (s : State) (a : Addr) (k j : ℕ) → HasKind s k a → HasKind s j a → k ≡ j
one_kind s a k j left right = let e = left.1 in let f = right.1 in cc

-- ---- the kinds of what stands on places

all_nodes : {A : Type 0} (s : State) (P : A → Type 0) (f : A → List Addr) (xs : List A) → AllByRecursion P xs
    → ((x : A) → P x → (a : Addr) → IsAmong a (f x) → HasKind s 3 a) → (a : Addr) → IsAmong a (flat_map f xs)
    → HasKind s 3 a
all_nodes s P f [] p each a i = absurd i
all_nodes s P f (x ∷ xs) p each a i = elim (in_or a (f x) (flat_map f xs) i) [
  | inl l ↦ each x p.0 a l
  | inr r ↦ all_nodes s P f xs p.1 each a r
]

node_here : (s : State) (b a : Addr) (owner : ℕ) (es : List Entry) → s b ≡ Some (node_bytes owner es) → b ≡ a
    → HasKind s 3 a
node_here s b a owner es bytes e = (_, ap s (sym e) ∙ bytes)

nodes_below : (R : Addr → Bool) (s : State) (owner d : ℕ) (x : Item d) → Stands R s owner d x → (a : Addr)
    → IsAmong a (homes d x) → HasKind s 3 a
nodes_below R s owner zero e st a i = absurd i
nodes_below R s owner (suc d) b st a (inl e) =
    node_here s (addr_of b.word) a owner (map (spell d) b.items) st.0.bytes e
nodes_below R s owner (suc d) b st a (inr i) =
    all_nodes s (Stands R s owner d) (homes d) b.items st.1 (nodes_below R s owner d) a i

on_tree : (nodes : ℕ) (s : State) (anchor owner : Addr) (pairs : List Entry) (at : List Addr)
    → IsTree nodes s anchor owner pairs at → (a : Addr) → IsAmong a at → HasKind s 2 a ⊎ HasKind s 3 a
on_tree nodes s anchor owner pairs at tree a i =
    let R : Addr → Bool = is_on nodes (anchor.region % nodes) in
    elim (subst (λ (xs : List Addr). IsAmong a xs) tree.places_are i) [
      | inl e ↦ inl (_, ap s (sym e) ∙ tree.rooted.bytes)
      | inr j ↦ elim j [
        | inl e ↦ inr (node_here s (addr_of tree.root.word) a (word_of anchor) (map (spell tree.height) tree.root.items)
            tree.rooted.sub.node.bytes e)
        | inr k ↦ inr (all_nodes s (Stands R s (word_of anchor) tree.height) (homes tree.height) tree.root.items
            tree.rooted.sub.stand (nodes_below R s (word_of anchor) tree.height) a k)
      ]
    ]

-- a kind that is neither an anchor's nor a node's is on no place of a tree
pub off_tree : (nodes : ℕ) (s : State) (anchor owner : Addr) (pairs : List Entry) (at : List Addr)
    → IsTree nodes s anchor owner pairs at → (kind : ℕ) (a : Addr) → HasKind s kind a → (kind ≡ 2 → ⊥)
    → (kind ≡ 3 → ⊥) → IsAmong a at → ⊥
off_tree nodes s anchor owner pairs at tree kind a here two three i = elim (on_tree nodes s anchor owner pairs at tree a i) [
  | inl k ↦ two (one_kind s a kind 2 here k)
  | inr k ↦ three (one_kind s a kind 3 here k)
]

-- nor of a list, where it is no list's either
pub off_list : (nodes : ℕ) (s : State) (at owner : Addr) (halves : List Half) (places : List Addr)
    → IsList nodes s at owner halves places → (kind : ℕ) (a : Addr) → HasKind s kind a → (kind ≡ 2 → ⊥)
    → (kind ≡ 3 → ⊥) → (kind ≡ 9 → ⊥) → IsAmong a places → ⊥
off_list nodes s at owner halves places list kind a here two three nine i = elim list.form [
  | inl short ↦ elim (subst (λ (xs : List Addr). IsAmong a xs) short.places_are i) [
    | inl e ↦ nine (one_kind s a kind 9 here (_, ap s (sym e) ∙ short.bytes))
    | inr none ↦ absurd none
  ]
  | inr long ↦ elim (subst (λ (xs : List Addr). IsAmong a xs) long.places_are i) [
    | inl e ↦ nine (one_kind s a kind 9 here (_, ap s (sym e) ∙ long.bytes))
    | inr j ↦ off_tree nodes s long.anchor at (map half_entry halves) long.below long.tree kind a here two three j
  ]
]

-- ---- headers and records

differ : (k m : ℕ) → eqb k m ≡ false → k ≡ m → ⊥
differ k m f e = let t : eqb k m ≡ true = eq-eqb k m e in absurd cc

record_differs : (kind m : ℕ) → IsRecordKind kind → eqb 8 m ≡ false → eqb 10 m ≡ false → kind ≡ m → ⊥
record_differs kind m r eight ten e = elim r [
  | inl f ↦ differ 8 m eight (sym f ∙ e)
  | inr f ↦ differ 10 m ten (sym f ∙ e)
]

header_here : (nodes : ℕ) (s : State) (at graph : Addr) (fields : Header) → IsVertex nodes s at graph fields
    → HasKind s 7 at
header_here nodes s at graph fields vertex = (_, vertex.bytes)

body_here : (s : State) (kind : ℕ) (at owner : Addr) (values : Record) → IsBody s kind at owner values
    → HasKind s kind at
body_here s kind at owner values body = (_, body.bytes)

pub header_off_list : (nodes : ℕ) (s : State) (at graph : Addr) (fields : Header) (list owner : Addr)
    (halves : List Half) (places : List Addr) → IsVertex nodes s at graph fields
    → IsList nodes s list owner halves places → IsAmong at places → ⊥
header_off_list nodes s at graph fields list owner halves places vertex is =
    off_list nodes s list owner halves places is 7 at (header_here nodes s at graph fields vertex) (differ 7 2 refl)
    (differ 7 3 refl) (differ 7 9 refl)

pub header_off_tree : (nodes : ℕ) (s : State) (at graph : Addr) (fields : Header) (anchor owner : Addr)
    (pairs : List Entry) (places : List Addr) → IsVertex nodes s at graph fields
    → IsTree nodes s anchor owner pairs places → IsAmong at places → ⊥
header_off_tree nodes s at graph fields anchor owner pairs places vertex is =
    off_tree nodes s anchor owner pairs places is 7 at (header_here nodes s at graph fields vertex) (differ 7 2 refl)
    (differ 7 3 refl)

pub body_off_list : (nodes : ℕ) (s : State) (kind : ℕ) (at of : Addr) (values : Record) (list owner : Addr)
    (halves : List Half) (places : List Addr) → IsRecordKind kind → IsBody s kind at of values
    → IsList nodes s list owner halves places → IsAmong at places → ⊥
body_off_list nodes s kind at of values list owner halves places r body is =
    off_list nodes s list owner halves places is kind at (body_here s kind at of values body)
    (record_differs kind 2 r refl refl) (record_differs kind 3 r refl refl) (record_differs kind 9 r refl refl)

pub body_off_tree : (nodes : ℕ) (s : State) (kind : ℕ) (at of : Addr) (values : Record) (anchor owner : Addr)
    (pairs : List Entry) (places : List Addr) → IsRecordKind kind → IsBody s kind at of values
    → IsTree nodes s anchor owner pairs places → IsAmong at places → ⊥
body_off_tree nodes s kind at of values anchor owner pairs places r body is =
    off_tree nodes s anchor owner pairs places is kind at (body_here s kind at of values body)
    (record_differs kind 2 r refl refl) (record_differs kind 3 r refl refl)

pub no_header : (nodes : ℕ) (s : State) (kind : ℕ) (at graph : Addr) (fields : Header) (of : Addr) (values : Record)
    → IsRecordKind kind → IsVertex nodes s at graph fields → IsBody s kind at of values → ⊥
no_header nodes s kind at graph fields of values r vertex body = record_differs kind 7 r refl refl
    (one_kind s at kind 7 (body_here s kind at of values body) (header_here nodes s at graph fields vertex))

pub one_graph : (nodes : ℕ) (s : State) (at graph other : Addr) (fields others : Header)
    → IsVertex nodes s at graph fields → IsVertex nodes s at other others → (graph ≡ other) × (fields ≡ others)
one_graph nodes s at graph other fields others left right =
    let same : header_bytes graph fields ≡ header_bytes other others =
    same_Some (header_bytes graph fields) (header_bytes other others) (sym left.bytes ∙ right.bytes) in
    let both : (graph, fields) ≡ (other, others) = same_Some (graph, fields) (other, others)
    (sym (header_exact.again (graph, fields) (left.graph_fits, left.fit)) ∙ ap header_of same
    ∙ header_exact.again (other, others) (right.graph_fits, right.fit)) in
    (ap (λ (x : Addr × Header). x.0) both, ap (λ (x : Addr × Header). x.1) both)

pub one_owner : (s : State) (kind : ℕ) (at owner other : Addr) (values others : Record) → kind < 256
    → IsBody s kind at owner values → IsBody s kind at other others → (owner ≡ other) × (values ≡ others)
one_owner s kind at owner other values others small left right =
    let same : body_bytes kind owner values ≡ body_bytes kind other others =
    same_Some (body_bytes kind owner values) (body_bytes kind other others) (sym left.bytes ∙ right.bytes) in
    let both : (owner, values) ≡ (other, others) = same_Some (owner, values) (other, others)
    (sym ((body_exact kind small).again (owner, values) (left.owner_fits, left.fit)) ∙ ap (body_of kind) same
    ∙ (body_exact kind small).again (other, others) (right.owner_fits, right.fit)) in
    (ap (λ (x : Addr × Record). x.0) both, ap (λ (x : Addr × Record). x.1) both)
