-- An object tells its kind and its owner, so the parts of different owners share no place.
use Rattle.std.proofs.Common.{◌≡◌, ◌⊎◌, inl, inr, ℕ, zero, suc, ◌<◌, ◌^◌, ◌%◌, Bool, List, [], ◌∷◌, ◌++◌, length, take, Some, refl, sym, ap, subst, ◌∙◌}
use Rattle.std.specs.Prelude.{map}
use Rattle.std.specs.Int.{w64, from_be_bytes, to_be_bytes}
use Rattle.std.specs.List.{AllByRecursion, flat_map}
use Rattle.std.proofs.lemmas.List.{take_at}
use Rattle.std.proofs.lemmas.Nat.{from_be_bytes-to_be_bytes_8}
use Rattle.a1_base.specs.Lists.{IsAmong}
use Rattle.a1_base.specs.declared.place.Addr.{Addr}
use Rattle.object_view.specs.Agreement.{State}
use Rattle.object_view.specs.Layout.{Entry, word_of, entries, object_bytes}
use Rattle.object_view.specs.Trees.{Item, spell, homes, Stands, IsTree, is_on}
use Rattle.object_view.proofs.Standing.{in_or, Apart}
use Rattle.type_schema.specs.declared.objects.Half.{Half}
use Rattle.type_schema.specs.Objects.{IsAddr, addr_bytes, half_entry}
use Rattle.type_schema.specs.Structures.{IsList}
use Rattle.type_schema.proofs.ObjectLemmas.{same_word, word_fits}

-- ---- an object of a kind and an owner

abbrev Owned : State → ℕ → ℕ → Addr → Type 0
Owned s kind owner a = (rest : List ℕ) × (s a ≡ Some (object_bytes kind owner rest))

same_kind : (s : State) (a : Addr) (k j o p : ℕ) → Owned s k o a → Owned s j p a → k ≡ j
same_kind s a k j o p left right = let e = left.1 in let f = right.1 in cc

owner_back : (o : ℕ) (rest : List ℕ) → o < 2 ^ 64 → from_be_bytes w64 (take 8 (to_be_bytes w64 o ++ rest)) ≡ o
owner_back o rest fits = ap (λ (b : List ℕ). from_be_bytes w64 b) (take_at (to_be_bytes w64 o) rest 8 refl)
    ∙ from_be_bytes-to_be_bytes_8 o fits

same_owner : (s : State) (a : Addr) (k j o p : ℕ) → o < 2 ^ 64 → p < 2 ^ 64 → Owned s k o a → Owned s j p a → o ≡ p
same_owner s a k j o p first second left right =
    let e = left.1 in
    let f = right.1 in
    let rest : to_be_bytes w64 o ++ left.0 ≡ to_be_bytes w64 p ++ right.0 = cc in
    sym (owner_back o left.0 first) ∙ ap (λ (b : List ℕ). from_be_bytes w64 (take 8 b)) rest
    ∙ owner_back p right.0 second

-- ---- what stands on the places of a tree

all_owned : {A : Type 0} (s : State) (owner : ℕ) (P : A → Type 0) (f : A → List Addr) (xs : List A) → AllByRecursion P xs
    → ((x : A) → P x → (a : Addr) → IsAmong a (f x) → Owned s 3 owner a) → (a : Addr) → IsAmong a (flat_map f xs)
    → Owned s 3 owner a
all_owned s owner P f [] p each a i = absurd i
all_owned s owner P f (x ∷ xs) p each a i = elim (in_or a (f x) (flat_map f xs) i) [
  | inl l ↦ each x p.0 a l
  | inr r ↦ all_owned s owner P f xs p.1 each a r
]

branch_owned : (R : Addr → Bool) (s : State) (owner d : ℕ) (x : Item d) → Stands R s owner d x → (a : Addr)
    → IsAmong a (homes d x) → Owned s 3 owner a
branch_owned R s owner zero e st a i = absurd i
branch_owned R s owner (suc d) b st a (inl e) =
    (entries (map (spell d) b.items), ap s (sym e) ∙ st.0.bytes)
branch_owned R s owner (suc d) b st a (inr i) =
    all_owned s owner (Stands R s owner d) (homes d) b.items st.1 (branch_owned R s owner d) a i

tree_anchor : (nodes : ℕ) (s : State) (anchor owner : Addr) (pairs : List Entry) (at : List Addr)
    → IsTree nodes s anchor owner pairs at → Owned s 2 (word_of owner) anchor
tree_anchor nodes s anchor owner pairs at tree =
    (to_be_bytes w64 tree.root.word ++ tree.height ∷ [], tree.rooted.bytes)

below_root : (nodes : ℕ) (s : State) (anchor owner : Addr) (pairs : List Entry) (at : List Addr)
    (tree : IsTree nodes s anchor owner pairs at) (a : Addr) → IsAmong a (homes (suc tree.height) tree.root)
    → Owned s 3 (word_of anchor) a
below_root nodes s anchor owner pairs at tree a (inl e) =
    (entries (map (spell tree.height) tree.root.items), ap s (sym e) ∙ tree.rooted.sub.node.bytes)
below_root nodes s anchor owner pairs at tree a (inr i) =
    let R : Addr → Bool = is_on nodes (anchor.region % nodes) in
    all_owned s (word_of anchor) (Stands R s (word_of anchor) tree.height) (homes tree.height) tree.root.items
    tree.rooted.sub.stand (branch_owned R s (word_of anchor) tree.height) a i

on_tree : (nodes : ℕ) (s : State) (anchor owner : Addr) (pairs : List Entry) (at : List Addr)
    → IsTree nodes s anchor owner pairs at → (a : Addr) → IsAmong a at → (anchor ≡ a) ⊎ Owned s 3 (word_of anchor) a
on_tree nodes s anchor owner pairs at tree a i =
    elim (subst (λ (xs : List Addr). IsAmong a xs) tree.places_are i) [
      | inl e ↦ inl e
      | inr j ↦ inr (below_root nodes s anchor owner pairs at tree a j)
    ]

two_three : ◌≡◌ {A = ℕ} 2 3 → ⊥
two_three e = absurd cc

nine_two : ◌≡◌ {A = ℕ} 9 2 → ⊥
nine_two e = absurd cc

nine_three : ◌≡◌ {A = ℕ} 9 3 → ⊥
nine_three e = absurd cc

-- an anchor is no node
no_node : (s : State) (anchor a : Addr) (o p : ℕ) → Owned s 2 o anchor → anchor ≡ a → Owned s 3 p a → ⊥
no_node s anchor a o p left e right =
    two_three (same_kind s a 2 3 o p (subst (λ (x : Addr). Owned s 2 o x) e left) right)

-- trees of different anchors share no place
pub trees_apart : (nodes : ℕ) (s : State) (anchor owner : Addr) (pairs : List Entry) (at : List Addr)
    (anchor2 owner2 : Addr) (pairs2 : List Entry) (at2 : List Addr) → IsTree nodes s anchor owner pairs at
    → IsTree nodes s anchor2 owner2 pairs2 at2 → IsAddr anchor → IsAddr anchor2 → (anchor ≡ anchor2 → ⊥) → Apart at at2
trees_apart nodes s anchor owner pairs at anchor2 owner2 pairs2 at2 left right fits fits2 differ a i j =
    let o = tree_anchor nodes s anchor owner pairs at left in
    let p = tree_anchor nodes s anchor2 owner2 pairs2 at2 right in
    elim (on_tree nodes s anchor owner pairs at left a i) [
      | inl e ↦ elim (on_tree nodes s anchor2 owner2 pairs2 at2 right a j) [
        | inl f ↦ differ (e ∙ sym f)
        | inr f ↦ no_node s anchor a (word_of owner) (word_of anchor2) o e f
      ]
      | inr e ↦ elim (on_tree nodes s anchor2 owner2 pairs2 at2 right a j) [
        | inl f ↦ no_node s anchor2 a (word_of owner2) (word_of anchor) p f e
        | inr f ↦ differ (same_word anchor anchor2 fits fits2 (same_owner s a 3 3 (word_of anchor) (word_of anchor2)
            (word_fits anchor fits) (word_fits anchor2 fits2) e f))
      ]
    ]

-- trees of different owners have different anchors
anchors_differ : (nodes : ℕ) (s : State) (anchor owner : Addr) (pairs : List Entry) (at : List Addr)
    (anchor2 owner2 : Addr) (pairs2 : List Entry) (at2 : List Addr) → IsTree nodes s anchor owner pairs at
    → IsTree nodes s anchor2 owner2 pairs2 at2 → IsAddr owner → IsAddr owner2 → (owner ≡ owner2 → ⊥)
    → anchor ≡ anchor2 → ⊥
anchors_differ nodes s anchor owner pairs at anchor2 owner2 pairs2 at2 left right fits fits2 differ e =
    differ (same_word owner owner2 fits fits2 (same_owner s anchor2 2 2 (word_of owner) (word_of owner2)
    (word_fits owner fits) (word_fits owner2 fits2)
    (subst (λ (x : Addr). Owned s 2 (word_of owner) x) e (tree_anchor nodes s anchor owner pairs at left))
    (tree_anchor nodes s anchor2 owner2 pairs2 at2 right)))

-- ---- what stands on the places of a list

-- no object of a tree has the kind of a list
not_in_tree : (nodes : ℕ) (s : State) (anchor owner : Addr) (pairs : List Entry) (at : List Addr)
    → IsTree nodes s anchor owner pairs at → (list a : Addr) (o : ℕ) → Owned s 9 o list → list ≡ a → IsAmong a at → ⊥
not_in_tree nodes s anchor owner pairs at tree list a o nine e i =
    let here : Owned s 9 o a = subst (λ (x : Addr). Owned s 9 o x) e nine in
    elim (on_tree nodes s anchor owner pairs at tree a i) [
      | inl f ↦ nine_two (same_kind s a 9 2 o (word_of owner) here
          (subst (λ (x : Addr). Owned s 2 (word_of owner) x) f (tree_anchor nodes s anchor owner pairs at tree)))
      | inr f ↦ nine_three (same_kind s a 9 3 o (word_of anchor) here f)
    ]

-- a list and a tree of another owner than the list share no place
pub list_and_tree : (nodes : ℕ) (s : State) (at owner : Addr) (halves : List Half) (places : List Addr)
    (anchor owner2 : Addr) (pairs : List Entry) (below : List Addr) → IsList nodes s at owner halves places
    → IsTree nodes s anchor owner2 pairs below → IsAddr anchor → IsAddr owner2 → (at ≡ owner2 → ⊥) → Apart places below
list_and_tree nodes s at owner halves places anchor owner2 pairs below list tree fits fits2 differ a i j = elim list.form [
  | inl short ↦ elim (subst (λ (xs : List Addr). IsAmong a xs) short.places_are i) [
    | inl e ↦ not_in_tree nodes s anchor owner2 pairs below tree at a (word_of owner)
        (0 ∷ entries (map half_entry halves), short.bytes) e j
    | inr none ↦ absurd none
  ]
  | inr long ↦ elim (subst (λ (xs : List Addr). IsAmong a xs) long.places_are i) [
    | inl e ↦ not_in_tree nodes s anchor owner2 pairs below tree at a (word_of owner)
        (1 ∷ to_be_bytes w64 (length halves) ++ addr_bytes long.anchor, long.bytes) e j
    | inr k ↦ trees_apart nodes s long.anchor at (map half_entry halves) long.below anchor owner2 pairs below long.tree
        tree long.anchor_fits fits (anchors_differ nodes s long.anchor at (map half_entry halves) long.below anchor
        owner2 pairs below long.tree tree list.self fits2 differ) a k j
  ]
]

list_owned : (nodes : ℕ) (s : State) (at owner : Addr) (halves : List Half) (places : List Addr)
    → IsList nodes s at owner halves places → Owned s 9 (word_of owner) at
list_owned nodes s at owner halves places list = elim list.form [
  | inl short ↦ (0 ∷ entries (map half_entry halves), short.bytes)
  | inr long ↦ (1 ∷ to_be_bytes w64 (length halves) ++ addr_bytes long.anchor, long.bytes)
]

-- two lists share no place
pub lists_apart : (nodes : ℕ) (s : State) (at owner : Addr) (halves : List Half) (places : List Addr)
    (at2 owner2 : Addr) (halves2 : List Half) (places2 : List Addr) → IsList nodes s at owner halves places
    → IsList nodes s at2 owner2 halves2 places2 → (at ≡ at2 → ⊥) → Apart places places2
lists_apart nodes s at owner halves places at2 owner2 halves2 places2 left right differ a i j =
    let nine = list_owned nodes s at owner halves places left in
    let other = list_owned nodes s at2 owner2 halves2 places2 right in
    elim right.form [
      | inl short ↦ elim (subst (λ (xs : List Addr). IsAmong a xs) short.places_are j) [
        | inl f ↦ beside_list nodes s at owner halves places left at2 a (word_of owner2) other differ f i
        | inr none ↦ absurd none
      ]
      | inr long ↦ elim (subst (λ (xs : List Addr). IsAmong a xs) long.places_are j) [
        | inl f ↦ beside_list nodes s at owner halves places left at2 a (word_of owner2) other differ f i
        | inr k ↦ list_and_tree nodes s at owner halves places long.anchor at2 (map half_entry halves2) long.below left
            long.tree long.anchor_fits right.self differ a i k
      ]
    ] where
      beside_list : (nodes : ℕ) (s : State) (at owner : Addr) (halves : List Half) (places : List Addr)
          → IsList nodes s at owner halves places → (at2 a : Addr) (o : ℕ) → Owned s 9 o at2 → (at ≡ at2 → ⊥) → at2 ≡ a
          → IsAmong a places → ⊥
      beside_list nodes s at owner halves places list at2 a o nine differ f i = elim list.form [
        | inl short ↦ elim (subst (λ (xs : List Addr). IsAmong a xs) short.places_are i) [
          | inl e ↦ differ (e ∙ sym f)
          | inr none ↦ absurd none
        ]
        | inr long ↦ elim (subst (λ (xs : List Addr). IsAmong a xs) long.places_are i) [
          | inl e ↦ differ (e ∙ sym f)
          | inr k ↦ not_in_tree nodes s long.anchor at (map half_entry halves) long.below long.tree at2 a o nine f k
        ]
      ]
