-- A change of a list and one of a tree put together.
use Rattle.std.proofs.Common.{◌≡◌, inl, inr, ℕ, List, ◌++◌}
use Rattle.a1_base.specs.Lists.{IsAmong}
use Rattle.a1_base.specs.declared.place.Addr.{Addr}
use Rattle.object_view.specs.Agreement.{State}
use Rattle.object_view.specs.Layout.{Entry}
use Rattle.object_view.specs.Parts.{Moves}
use Rattle.object_view.specs.Trees.{IsTree, Becomes}
use Rattle.object_view.proofs.Moving.{moves_then, moves_beside}
use Rattle.object_view.proofs.Standing.{Apart, Full, in_left, in_right, in_or, tree_kept, tree_filled}
use Rattle.type_schema.specs.declared.objects.Half.{Half}
use Rattle.type_schema.specs.Objects.{IsAddr}
use Rattle.type_schema.specs.Structures.{IsList, ListBecomes, SameOn}
use Rattle.type_schema.proofs.Apart.{list_and_tree}
use Rattle.type_schema.proofs.Staying.{list_kept, list_filled}
use Rattle.half_edge_lists.specs.Together.{BothBecome}

-- a part beside one that moves has the same bytes
beside_same : (s t : State) (ps qs rs : List Addr) → Moves s t ps qs → Apart ps rs → Full s rs → SameOn s t rs
beside_same s t ps qs rs m apart full a i = m.others a (λ j. apart a j i) (λ j. elim (m.made a j) [
  | inl k ↦ apart a k i
  | inr none ↦ full a i none
])

-- and shares none of its new places
still_apart : (s t : State) (ps qs rs : List Addr) → Moves s t ps qs → Apart ps rs → Full s rs → Apart qs rs
still_apart s t ps qs rs m apart full a i j = elim (m.made a i) [
  | inl k ↦ apart a k j
  | inr none ↦ full a j none
]

swapped : (a : Addr) (xs ys : List Addr) → IsAmong a (xs ++ ys) → IsAmong a (ys ++ xs)
swapped a xs ys i = elim (in_or a xs ys i) [ inl l ↦ in_right a ys xs l | inr r ↦ in_left a ys xs r ]

-- the order of the places is no matter
moves_swapped : (s t : State) (xs ys zs ws : List Addr) → Moves s t (xs ++ ys) (zs ++ ws)
    → Moves s t (ys ++ xs) (ws ++ zs)
moves_swapped s t xs ys zs ws m = record {
  others = λ b out off. m.others b (λ i. out (swapped b xs ys i)) (λ i. off (swapped b zs ws i));
  made = λ b i. elim (m.made b (swapped b ws zs i)) [ inl j ↦ inl (swapped b xs ys j) | inr none ↦ inr none ];
  freed = λ b i. elim (m.freed b (swapped b ys xs i)) [ inl j ↦ inl (swapped b zs ws j) | inr none ↦ inr none ];
}

-- a list changes, and then a tree
pub both_become : (nodes : ℕ) (s t u : State) (at header : Addr) (halves more : List Half) (places : List Addr)
    (anchor owner : Addr) (pairs grown : List Entry) (below : List Addr) → IsList nodes s at header halves places
    → IsTree nodes s anchor owner pairs below → IsAddr anchor → IsAddr owner → (at ≡ owner → ⊥)
    → ListBecomes nodes s t at header places more
    → (IsTree nodes t anchor owner pairs below → Becomes nodes t u anchor owner below grown)
    → BothBecome nodes s u at header more places anchor owner grown below
both_become nodes s t u at header halves more places anchor owner pairs grown below list tree fits fits2 differ first second =
    let apart : Apart places below = list_and_tree nodes s at header halves places anchor owner pairs below list tree fits
    fits2 differ in
    let full : Full s below = tree_filled nodes s anchor owner pairs below tree in
    let kept : IsTree nodes t anchor owner pairs below = tree_kept nodes s t anchor owner pairs below tree
    (beside_same s t places first.now below first.moves apart full) in
    let next : Becomes nodes t u anchor owner below grown = second kept in
    let off : Apart first.now below = still_apart s t places first.now below first.moves apart full in
    record {
      list_now = first.now;
      tree_now = next.now;
      list = list_kept nodes t u at header more first.now first.list
          (beside_same t u below next.now first.now next.moves (λ a i j. off a j i)
          (list_filled nodes t at header more first.now first.list));
      tree = next.tree;
      moves = moves_then s t u (places ++ below) (first.now ++ below) (first.now ++ next.now)
          (moves_swapped s t below places below first.now (moves_beside s t below places first.now first.moves))
          (moves_beside t u first.now below next.now next.moves);
    }
