-- What a removal from a tree tells, in the words of its caller.
use Rattle.std.proofs.Common.{inl, inr, ℕ, suc, Bool, List, ◌∷◌, ◌%◌, Option, refl, sym, ap, subst, ◌∙◌}
use Rattle.a1_base.specs.Lists.{IsAmong}
use Rattle.a1_base.specs.declared.place.Addr.{Addr}
use Rattle.object_view.specs.Agreement.{State}
use Rattle.object_view.specs.Keys.{lookup, removed}
use Rattle.object_view.specs.Layout.{Entry, word_of}
use Rattle.object_view.specs.Parts.{Moves}
use Rattle.object_view.specs.Trees.{homes, is_on, IsTree}
use Rattle.object_btree.specs.Changes.{RemoveTells}
use Rattle.object_btree.specs.Steps.{TreeShrunk, TreeTaken}
use Rattle.object_btree.proofs.Less.{at_or}

-- the anchor stays, and of the nodes some go
shrunk_moves : (R : Addr → Bool) (s t : State) (anchor : Addr) (own : ℕ) (old : List Addr) (want : List Entry)
    → (IsAmong anchor old → ⊥) → (w : TreeShrunk R s t anchor own old want)
    → Moves s t (anchor ∷ old) (anchor ∷ homes (suc w.d) w.b)
shrunk_moves R s t anchor own old want apart w = record {
  others = λ b out off. w.frame b (λ e. out (inl (sym e))) (λ i. out (inr i));
  made = λ b i. elim i [ inl e ↦ inl (inl e) | inr j ↦ inl (inr (w.within b j)) ];
  freed = λ b i. elim i [
    | inl e ↦ inl (inl e)
    | inr j ↦ elim (at_or b (homes (suc w.d) w.b)) [
      | inl k ↦ inl (inr k)
      | inr n ↦ inr (w.gone b (λ e. apart (subst (λ (x : Addr). IsAmong x old) e j)) j n)
    ]
  ];
}

pub taken_tells : (nodes : ℕ) (s t : State) (anchor owner : Addr) (pairs : List Entry) (at : List Addr) (k : List ℕ)
    (old : Option ℕ) → (tree : IsTree nodes s anchor owner pairs at)
    → TreeTaken (is_on nodes (anchor.region % nodes)) s t anchor (word_of owner) tree.height tree.root k old
    → RemoveTells nodes s t anchor owner pairs at k old
taken_tells nodes s t anchor owner pairs at k old tree w =
    let m : Moves s t (anchor ∷ homes (suc tree.height) tree.root) (anchor ∷ homes (suc w.shrunk.d) w.shrunk.b) =
    shrunk_moves _ s t anchor _ (homes (suc tree.height) tree.root) _ tree.rooted.apart w.shrunk in
    record {
      old_is = w.old_is ∙ ap (lookup k) (sym tree.pairs_are);
      becomes = record {
        now = anchor ∷ homes (suc w.shrunk.d) w.shrunk.b;
        tree = record {
          height = w.shrunk.d;
          root = w.shrunk.b;
          rooted = w.shrunk.tree;
          pairs_are = ap (removed k) tree.pairs_are ∙ sym w.shrunk.content;
          places_are = refl;
        };
        moves = subst (λ (ps : List Addr). Moves s t ps (anchor ∷ homes (suc w.shrunk.d) w.shrunk.b))
            (sym tree.places_are) m;
      };
    }
