-- A whole tree is what is left of it; what is left stays left where other places are emptied.
use Rattle.std.proofs.Common.{◌≡◌, inl, inr, ℕ, zero, suc, Bool, List, [], ◌∷◌, Option, Some, None, refl, sym, ap, ◌∙◌, arith}
use Rattle.std.specs.Prelude.{map}
use Rattle.std.specs.List.{AllByRecursion, flat_map}
use Rattle.a1_base.specs.Lists.{IsAmong}
use Rattle.a1_base.specs.declared.place.Addr.{Addr}
use Rattle.object_view.specs.Agreement.{State}
use Rattle.object_view.specs.Layout.{Entry, addr_of, word_of}
use Rattle.object_view.specs.Trees.{Branch, Item, spell, homes, Node, Stands, Stand, places, root_least, IsRooted}
use Rattle.object_btree.specs.Remains.{Lost, Each, Standing, Remains, IsLeft, Empties}
use Rattle.object_view.proofs.Standing.{in_left, in_right, node_kept}
use Rattle.object_btree.proofs.Down.{no_places}
use Rattle.object_btree.proofs.Grows.{moved}

each_all : {A : Type 0} (S : A → Type 0) (P : ℕ → List Addr → Type 0) (e : A → Entry) (f : A → List Addr)
    → ((x : A) → S x → P (e x).word (f x)) → (xs : List A) → AllByRecursion S xs → Each P (map e xs) (flat_map f xs)
each_all S P e f one [] st = refl
each_all S P e f one (x ∷ xs) st = (f x, flat_map f xs, refl, one x st.0, each_all S P e f one xs st.1)

loose : (R : Addr → Bool) (s : State) (owner least : ℕ) (at : Addr) (es : List Entry) → Node R s owner least at es
    → Standing R s owner at es
loose R s owner least at es n =
    record { reached = n.reached; bytes = n.bytes; fits = n.fits; many = omega arith; few = n.few }

branch_remains : (R : Addr → Bool) (s : State) (owner least d : ℕ) (b : Branch (Item d))
    → Node R s owner least (addr_of b.word) (map (spell d) b.items) → Stand R s owner d b.items
    → Remains R s owner d b.word (homes (suc d) b)
branch_remains R s owner least zero b n st =
    inr (
      map (spell zero) b.items,
      loose R s owner least (addr_of b.word) (map (spell zero) b.items) n,
      ap (λ (x : List Addr). addr_of b.word ∷ x) (no_places b.items),
    )
branch_remains R s owner least (suc d) b n st =
    inr (
      map (spell (suc d)) b.items,
      places (suc d) b.items,
      loose R s owner least (addr_of b.word) (map (spell (suc d)) b.items) n,
      refl,
      each_all (Stands R s owner (suc d)) (Remains R s owner d) (spell (suc d)) (homes (suc d))
          (λ x p. branch_remains R s owner 16 d x p.0 p.1) b.items st,
    )

pub tree_left : (R : Addr → Bool) (s : State) (anchor : Addr) (own d : ℕ) (b : Branch (Item d))
    → IsRooted R s anchor own d b → IsLeft R s anchor (homes (suc d) b)
tree_left R s anchor own d b tree = record {
  owner = own;
  root = b.word;
  height = d;
  owner_fits = tree.owner_fits;
  root_fits = tree.root_fits;
  low = tree.low;
  reached = tree.reached;
  bytes = tree.bytes;
  left = branch_remains R s (word_of anchor) (root_least d) d b tree.sub.node tree.sub.stand;
  distinct = tree.sub.distinct;
  apart = tree.apart;
}

-- ---- other places are emptied

some_none : (b : List ℕ) (o : Option (List ℕ)) → o ≡ Some b → o ≡ None → ⊥
some_none b o e n = cc

pub lost_kept : (R : Addr → Bool) (s t : State) (owner : ℕ) (at : Addr) → Empties s t → Lost R s owner at
    → Lost R t owner at
lost_kept R s t owner at empties l = record {
  reached = l.reached;
  other = λ b rest here head. elim (empties at) [
    | inl e ↦ l.other b rest (sym e ∙ here) head
    | inr n ↦ some_none b (t at) here n
  ];
}

pub each_kept : (P Q : ℕ → List Addr → Type 0) (es : List Entry) (ps : List Addr)
    → ((w : ℕ) (qs : List Addr) → P w qs → ((a : Addr) → IsAmong a qs → IsAmong a ps) → Q w qs) → Each P es ps
    → Each Q es ps
each_kept P Q [] ps keep e = e
each_kept P Q (x ∷ es) ps keep (here, there, are, p, rest) = (
  here,
  there,
  are,
  keep x.word here p (λ a i. moved a _ _ (sym are) (in_left a here there i)),
  each_kept P Q es there (λ w qs q inc. keep w qs q (λ a i. moved a _ _ (sym are) (in_right a here there (inc a i))))
      rest,
)

pub remains_kept : (R : Addr → Bool) (s t : State) (owner d : ℕ) (word : ℕ) (ps : List Addr) → Empties s t
    → ((a : Addr) → IsAmong a ps → t a ≡ s a) → Remains R s owner d word ps → Remains R t owner d word ps
remains_kept R s t owner zero word ps empties keep (inl (none, lost)) =
    inl (none, lost_kept R s t owner (addr_of word) empties lost)
remains_kept R s t owner zero word ps empties keep (inr (es, node, are)) =
    inr (
      es,
      node_kept R s t owner 0 (addr_of word) es node
          (keep (addr_of word) (moved (addr_of word) _ _ (sym are) (inl refl))),
      are,
    )
remains_kept R s t owner (suc d) word ps empties keep (inl (none, lost)) =
    inl (none, lost_kept R s t owner (addr_of word) empties lost)
remains_kept R s t owner (suc d) word ps empties keep (inr (es, below, node, are, each)) =
    inr (
      es,
      below,
      node_kept R s t owner 0 (addr_of word) es node
          (keep (addr_of word) (moved (addr_of word) _ _ (sym are) (inl refl))),
      are,
      each_kept (Remains R s owner d) (Remains R t owner d) es below
          (λ w qs p inc. remains_kept R s t owner d w qs empties (λ a i. keep a (moved a _ _ (sym are) (inr (inc a i))))
          p) each,
    )
