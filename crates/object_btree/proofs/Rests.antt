-- What is left of a tree with its anchor: a whole tree is a rest, and a step of destruction leaves a rest.
use Rattle.std.proofs.Common.{◌≡◌, ◌⊎◌, inl, inr, ℕ, suc, ◌+◌, ◌%◌, ◌<◌, Bool, true, false, List, [], ◌∷◌, ◌++◌, length, Some, None, refl, sym, ap, subst, ◌∙◌, arith}
use Rattle.std.proofs.lemmas.List.{append-nil}
use Rattle.a1_base.specs.Lists.{IsAmong}
use Rattle.a1_base.specs.declared.place.Addr.{Addr}
use Rattle.object_view.specs.Agreement.{State}
use Rattle.object_view.specs.Layout.{Entry, word_of}
use Rattle.object_view.specs.Trees.{IsTree, is_on}
use Rattle.object_btree.specs.Remains.{Remains, Each, LeftBelow, LessBy, IsLeft, IsRest, Destroys, Empties}
use Rattle.object_btree.proofs.Freeing.{Gone, among_or}
use Rattle.object_btree.proofs.Remaining.{tree_left, remains_kept}
use Rattle.object_view.proofs.Views.{some_not_none}

-- a whole tree is a rest
pub tree_rest : (nodes : ℕ) (s : State) (anchor owner : Addr) (pairs : List Entry) (at : List Addr)
    → IsTree nodes s anchor owner pairs at → IsRest nodes s anchor at
tree_rest nodes s anchor owner pairs at tree =
    subst (λ (x : List Addr). IsRest nodes s anchor x) (sym tree.places_are)
    (refl, tree_left (is_on nodes (anchor.region % nodes)) s anchor (word_of owner) tree.height tree.root tree.rooted)

-- each place is as before, or empty and none of the rest's
abbrev pub EmptiesOthers : State → State → List Addr → Type 0
EmptiesOthers s t ps = (a : Addr) → (t a ≡ s a) ⊎ ((t a ≡ None) × (IsAmong a ps → ⊥))

others_same : (s t : State) (ps : List Addr) → EmptiesOthers s t ps → (a : Addr) → IsAmong a ps → t a ≡ s a
others_same s t ps e a i = elim (e a) [ inl q ↦ q | inr n ↦ absurd (n.1 i) ]

others_empties : (s t : State) (ps : List Addr) → EmptiesOthers s t ps → Empties s t
others_empties s t ps e a = elim (e a) [ inl q ↦ inl q | inr n ↦ inr n.0 ]

-- a rest stays where other places are emptied
pub rest_kept : (nodes : ℕ) (s t : State) (anchor : Addr) (ps : List Addr) → EmptiesOthers s t ps
    → IsRest nodes s anchor ps → IsRest nodes t anchor ps
rest_kept nodes s t anchor [] e rest = elim (e anchor) [ inl q ↦ q ∙ rest | inr n ↦ n.0 ]
rest_kept nodes s t anchor (at ∷ below) e (is, l) = (
  is,
  record {
    owner = l.owner;
    root = l.root;
    height = l.height;
    owner_fits = l.owner_fits;
    root_fits = l.root_fits;
    low = l.low;
    reached = l.reached;
    bytes = others_same s t (at ∷ below) e anchor (inl is) ∙ l.bytes;
    left = remains_kept (is_on nodes (anchor.region % nodes)) s t (word_of anchor) l.height l.root below
        (others_empties s t (at ∷ below) e) (λ a i. others_same s t (at ∷ below) e a (inr i)) l.left;
    distinct = l.distinct;
    apart = l.apart;
  },
)

-- ---- a rest whose anchor stands

pub record RestAt (nodes : ℕ) (s : State) (anchor : Addr) (ps : List Addr) : Type 0 where
  pub below : List Addr
  pub are : ps ≡ anchor ∷ below
  pub left : IsLeft (is_on nodes (anchor.region % nodes)) s anchor below

pub rest_at : (nodes : ℕ) (s : State) (anchor : Addr) (ps : List Addr) (b : List ℕ) → s anchor ≡ Some b
    → IsRest nodes s anchor ps → RestAt nodes s anchor ps
rest_at nodes s anchor [] b some rest = absurd (some_not_none (s anchor) b some rest)
rest_at nodes s anchor (at ∷ below) b some (is, l) =
    record { below = below; are = ap (λ (a : Addr). a ∷ below) is; left = l }

one_more : (d : ℕ) → suc d ≡ d + 1
one_more d = omega arith

-- the root as the only entry
pub root_below : (R : Addr → Bool) (s : State) (owner d word : ℕ) (ps : List Addr) → Remains R s owner d word ps
    → LeftBelow R s owner (d + 1) (record { key = []; word = word } ∷ []) ps
root_below R s owner d word ps r =
    subst (λ (n : ℕ). LeftBelow R s owner n (record { key = []; word = word } ∷ []) ps) (one_more d)
    (ps, [], sym (append-nil ps), r, refl)

below_root : (R : Addr → Bool) (s : State) (owner d word : ℕ) (ps : List Addr)
    → LeftBelow R s owner (d + 1) (record { key = []; word = word } ∷ []) ps → Remains R s owner d word ps
below_root R s owner d word ps l =
    let f : Each (Remains R s owner d) (record { key = []; word = word } ∷ []) ps =
    subst (λ (n : ℕ). LeftBelow R s owner n (record { key = []; word = word } ∷ []) ps) (sym (one_more d)) l in
    let e : f.0 ≡ ps = sym (f.2 ∙ ap (λ (x : List Addr). f.0 ++ x) f.4 ∙ append-nil f.0) in
    subst (λ (x : List Addr). Remains R s owner d word x) e f.3

-- ---- the answers of a step

pub stays : (nodes : ℕ) (s t : State) (anchor : Addr) (ps : List Addr) (limit freed : ℕ)
    (r : RestAt nodes s anchor ps)
    → LessBy (is_on nodes (anchor.region % nodes)) s t (word_of anchor) (r.left.height + 1)
    (record { key = []; word = r.left.root } ∷ []) r.below limit freed
    → freed ≡ limit → Destroys nodes s t anchor ps limit false
stays nodes s t anchor ps limit freed r m end =
    let l : IsLeft (is_on nodes (anchor.region % nodes)) s anchor r.below = r.left in
    let inside : (a : Addr) → IsAmong a (anchor ∷ m.left) → IsAmong a (anchor ∷ r.below) =
    λ a i. elim i [ inl e ↦ inl e | inr j ↦ inr (m.within a j) ] in
    let back : (a : Addr) → IsAmong a (anchor ∷ r.below) → IsAmong a ps =
    λ a i. subst (λ (x : List Addr). IsAmong a x) (sym r.are) i in
    let to : (a : Addr) → IsAmong a ps → IsAmong a (anchor ∷ r.below) =
    λ a i. subst (λ (x : List Addr). IsAmong a x) r.are i in
    let one : length ps ≡ length (anchor ∷ r.below) = ap length r.are in
    let two : length r.below ≡ length m.left + freed = m.count in
    record {
      left = anchor ∷ m.left;
      freed = freed;
      rest = (
        refl,
        record {
          owner = l.owner;
          root = l.root;
          height = l.height;
          owner_fits = l.owner_fits;
          root_fits = l.root_fits;
          low = l.low;
          reached = l.reached;
          bytes = m.frame anchor l.apart ∙ l.bytes;
          left = below_root (is_on nodes (anchor.region % nodes)) t (word_of anchor) l.height l.root m.left m.remains;
          distinct = m.distinct;
          apart = λ i. l.apart (m.within anchor i);
        },
      );
      within = λ a i. back a (inside a i);
      moves = record {
        others = λ a out off. m.frame a (λ i. out (back a (inr i)));
        made = λ a i. inl (back a (inside a i));
        freed = λ a i. elim (to a i) [
          | inl e ↦ inl (inl e)
          | inr j ↦ elim (among_or a m.left) [ inl k ↦ inl (inr k) | inr n ↦ inr (m.gone a j n) ]
        ];
      };
      count = omega (arith, one, two);
      few = omega (arith, end);
      ended = λ e. absurd cc;
      goes_on = λ e. (omega arith, end);
    }

pub ends : (nodes : ℕ) (s u : State) (anchor : Addr) (ps : List Addr) (limit freed : ℕ)
    (r : RestAt nodes s anchor ps) → Gone s u anchor r.below → length r.below ≡ freed → freed < limit
    → Destroys nodes s u anchor ps limit true
ends nodes s u anchor ps limit freed r g len low =
    let one : length ps ≡ length (anchor ∷ r.below) = ap length r.are in
    let back : (a : Addr) → IsAmong a (anchor ∷ r.below) → IsAmong a ps =
    λ a i. subst (λ (x : List Addr). IsAmong a x) (sym r.are) i in
    record {
      left = [];
      freed = freed + 1;
      rest = g.none anchor (inl refl);
      within = λ a i. absurd i;
      moves = record {
        others = λ a out off. g.frame a (λ i. out (back a i));
        made = λ a i. absurd i;
        freed = λ a i. inr (g.none a (subst (λ (x : List Addr). IsAmong a x) r.are i));
      };
      count = omega (arith, one, len);
      few = omega (arith, low);
      ended = λ e. refl;
      goes_on = λ e. absurd cc;
    }
