-- A child that lost a pair, and the node above it.
use Rattle.std.proofs.Common.{◌≡◌, ◌⊎◌, inl, inr, ℕ, suc, ◌+◌, ◌≤◌, Bool, false, List, [], ◌∷◌, ◌++◌, length, Some, None, refl, sym, ap, subst, ◌∙◌, arith}
use Rattle.std.specs.Prelude.{map}
use Rattle.std.specs.List.{AllByRecursion}
use Rattle.a1_base.specs.Lists.{IsAmong}
use Rattle.a1_base.specs.declared.place.Addr.{Addr}
use Rattle.object_view.specs.Agreement.{State}
use Rattle.object_view.specs.Layout.{Entry, IsEntry, addr_of, node_bytes}
use Rattle.object_view.specs.Keys.{Bound}
use Rattle.object_view.specs.Keys.{removed}
use Rattle.object_view.specs.Trees.{Branch, Item, spell, content, homes, Node, Stands, Ways, contents, places, Stand, Distinct, Sub}
use Rattle.object_btree.specs.Steps.{Shrunk}
use Rattle.object_btree.proofs.Paths.{flat_join, ways_join}
use Rattle.object_view.proofs.Reading.{all_join}
use Rattle.object_btree.proofs.Pairing.{take_mid}
use Rattle.object_view.proofs.Standing.{in_left, in_right, in_or, stand_kept, node_kept, Parts, distinct_parts, distinct_join}
use Rattle.object_btree.proofs.Grows.{moved}
use Rattle.object_btree.proofs.Children.{Among}
use Rattle.object_btree.proofs.Joins.{Settled}
use Rattle.object_view.proofs.Views.{place_or, unlike}

abbrev content_of : (d : ℕ) → Branch (Item d) → List Entry
content_of d b = content (suc d) b

-- the node's branchs after one lost a pair
pub record Less (R : Addr → Bool) (s u : State) (owner d : ℕ) (lo hi : Bound) (at : Addr) (bs : List (Branch (Item d)))
    (before : List (Branch (Item d))) (new : Branch (Item d)) (after : List (Branch (Item d))) (want : List Entry) :
    Type 0 where
  pub ways : Ways (suc d) lo (before ++ new ∷ after) hi
  pub before_stand : Stand R u owner (suc d) before
  pub after_stand : Stand R u owner (suc d) after
  pub node : Node R u owner 0 (addr_of new.word) (map (spell d) new.items)
  pub stand : Stand R u owner d new.items
  pub distinct : Distinct (at ∷ places (suc d) (before ++ new ∷ after))
  pub content : contents (suc d) (before ++ new ∷ after) ≡ want
  pub within : (a : Addr) → IsAmong a (places (suc d) (before ++ new ∷ after)) → IsAmong a (places (suc d) bs)
  pub frame : (a : Addr) → (IsAmong a (at ∷ places (suc d) bs) → ⊥) → u a ≡ s a
  pub gone : (a : Addr) → IsAmong a (places (suc d) bs) → (IsAmong a (places (suc d) (before ++ new ∷ after)) → ⊥)
      → u a ≡ None
  pub here : u at ≡ s at

pub lessen : (R : Addr → Bool) (s u : State) (owner d : ℕ) (lo hi : Bound) (at : Addr) (bs : List (Branch (Item d)))
    (k : List ℕ) (low : List Entry) (e : Entry) (high : List Entry) (thin : Bool)
    → (a : Among R s owner d lo bs hi at k low e high)
    → (w : Shrunk R s u owner 16 d a.clo a.child a.chi (removed k (contents d a.child.items)) thin)
    → Less R s u owner d lo hi at bs a.before (record { key = a.child.key; word = a.child.word; items = w.items })
    a.after (removed k (contents (suc d) bs))
lessen R s u owner d lo hi at bs k low e high thin am w =
    let child : Branch (Item d) = am.child in
    let d1 : Parts (at ∷ places (suc d) am.before) (homes (suc d) am.child ++ places (suc d) am.after) =
    distinct_parts (at ∷ places (suc d) am.before) (homes (suc d) am.child ++ places (suc d) am.after) am.distinct in
    let d2 : Parts (homes (suc d) am.child) (places (suc d) am.after) =
    distinct_parts (homes (suc d) am.child) (places (suc d) am.after) d1.right in
    let into : (a : Addr) → IsAmong a (addr_of am.child.word ∷ places d w.items) → IsAmong a (homes (suc d) am.child) =
    λ a i. elim i [ inl q ↦ inl q | inr j ↦ inr (w.within a j) ] in
    let left_else : (a : Addr) → IsAmong a (at ∷ places (suc d) am.before) → IsAmong a (homes (suc d) am.child) → ⊥ =
    λ a i j. d1.apart a i (in_left a (homes (suc d) am.child) (places (suc d) am.after) j) in
    let right_else : (a : Addr) → IsAmong a (places (suc d) am.after) → IsAmong a (homes (suc d) am.child) → ⊥ =
    λ a i j. d2.apart a j i in
    let now : places (suc d) (am.before ++ record { key = am.child.key; word = am.child.word; items = w.items } ∷
    am.after) ≡ places (suc d) am.before ++ ((addr_of am.child.word ∷ places d w.items) ++ places (suc d) am.after) =
    flat_join (homes (suc d)) am.before
    (record { key = am.child.key; word = am.child.word; items = w.items } ∷ am.after) in
    let dr : Distinct ((addr_of am.child.word ∷ places d w.items) ++ places (suc d) am.after) =
    distinct_join (addr_of am.child.word ∷ places d w.items) (places (suc d) am.after) w.distinct d2.right
    (λ a i j. d2.apart a (into a i) j) in
    let dist : Distinct ((at ∷ places (suc d) am.before) ++
    ((addr_of am.child.word ∷ places d w.items) ++ places (suc d) am.after)) =
    distinct_join (at ∷ places (suc d) am.before)
    ((addr_of am.child.word ∷ places d w.items) ++ places (suc d) am.after) d1.left dr
    (λ a i j. d1.apart a i (elim (in_or a (addr_of am.child.word ∷ places d w.items) (places (suc d) am.after) j) [
      | inl l ↦ in_left a (homes (suc d) am.child) (places (suc d) am.after) (into a l)
      | inr r ↦
          in_right a (homes (suc d) am.child) (places (suc d) am.after) r
    ])) in
    record {
      ways = ways_join (suc d) am.before
          (record { key = am.child.key; word = am.child.word; items = w.items } ∷ am.after) lo am.clo hi am.left
          (am.chi, (am.sub.spans.0, w.ways), am.right);
      before_stand = stand_kept R s u owner (suc d) am.before am.left_stand (λ a i. w.frame a (left_else a (inr i)));
      after_stand = stand_kept R s u owner (suc d) am.after am.right_stand (λ a i. w.frame a (right_else a i));
      node = w.node;
      stand = w.stand;
      distinct = subst (λ (x : List Addr). Distinct (at ∷ x)) (sym now) dist;
      content = flat_join (content_of d) am.before
          (record { key = am.child.key; word = am.child.word; items = w.items } ∷ am.after) ∙
          ap (λ t. contents (suc d) am.before ++ (t ++ contents (suc d) am.after)) w.content ∙
          sym (ap (removed k) am.pairs ∙
          take_mid k (contents (suc d) am.before) (contents d am.child.items) (contents (suc d) am.after) am.lows
          am.highs);
      within = λ a i. moved a _ _ (sym am.split)
          (elim (in_or a (places (suc d) am.before)
          ((addr_of am.child.word ∷ places d w.items) ++ places (suc d) am.after) (moved a _ _ now i)) [
            | inl l ↦ in_left a (places (suc d) am.before) (homes (suc d) am.child ++ places (suc d) am.after) l
            | inr r ↦ in_right a (places (suc d) am.before) (homes (suc d) am.child ++ places (suc d) am.after)
                (elim (in_or a (addr_of am.child.word ∷ places d w.items) (places (suc d) am.after) r) [
                  | inl l2 ↦ in_left a (homes (suc d) am.child) (places (suc d) am.after) (into a l2)
                  | inr r2 ↦
                      in_right a (homes (suc d) am.child) (places (suc d) am.after) r2
                ])
          ]);
      frame = λ a n. w.frame a (λ i. n
          (inr (moved a _ _ (sym am.split)
          (in_right a (places (suc d) am.before) (homes (suc d) am.child ++ places (suc d) am.after)
          (in_left a (homes (suc d) am.child) (places (suc d) am.after) i)))));
      gone = λ a i n. elim (in_or a (places (suc d) am.before) (homes (suc d) am.child ++ places (suc d) am.after)
          (moved a _ _ am.split i)) [
            | inl l ↦ absurd (n (moved a _ _ (sym now)
                (in_left a (places (suc d) am.before)
                ((addr_of am.child.word ∷ places d w.items) ++ places (suc d) am.after)
                l)))
            | inr r ↦ elim (in_or a (homes (suc d) am.child) (places (suc d) am.after) r) [
              | inl h ↦ w.gone a h (λ j. n (moved a _ _ (sym now)
                  (in_right a (places (suc d) am.before)
                  ((addr_of am.child.word ∷ places d w.items) ++ places (suc d) am.after)
                  (in_left a (addr_of am.child.word ∷ places d w.items) (places (suc d) am.after) j))))
              | inr t ↦ absurd (n (moved a _ _ (sym now)
                  (in_right a (places (suc d) am.before)
                  ((addr_of am.child.word ∷ places d w.items) ++ places (suc d) am.after)
                  (in_right a (addr_of am.child.word ∷ places d w.items) (places (suc d) am.after) t))))
            ]
          ];
      here = w.frame at (left_else at (inl refl));
    }

-- the child still has enough
pub shrunk_firm : (R : Addr → Bool) (s u : State) (owner least d : ℕ) (lo : Bound) (b : Branch (Branch (Item d)))
    (hi : Bound) (want : List Entry) (before : List (Branch (Item d))) (new : Branch (Item d))
    (after : List (Branch (Item d))) → Sub R s owner least (suc d) lo b hi
    → map (spell (suc d)) (before ++ new ∷ after) ≡ map (spell (suc d)) b.items → 16 ≤ length (map (spell d) new.items)
    → Less R s u owner d lo hi (addr_of b.word) b.items before new after want
    → Shrunk R s u owner least (suc d) lo b hi want false
shrunk_firm R s u owner least d lo b hi want before new after sub same long l =
    let n = sub.node in
    let many = n.many in
    let child_few = l.node.few in
    let nk : Node R u owner 16 (addr_of new.word) (map (spell d) new.items) =
    record { reached = l.node.reached; bytes = l.node.bytes; fits = l.node.fits; many = long; few = child_few } in
    let un : Node R u owner least (addr_of b.word) (map (spell (suc d)) b.items) =
    node_kept R s u owner least (addr_of b.word) (map (spell (suc d)) b.items) n l.here in
    let un2 : Node R u owner least (addr_of b.word) (map (spell (suc d)) (before ++ new ∷ after)) =
    subst (λ (x : List Entry). Node R u owner least (addr_of b.word) x) (sym same) un in
    let m2 = un2.many in
    record {
      items = before ++ new ∷ after;
      ways = l.ways;
      node = record { reached = un2.reached; bytes = un2.bytes; fits = un2.fits; many = omega arith; few = un2.few };
      loose = omega (arith, m2);
      firm = λ z. un2.many;
      stand = all_join (Stands R u owner (suc d)) before (new ∷ after) l.before_stand ((nk, l.stand), l.after_stand);
      content = l.content;
      distinct = l.distinct;
      within = l.within;
      frame = l.frame;
      gone = λ a i n2. elim i [ inl q ↦ absurd (n2 (inl q)) | inr j ↦ l.gone a j (λ k. n2 (inr k)) ];
    }

-- a place is in a list or not
pub at_or : (a : Addr) (xs : List Addr) → IsAmong a xs ⊎ (IsAmong a xs → ⊥)
at_or a [] = inr (λ i. i)
at_or a (x ∷ xs) = elim (place_or a x) [
  | inl e ↦ inl (inl (sym e))
  | inr f ↦ elim (at_or a xs) [
    | inl i ↦ inl (inr i)
    | inr n ↦
        inr (λ i. elim i [ inl e ↦ unlike a x f (sym e) | inr j ↦ n j ])
  ]
]

gone_then : (u t : State) (a : Addr) (mid new : List Addr) → IsAmong a mid ⊎ (IsAmong a mid → ⊥)
    → (IsAmong a mid → t a ≡ None) → ((IsAmong a mid → ⊥) → u a ≡ None) → ((IsAmong a mid → ⊥) → t a ≡ u a) → t a ≡ None
gone_then u t a mid new (inl i) f g same = f i
gone_then u t a mid new (inr n) f g same = same n ∙ g n

-- two neighbours were joined
pub shrunk_settled : (R : Addr → Bool) (s u t : State) (owner least d : ℕ) (lo : Bound) (b : Branch (Branch (Item d)))
    (hi : Bound) (want : List Entry) (before : List (Branch (Item d))) (child : Branch (Item d))
    (after new : List (Branch (Item d))) (es : List Entry) (thin : Bool) → Sub R s owner least (suc d) lo b hi
    → Less R s u owner d lo hi (addr_of b.word) b.items before child after want
    → Settled R u t owner d lo hi (addr_of b.word) (before ++ child ∷ after) es new
    → t (addr_of b.word) ≡ Some (node_bytes owner es) → AllByRecursion IsEntry es → length es ≤ 32
    → least ≤ length es + 1 → (thin ≡ false → least ≤ length es) → Shrunk R s t owner least (suc d) lo b hi want thin
shrunk_settled R s u t owner least d lo b hi want before child after new es thin sub l w bytes fits few loose firm =
    record {
      items = new;
      ways = w.ways;
      node = record {
        reached = sub.node.reached;
        bytes = bytes ∙
            ap (λ (x : List Entry). Some (node_bytes owner x)) (sym w.spelled);
        fits =
            subst (λ (x : List Entry). AllByRecursion IsEntry x) (sym w.spelled) fits;
        many = omega arith;
        few =
            subst (λ (x : List Entry). length x ≤ 32) (sym w.spelled) few;
      };
      loose = subst (λ (x : List Entry). least ≤ length x + 1) (sym w.spelled) loose;
      firm = λ z. subst (λ (x : List Entry). least ≤ length x) (sym w.spelled) (firm z);
      stand = w.stand;
      content = w.content ∙ l.content;
      distinct = w.distinct;
      within = λ a i. l.within a (w.within a i);
      frame = λ a n. w.frame a (λ i. n (elim i [ inl q ↦ inl q | inr j ↦ inr (l.within a j) ])) ∙ l.frame a n;
      gone = λ a i n. elim i [
        | inl q ↦ absurd (n (inl q))
        | inr j ↦ gone_then u t a (places (suc d) (before ++ child ∷ after)) (places (suc d) new)
            (at_or a (places (suc d) (before ++ child ∷ after))) (λ k. w.gone a k (λ m. n (inr m))) (λ k. l.gone a j k)
            (λ k. w.frame a (λ v. elim v [ inl q ↦ n (inl q) | inr m ↦ k m ]))
      ];
    }
