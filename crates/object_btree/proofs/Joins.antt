-- Two neighbours that became one or shared anew, and the node above them.
use Rattle.std.proofs.Common.{◌≡◌, ◌⊎◌, inl, inr, ℕ, suc, ◌≤◌, Bool, List, ◌∷◌, ◌++◌, length, None, refl, sym, ap, subst, ◌∙◌, append_assoc, arith}
use Rattle.std.specs.Prelude.{map}
use Rattle.std.specs.List.{AllByRecursion}
use Rattle.a1_base.specs.Lists.{IsAmong}
use Rattle.a1_base.specs.declared.place.Addr.{Addr}
use Rattle.object_view.specs.Agreement.{State}
use Rattle.object_view.specs.Layout.{Entry, IsEntry, addr_of}
use Rattle.object_view.specs.Keys.{Bound}
use Rattle.object_view.specs.Trees.{Branch, Item, spell, content, homes, Gap, Spans, Node, Stands, Ways, contents, places, Stand, Distinct}
use Rattle.object_btree.specs.Steps.{Merged}
use Rattle.object_btree.proofs.Paths.{flat_join, map_join, Cut, ways_cut, ways_join}
use Rattle.object_view.proofs.Reading.{all_join}
use Rattle.object_view.proofs.Standing.{in_left, in_right, in_or, stand_kept, Parts, distinct_parts, distinct_join}
use Rattle.object_btree.proofs.Grows.{moved}

-- a node's items, of which two neighbours are to be joined: each stands but for the number of its entries
pub record Two (R : Addr → Bool) (u : State) (owner d : ℕ) (lo hi : Bound) (at : Addr) (before : List (Branch (Item d)))
    (x y : Branch (Item d)) (after : List (Branch (Item d))) : Type 0 where
  pub ways : Ways (suc d) lo (before ++ x ∷ y ∷ after) hi
  pub before_stand : Stand R u owner (suc d) before
  pub after_stand : Stand R u owner (suc d) after
  pub left_node : Node R u owner 0 (addr_of x.word) (map (spell d) x.items)
  pub right_node : Node R u owner 0 (addr_of y.word) (map (spell d) y.items)
  pub left_stand : Stand R u owner d x.items
  pub right_stand : Stand R u owner d y.items
  pub distinct : Distinct (at ∷ places (suc d) (before ++ x ∷ y ∷ after))

-- what is to stand below the node
pub record Settled (R : Addr → Bool) (u t : State) (owner d : ℕ) (lo hi : Bound) (at : Addr)
    (old : List (Branch (Item d))) (es : List Entry) (new : List (Branch (Item d))) : Type 0 where
  pub ways : Ways (suc d) lo new hi
  pub stand : Stand R t owner (suc d) new
  pub spelled : map (spell (suc d)) new ≡ es
  pub content : contents (suc d) new ≡ contents (suc d) old
  pub distinct : Distinct (at ∷ places (suc d) new)
  pub within : (a : Addr) → IsAmong a (places (suc d) new) → IsAmong a (places (suc d) old)
  pub frame : (a : Addr) → (IsAmong a (at ∷ places (suc d) old) → ⊥) → t a ≡ u a
  pub gone : (a : Addr) → IsAmong a (places (suc d) old) → (IsAmong a (places (suc d) new) → ⊥) → t a ≡ None

-- where each part of the places stands
pub record Spots (d : ℕ) (at : Addr) (before : List (Branch (Item d))) (x y : Branch (Item d))
    (after : List (Branch (Item d))) : Type 0 where
  pub split : places (suc d) (before ++ x ∷ y ∷ after) ≡ places (suc d) before ++
      ((addr_of x.word ∷ places d x.items) ++ ((addr_of y.word ∷ places d y.items) ++ places (suc d) after))
  pub outer : Parts (at ∷ places (suc d) before)
      ((addr_of x.word ∷ places d x.items) ++ ((addr_of y.word ∷ places d y.items) ++ places (suc d) after))
  pub middle : Parts (addr_of x.word ∷ places d x.items) ((addr_of y.word ∷ places d y.items) ++ places (suc d) after)
  pub inner : Parts (addr_of y.word ∷ places d y.items) (places (suc d) after)

pub spots : (d : ℕ) (at : Addr) (before : List (Branch (Item d))) (x y : Branch (Item d))
    (after : List (Branch (Item d))) → Distinct (at ∷ places (suc d) (before ++ x ∷ y ∷ after))
    → Spots d at before x y after
spots d at before x y after dist =
    let e : places (suc d) (before ++ x ∷ y ∷ after) ≡ places (suc d) before ++
    ((addr_of x.word ∷ places d x.items) ++ ((addr_of y.word ∷ places d y.items) ++ places (suc d) after)) =
    flat_join (homes (suc d)) before (x ∷ y ∷ after) in
    let dd : Distinct ((at ∷ places (suc d) before) ++
    ((addr_of x.word ∷ places d x.items) ++ ((addr_of y.word ∷ places d y.items) ++ places (suc d) after))) =
    subst (λ (z : List Addr). Distinct (at ∷ z)) e dist in
    let o = distinct_parts (at ∷ places (suc d) before)
    ((addr_of x.word ∷ places d x.items) ++ ((addr_of y.word ∷ places d y.items) ++ places (suc d) after)) dd in
    let m = distinct_parts (addr_of x.word ∷ places d x.items)
    ((addr_of y.word ∷ places d y.items) ++ places (suc d) after) o.right in
    let i = distinct_parts (addr_of y.word ∷ places d y.items) (places (suc d) after) m.right in
    record { split = e; outer = o; middle = m; inner = i }

abbrev content_of : (d : ℕ) → Branch (Item d) → List Entry
content_of d b = content (suc d) b

pub settle_merged : (R : Addr → Bool) (u t : State) (owner d : ℕ) (lo hi : Bound) (at : Addr)
    (before : List (Branch (Item d))) (x y : Branch (Item d)) (after : List (Branch (Item d))) (low : List Entry)
    (e : Entry) (high both : List Entry) (thin : Bool) → Two R u owner d lo hi at before x y after
    → map (spell (suc d)) before ≡ low → spell (suc d) x ≡ e → map (spell (suc d)) after ≡ high
    → both ≡ map (spell d) x.items ++ map (spell d) y.items → 31 ≤ length both
    → Merged u t owner at (addr_of x.word) (addr_of y.word) low e high both thin
    → Settled R u t owner d lo hi at (before ++ x ∷ y ∷ after) (low ++ e ∷ high)
    (before ++ record { key = x.key; word = x.word; items = x.items ++ y.items } ∷ after)
settle_merged R u t owner d lo hi at before x y after low e high both thin two el ee eh eb long m =
    let sp : Spots d at before x y after = spots d at before x y after two.distinct in
    let c : Cut (Gap (suc d)) (Spans (suc d)) lo before (x ∷ y ∷ after) hi =
    ways_cut (suc d) before (x ∷ y ∷ after) lo hi two.ways in
    let r = c.right in
    let z : Branch (Item d) = record { key = x.key; word = x.word; items = x.items ++ y.items } in
    let pz : places d (x.items ++ y.items) ≡ places d x.items ++ places d y.items =
    flat_join (homes d) x.items y.items in
    let hz : homes (suc d) z ≡ addr_of x.word ∷ (places d x.items ++ places d y.items) =
    ap (λ t. addr_of x.word ∷ t) pz in
    let zw : Spans (suc d) c.mid z r.2.0 = (r.1.0, ways_join d x.items y.items c.mid r.0 r.2.0 r.1.1 r.2.1.1) in
    let xa : Addr = addr_of x.word in
    let ya : Addr = addr_of y.word in
    let bx : (a : Addr) → IsAmong a (places (suc d) before) → t a ≡ u a = λ a i. m.frame a
    (λ q. sp.outer.left.0 (subst (λ (w : Addr). IsAmong w (places (suc d) before)) q i))
    (λ q. sp.outer.apart a (inr i) (inl (sym q)))
    (λ q. sp.outer.apart a (inr i)
    (in_right a (addr_of x.word ∷ places d x.items) ((addr_of y.word ∷ places d y.items) ++ places (suc d) after)
    (inl (sym q)))) in
    let xx : (a : Addr) → IsAmong a (places d x.items) → t a ≡ u a = λ a i. m.frame a
    (λ q. sp.outer.apart a (inl (sym q))
    (in_left a (addr_of x.word ∷ places d x.items) ((addr_of y.word ∷ places d y.items) ++ places (suc d) after)
    (inr i)))
    (λ q. sp.middle.left.0 (subst (λ (w : Addr). IsAmong w (places d x.items)) q i))
    (λ q. sp.middle.apart a (inr i) (inl (sym q))) in
    let yy : (a : Addr) → IsAmong a (places d y.items) → t a ≡ u a = λ a i. m.frame a
    (λ q. sp.outer.apart a (inl (sym q))
    (in_right a (addr_of x.word ∷ places d x.items) ((addr_of y.word ∷ places d y.items) ++ places (suc d) after)
    (inr (in_left a (places d y.items) (places (suc d) after) i))))
    (λ q. sp.middle.apart a (inl (sym q)) (inr (in_left a (places d y.items) (places (suc d) after) i)))
    (λ q. sp.inner.left.0 (subst (λ (w : Addr). IsAmong w (places d y.items)) q i)) in
    let aa : (a : Addr) → IsAmong a (places (suc d) after) → t a ≡ u a = λ a i. m.frame a
    (λ q. sp.outer.apart a (inl (sym q))
    (in_right a (addr_of x.word ∷ places d x.items) ((addr_of y.word ∷ places d y.items) ++ places (suc d) after)
    (in_right a (addr_of y.word ∷ places d y.items) (places (suc d) after) i)))
    (λ q. sp.middle.apart a (inl (sym q)) (in_right a (addr_of y.word ∷ places d y.items) (places (suc d) after) i))
    (λ q. sp.inner.apart a (inl (sym q)) i) in
    let ez : map (spell d) (x.items ++ y.items) ≡ both = map_join (spell d) x.items y.items ∙ sym eb in
    let fb : AllByRecursion IsEntry both =
    subst (λ (w : List Entry). AllByRecursion IsEntry w) (sym eb)
    (all_join IsEntry (map (spell d) x.items) (map (spell d) y.items) two.left_node.fits two.right_node.fits) in
    let few = m.few in
    let nz : Node R t owner 16 (addr_of x.word) both =
    record { reached = two.left_node.reached; bytes = m.left_at; fits = fb; many = omega (arith, long); few = few } in
    let nz2 : Node R t owner 16 (addr_of x.word) (map (spell d) (x.items ++ y.items)) =
    subst (λ (w : List Entry). Node R t owner 16 (addr_of x.word) w) (sym ez) nz in
    let sz : Stand R t owner d (x.items ++ y.items) =
    all_join (Stands R t owner d) x.items y.items (stand_kept R u t owner d x.items two.left_stand xx)
    (stand_kept R u t owner d y.items two.right_stand yy) in
    let now : places (suc d) (before ++ z ∷ after) ≡ places (suc d) before ++
    ((addr_of x.word ∷ (places d x.items ++ places d y.items)) ++ places (suc d) after) =
    flat_join (homes (suc d)) before (z ∷ after) ∙
    ap (λ w. places (suc d) before ++ (w ++ places (suc d) after)) hz in
    let xy : Distinct (places d x.items ++ places d y.items) =
    distinct_join (places d x.items) (places d y.items) sp.middle.left.1 sp.inner.left.1
    (λ a i j. sp.middle.apart a (inr i) (inr (in_left a (places d y.items) (places (suc d) after) j))) in
    let xxy : Distinct (addr_of x.word ∷ (places d x.items ++ places d y.items)) = (
      λ i. elim (in_or (addr_of x.word) (places d x.items) (places d y.items) i) [
        | inl l ↦ sp.middle.left.0 l
        | inr j ↦
            sp.middle.apart (addr_of x.word) (inl refl)
            (inr (in_left (addr_of x.word) (places d y.items) (places (suc d) after) j))
      ],
      xy,
    ) in
    let to_mid : (a : Addr) → IsAmong a (addr_of x.word ∷ (places d x.items ++ places d y.items))
    → IsAmong a (addr_of x.word ∷ places d x.items) ⊎ IsAmong a (places d y.items) = λ a i. elim i [
      | inl q ↦ inl (inl q)
      | inr j ↦ elim (in_or a (places d x.items) (places d y.items) j) [ inl l ↦ inl (inr l) | inr k ↦ inr k ]
    ] in
    let xya : Distinct ((addr_of x.word ∷ (places d x.items ++ places d y.items)) ++ places (suc d) after) =
    distinct_join (addr_of x.word ∷ (places d x.items ++ places d y.items)) (places (suc d) after) xxy sp.inner.right
    (λ a i j. elim (to_mid a i) [
      | inl l ↦
          sp.middle.apart a l (in_right a (addr_of y.word ∷ places d y.items) (places (suc d) after) j)
      | inr k ↦
          sp.inner.apart a (inr k) j
    ]) in
    let from_mid : (a : Addr)
    → IsAmong a ((addr_of x.word ∷ (places d x.items ++ places d y.items)) ++ places (suc d) after)
    → IsAmong a ((addr_of x.word ∷ places d x.items) ++ ((addr_of y.word ∷ places d y.items) ++ places (suc d) after))
    = λ a i. elim (in_or a (addr_of x.word ∷ (places d x.items ++ places d y.items)) (places (suc d) after) i) [
      | inl l ↦ elim (to_mid a l) [
        | inl k ↦
            in_left a (addr_of x.word ∷ places d x.items)
            ((addr_of y.word ∷ places d y.items) ++ places (suc d) after) k
        | inr k ↦ in_right a (addr_of x.word ∷ places d x.items)
            ((addr_of y.word ∷ places d y.items) ++ places (suc d) after)
            (inr (in_left a (places d y.items) (places (suc d) after) k))
      ]
      | inr k ↦ in_right a (addr_of x.word ∷ places d x.items)
          ((addr_of y.word ∷ places d y.items) ++ places (suc d) after)
          (in_right a (addr_of y.word ∷ places d y.items) (places (suc d) after) k)
    ] in
    let dist : Distinct ((at ∷ places (suc d) before) ++
    ((addr_of x.word ∷ (places d x.items ++ places d y.items)) ++ places (suc d) after)) =
    distinct_join (at ∷ places (suc d) before)
    ((addr_of x.word ∷ (places d x.items ++ places d y.items)) ++ places (suc d) after) sp.outer.left xya
    (λ a i j. sp.outer.apart a i (from_mid a j)) in
    let within : (a : Addr) → IsAmong a (places (suc d) (before ++ z ∷ after))
    → IsAmong a (places (suc d) (before ++ x ∷ y ∷ after)) =
    λ a i. moved a _ _ (sym sp.split)
    (elim (in_or a (places (suc d) before)
    ((addr_of x.word ∷ (places d x.items ++ places d y.items)) ++ places (suc d) after) (moved a _ _ now i)) [
      | inl l ↦ in_left a (places (suc d) before)
          ((addr_of x.word ∷ places d x.items) ++ ((addr_of y.word ∷ places d y.items) ++ places (suc d) after)) l
      | inr k ↦ in_right a (places (suc d) before)
          ((addr_of x.word ∷ places d x.items) ++ ((addr_of y.word ∷ places d y.items) ++ places (suc d) after))
          (from_mid a k)
    ]) in
    let back : (a : Addr) → IsAmong a (places (suc d) (before ++ x ∷ y ∷ after))
    → IsAmong a (places (suc d) (before ++ z ∷ after)) ⊎ (a ≡ addr_of y.word) =
    λ a i. elim (in_or a (places (suc d) before)
    ((addr_of x.word ∷ places d x.items) ++ ((addr_of y.word ∷ places d y.items) ++ places (suc d) after))
    (moved a _ _ sp.split i)) [
      | inl l ↦ inl (moved a _ _ (sym now)
          (in_left a (places (suc d) before)
          ((addr_of x.word ∷ (places d x.items ++ places d y.items)) ++ places (suc d) after) l))
      | inr w ↦ elim (in_or a (addr_of x.word ∷ places d x.items)
          ((addr_of y.word ∷ places d y.items) ++ places (suc d) after) w) [
            | inl l ↦ inl (moved a _ _ (sym now)
                (in_right a (places (suc d) before)
                ((addr_of x.word ∷ (places d x.items ++ places d y.items)) ++ places (suc d) after)
                (in_left a (addr_of x.word ∷ (places d x.items ++ places d y.items)) (places (suc d) after)
                (elim l [ inl q ↦ inl q | inr k ↦ inr (in_left a (places d x.items) (places d y.items) k) ]))))
            | inr v ↦ elim v [
              | inl q ↦ inr (sym q)
              | inr v2 ↦ elim (in_or a (places d y.items) (places (suc d) after) v2) [
                | inl k ↦ inl (moved a _ _ (sym now)
                    (in_right a (places (suc d) before)
                    ((addr_of x.word ∷ (places d x.items ++ places d y.items)) ++ places (suc d) after)
                    (in_left a (addr_of x.word ∷ (places d x.items ++ places d y.items)) (places (suc d) after)
                    (inr (in_right a (places d x.items) (places d y.items) k)))))
                | inr k ↦ inl (moved a _ _ (sym now)
                    (in_right a (places (suc d) before)
                    ((addr_of x.word ∷ (places d x.items ++ places d y.items)) ++ places (suc d) after)
                    (in_right a (addr_of x.word ∷ (places d x.items ++ places d y.items)) (places (suc d) after) k)))
              ]
            ]
          ]
    ] in
    record {
      ways = ways_join (suc d) before (z ∷ after) lo c.mid hi c.left (r.2.0, zw, r.2.2);
      stand = all_join (Stands R t owner (suc d)) before (z ∷ after)
          (stand_kept R u t owner (suc d) before two.before_stand bx)
          ((nz2, sz), stand_kept R u t owner (suc d) after two.after_stand aa);
      spelled = map_join (spell (suc d)) before (z ∷ after) ∙
          ap (λ w. w ++ spell (suc d) x ∷ map (spell (suc d)) after) el ∙
          ap (λ w. low ++ w ∷ map (spell (suc d)) after) ee ∙ ap (λ w. low ++ e ∷ w) eh;
      content = flat_join (content_of d) before (z ∷ after) ∙
          ap (λ w. contents (suc d) before ++ (w ++ contents (suc d) after)) (flat_join (content d) x.items y.items) ∙
          ap (λ w. contents (suc d) before ++ w)
          (append_assoc (contents d x.items) (contents d y.items) (contents (suc d) after)) ∙
          sym (flat_join (content_of d) before (x ∷ y ∷ after));
      distinct = subst (λ (w : List Addr). Distinct (at ∷ w)) (sym now) dist;
      within = within;
      frame = λ a n. m.frame a (λ q. n (inl (sym q)))
          (λ q. n (inr (moved a _ _ (sym sp.split)
          (in_right a (places (suc d) before)
          ((addr_of x.word ∷ places d x.items) ++ ((addr_of y.word ∷ places d y.items) ++ places (suc d) after))
          (inl (sym q))))))
          (λ q. n (inr (moved a _ _ (sym sp.split)
          (in_right a (places (suc d) before)
          ((addr_of x.word ∷ places d x.items) ++ ((addr_of y.word ∷ places d y.items) ++ places (suc d) after))
          (in_right a (addr_of x.word ∷ places d x.items) ((addr_of y.word ∷ places d y.items) ++ places (suc d) after)
          (inl (sym q)))))));
      gone = λ a i n. elim (back a i) [ inl k ↦ absurd (n k) | inr q ↦ ap t q ∙ m.right_at ];
    }
