-- Two neighbours that shared their entries anew, and the node above them.
use Rattle.std.proofs.Common.{◌≡◌, inl, inr, ℕ, suc, Bool, List, ◌∷◌, ◌++◌, Some, refl, sym, ap, subst, ◌∙◌, append_assoc}
use Rattle.std.specs.Prelude.{map}
use Rattle.std.specs.List.{AllByRecursion}
use Rattle.a1_base.specs.Lists.{IsAmong}
use Rattle.a1_base.specs.declared.place.Addr.{Addr}
use Rattle.object_view.specs.Agreement.{State}
use Rattle.object_view.specs.Layout.{Entry, IsEntry, addr_of}
use Rattle.object_view.specs.Keys.{Bound}
use Rattle.object_view.specs.Trees.{Branch, Item, spell, content, homes, Gap, Spans, Node, Stands, Ways, contents, places, Stand, Distinct}
use Rattle.object_btree.specs.Steps.{Shared}
use Rattle.object_btree.proofs.Paths.{flat_join, map_join, all_left, all_right, Cut, ways_cut, ways_join, Halves, ways_halves}
use Rattle.object_view.proofs.Reading.{all_join}
use Rattle.object_view.proofs.Standing.{in_left, in_right, in_or, stand_kept, Parts, distinct_parts, distinct_join}
use Rattle.object_btree.proofs.Grows.{moved, Parted, parted}
use Rattle.object_btree.proofs.Joins.{Two, Settled, Spots, spots}

abbrev content_of : (d : ℕ) → Branch (Item d) → List Entry
content_of d b = content (suc d) b

pub settle_shared : (R : Addr → Bool) (u t : State) (owner d : ℕ) (lo hi : Bound) (at : Addr)
    (before : List (Branch (Item d))) (x y : Branch (Item d)) (after : List (Branch (Item d))) (low : List Entry)
    (e : Entry) (high both : List Entry) (thin : Bool) → Two R u owner d lo hi at before x y after
    → map (spell (suc d)) before ≡ low → spell (suc d) x ≡ e → map (spell (suc d)) after ≡ high
    → both ≡ map (spell d) x.items ++ map (spell d) y.items
    → (w : Shared u t owner at (addr_of x.word) (addr_of y.word) y.word low e high both thin)
    → (new : List (Branch (Item d))) ×
    Settled R u t owner d lo hi at (before ++ x ∷ y ∷ after)
    (low ++ e ∷ record { key = w.here.key; word = y.word } ∷ high) new
settle_shared R u t owner d lo hi at before x y after low e high both thin two el ee eh eb w =
    let sp : Spots d at before x y after = spots d at before x y after two.distinct in
    let c : Cut (Gap (suc d)) (Spans (suc d)) lo before (x ∷ y ∷ after) hi =
    ways_cut (suc d) before (x ∷ y ∷ after) lo hi two.ways in
    let r = c.right in
    let ez : map (spell d) (x.items ++ y.items) ≡ w.left ++ w.here ∷ w.right = map_join (spell d) x.items y.items ∙
    sym eb ∙ w.are in
    let p : Parted d (x.items ++ y.items) w.left w.here w.right =
    parted d (x.items ++ y.items) w.left w.here w.right ez in
    let px : List Addr = places d x.items in
    let py : List Addr = places d y.items in
    let pairs : places d x.items ++ places d y.items ≡ places d p.low ++ places d (p.mid ∷ p.high) =
    sym (flat_join (homes d) x.items y.items) ∙ ap (places d) p.are ∙ flat_join (homes d) p.low (p.mid ∷ p.high) in
    let inx : (a : Addr) → IsAmong a (places d x.items) → IsAmong a (places d x.items ++ places d y.items) =
    λ a i. in_left a (places d x.items) (places d y.items) i in
    let iny : (a : Addr) → IsAmong a (places d y.items) → IsAmong a (places d x.items ++ places d y.items) =
    λ a i. in_right a (places d x.items) (places d y.items) i in
    let outl : (a : Addr) → IsAmong a (places d p.low) → IsAmong a (places d x.items ++ places d y.items) =
    λ a i. moved a _ _ (sym pairs) (in_left a (places d p.low) (places d (p.mid ∷ p.high)) i) in
    let outr : (a : Addr) → IsAmong a (places d (p.mid ∷ p.high)) → IsAmong a (places d x.items ++ places d y.items) =
    λ a i. moved a _ _ (sym pairs) (in_right a (places d p.low) (places d (p.mid ∷ p.high)) i) in
    let rest : List Addr = (addr_of y.word ∷ places d y.items) ++ places (suc d) after in
    let nx : IsAmong (addr_of x.word) (places d x.items ++ places d y.items) → ⊥ =
    λ i. elim (in_or (addr_of x.word) (places d x.items) (places d y.items) i) [
      | inl k ↦ sp.middle.left.0 k
      | inr k ↦
          sp.middle.apart (addr_of x.word) (inl refl)
          (inr (in_left (addr_of x.word) (places d y.items) (places (suc d) after) k))
    ] in
    let ny : IsAmong (addr_of y.word) (places d x.items ++ places d y.items) → ⊥ =
    λ i. elim (in_or (addr_of y.word) (places d x.items) (places d y.items) i)
    [ inl k ↦ sp.middle.apart (addr_of y.word) (inr k) (inl refl) | inr k ↦ sp.inner.left.0 k ] in
    let pa : (a : Addr) → IsAmong a (places d x.items ++ places d y.items) → IsAmong a (places (suc d) after) → ⊥ =
    λ a i j. elim (in_or a (places d x.items) (places d y.items) i) [
      | inl k ↦ sp.middle.apart a (inr k) (in_right a (addr_of y.word ∷ places d y.items) (places (suc d) after) j)
      | inr k ↦ sp.inner.apart a (inr k) j
    ] in
    let all : (a : Addr) → IsAmong a (places d x.items ++ places d y.items)
    → IsAmong a ((addr_of x.word ∷ places d x.items) ++ ((addr_of y.word ∷ places d y.items) ++ places (suc d) after))
    = λ a i. elim (in_or a (places d x.items) (places d y.items) i) [
      | inl k ↦ in_left a (addr_of x.word ∷ places d x.items)
          ((addr_of y.word ∷ places d y.items) ++ places (suc d) after) (inr k)
      | inr k ↦
          in_right a (addr_of x.word ∷ places d x.items) ((addr_of y.word ∷ places d y.items) ++ places (suc d) after)
          (inr (in_left a (places d y.items) (places (suc d) after) k))
    ] in
    let ally : IsAmong (addr_of y.word)
    ((addr_of x.word ∷ places d x.items) ++ ((addr_of y.word ∷ places d y.items) ++ places (suc d) after)) =
    in_right (addr_of y.word) (addr_of x.word ∷ places d x.items)
    ((addr_of y.word ∷ places d y.items) ++ places (suc d) after) (inl refl) in
    let alla : (a : Addr) → IsAmong a (places (suc d) after)
    → IsAmong a ((addr_of x.word ∷ places d x.items) ++ ((addr_of y.word ∷ places d y.items) ++ places (suc d) after))
    = λ a i. in_right a (addr_of x.word ∷ places d x.items)
    ((addr_of y.word ∷ places d y.items) ++ places (suc d) after)
    (in_right a (addr_of y.word ∷ places d y.items) (places (suc d) after) i) in
    let bx : (a : Addr) → IsAmong a (places (suc d) before) → t a ≡ u a = λ a i. w.frame a
    (λ q. sp.outer.left.0 (subst (λ (v : Addr). IsAmong v (places (suc d) before)) q i))
    (λ q. sp.outer.apart a (inr i) (inl (sym q)))
    (λ q. sp.outer.apart (addr_of y.word) (inr (subst (λ (v : Addr). IsAmong v (places (suc d) before)) q i)) ally) in
    let xy : (a : Addr) → IsAmong a (places d x.items ++ places d y.items) → t a ≡ u a = λ a i. w.frame a
    (λ q. sp.outer.apart a (inl (sym q)) (all a i))
    (λ q. nx (subst (λ (v : Addr). IsAmong v (places d x.items ++ places d y.items)) q i))
    (λ q. ny (subst (λ (v : Addr). IsAmong v (places d x.items ++ places d y.items)) q i)) in
    let aa : (a : Addr) → IsAmong a (places (suc d) after) → t a ≡ u a = λ a i. w.frame a
    (λ q. sp.outer.apart a (inl (sym q)) (alla a i))
    (λ q. sp.middle.apart a (inl (sym q)) (in_right a (addr_of y.word ∷ places d y.items) (places (suc d) after) i))
    (λ q. sp.inner.apart a (inl (sym q)) i) in
    let fb : AllByRecursion IsEntry (w.left ++ w.here ∷ w.right) =
    subst (λ (v : List Entry). AllByRecursion IsEntry v) (sym eb ∙ w.are)
    (all_join IsEntry (map (spell d) x.items) (map (spell d) y.items) two.left_node.fits two.right_node.fits) in
    let nl : Node R t owner 16 (addr_of x.word) w.left =
    record {
      reached = two.left_node.reached;
      bytes = w.left_at;
      fits = all_left IsEntry w.left (w.here ∷ w.right) fb;
      many = w.left_many;
      few = w.left_few;
    } in
    let nr : Node R t owner 16 (addr_of y.word) (w.here ∷ w.right) =
    record {
      reached = two.right_node.reached;
      bytes = w.right_at;
      fits =
          all_right IsEntry w.left (w.here ∷ w.right) fb;
      many = w.right_many;
      few = w.right_few;
    } in
    let nl2 : Node R t owner 16 (addr_of x.word) (map (spell d) p.low) =
    subst (λ (v : List Entry). Node R t owner 16 (addr_of x.word) v) (sym p.low_is) nl in
    let nr2 : Node R t owner 16 (addr_of y.word) (map (spell d) (p.mid ∷ p.high)) =
    subst (λ (v : List Entry). Node R t owner 16 (addr_of y.word) v) (sym p.high_is) nr in
    let st : Stand R t owner d (x.items ++ y.items) =
    stand_kept R u t owner d (x.items ++ y.items)
    (all_join (Stands R u owner d) x.items y.items two.left_stand two.right_stand)
    (λ a i. xy a (moved a _ _ (flat_join (homes d) x.items y.items) i)) in
    let st2 : Stand R t owner d (p.low ++ p.mid ∷ p.high) =
    subst (λ (v : List (Item d)). Stand R t owner d v) p.are st in
    let sl : Stand R t owner d p.low = all_left (Stands R t owner d) p.low (p.mid ∷ p.high) st2 in
    let sr : Stand R t owner d (p.mid ∷ p.high) = all_right (Stands R t owner d) p.low (p.mid ∷ p.high) st2 in
    let k : w.here.key ≡ (spell d p.mid).key = ap (λ (v : Entry). v.key) (sym p.mid_is) in
    let wz : Ways d c.mid (x.items ++ y.items) r.2.0 = ways_join d x.items y.items c.mid r.0 r.2.0 r.1.1 r.2.1.1 in
    let h : Halves d c.mid p.low p.mid p.high r.2.0 =
    ways_halves d c.mid p.low p.mid p.high r.2.0 (subst (λ (v : List (Item d)). Ways d c.mid v r.2.0) p.are wz) in
    let hl : Ways d c.mid p.low (Some w.here.key) =
    subst (λ (v : List ℕ). Ways d c.mid p.low (Some v)) (sym k) h.left in
    let hr : Ways d (Some w.here.key) (p.mid ∷ p.high) r.2.0 =
    subst (λ (v : List ℕ). Ways d (Some v) (p.mid ∷ p.high) r.2.0) (sym k) h.right in
    let x2 : Branch (Item d) = record { key = x.key; word = x.word; items = p.low } in
    let y2 : Branch (Item d) = record { key = w.here.key; word = y.word; items = p.mid ∷ p.high } in
    let now : places (suc d) (before ++ x2 ∷ y2 ∷ after) ≡ places (suc d) before ++
    ((addr_of x.word ∷ places d p.low) ++ ((addr_of y.word ∷ places d (p.mid ∷ p.high)) ++ places (suc d) after)) =
    flat_join (homes (suc d)) before (x2 ∷ y2 ∷ after) in
    let dxy : Distinct (places d x.items ++ places d y.items) =
    distinct_join (places d x.items) (places d y.items) sp.middle.left.1 sp.inner.left.1
    (λ a i j. sp.middle.apart a (inr i) (inr (in_left a (places d y.items) (places (suc d) after) j))) in
    let dp : Parts (places d p.low) (places d (p.mid ∷ p.high)) =
    distinct_parts (places d p.low) (places d (p.mid ∷ p.high)) (subst (λ (v : List Addr). Distinct v) pairs dxy) in
    let d1 : Distinct ((addr_of y.word ∷ places d (p.mid ∷ p.high)) ++ places (suc d) after) =
    distinct_join (addr_of y.word ∷ places d (p.mid ∷ p.high)) (places (suc d) after)
    (λ i. ny (outr (addr_of y.word) i), dp.right) sp.inner.right
    (λ a i j. elim i [ inl q ↦ sp.inner.apart a (inl q) j | inr v ↦ pa a (outr a v) j ]) in
    let d2 : Distinct ((addr_of x.word ∷ places d p.low) ++
    ((addr_of y.word ∷ places d (p.mid ∷ p.high)) ++ places (suc d) after)) =
    distinct_join (addr_of x.word ∷ places d p.low)
    ((addr_of y.word ∷ places d (p.mid ∷ p.high)) ++ places (suc d) after)
    (λ i. nx (outl (addr_of x.word) i), dp.left) d1
    (λ a i j. elim (in_or a (addr_of y.word ∷ places d (p.mid ∷ p.high)) (places (suc d) after) j) [
      | inl l ↦ elim l [
        | inl q ↦ elim i [
          | inl q2 ↦ sp.middle.apart a (inl q2) (inl q)
          | inr v ↦
              ny (subst (λ (z : Addr). IsAmong z (places d x.items ++ places d y.items)) (sym q) (outl a v))
        ]
        | inr l2 ↦ elim i [
          | inl q2 ↦
              nx (subst (λ (z : Addr). IsAmong z (places d x.items ++ places d y.items)) (sym q2) (outr a l2))
          | inr v ↦
              dp.apart a v l2
        ]
      ]
      | inr l ↦ elim i [
        | inl q2 ↦
            sp.middle.apart a (inl q2) (in_right a (addr_of y.word ∷ places d y.items) (places (suc d) after) l)
        | inr v ↦
            pa a (outl a v) l
      ]
    ]) in
    let into : (a : Addr)
    → IsAmong a ((addr_of x.word ∷ places d p.low) ++
    ((addr_of y.word ∷ places d (p.mid ∷ p.high)) ++ places (suc d) after))
    → IsAmong a ((addr_of x.word ∷ places d x.items) ++ ((addr_of y.word ∷ places d y.items) ++ places (suc d) after))
    = λ a i. elim (in_or a (addr_of x.word ∷ places d p.low)
    ((addr_of y.word ∷ places d (p.mid ∷ p.high)) ++ places (suc d) after) i) [
      | inl l ↦ elim l [ inl q ↦ inl q | inr v ↦ all a (outl a v) ]
      | inr l ↦ elim (in_or a (addr_of y.word ∷ places d (p.mid ∷ p.high)) (places (suc d) after) l) [
        | inl l2 ↦ elim l2 [
          | inl q ↦
              subst (λ (z : Addr). IsAmong z
              ((addr_of x.word ∷ places d x.items) ++ ((addr_of y.word ∷ places d y.items) ++ places (suc d) after))) q
              ally
          | inr v ↦ all a (outr a v)
        ]
        | inr l2 ↦ alla a l2
      ]
    ] in
    let newl : (a : Addr) → IsAmong a (places d x.items ++ places d y.items)
    → IsAmong a ((addr_of x.word ∷ places d p.low) ++
    ((addr_of y.word ∷ places d (p.mid ∷ p.high)) ++ places (suc d) after)) =
    λ a i. elim (in_or a (places d p.low) (places d (p.mid ∷ p.high)) (moved a _ _ pairs i)) [
      | inl v ↦ in_left a (addr_of x.word ∷ places d p.low)
          ((addr_of y.word ∷ places d (p.mid ∷ p.high)) ++ places (suc d) after) (inr v)
      | inr v ↦ in_right a (addr_of x.word ∷ places d p.low)
          ((addr_of y.word ∷ places d (p.mid ∷ p.high)) ++ places (suc d) after)
          (inr (in_left a (places d (p.mid ∷ p.high)) (places (suc d) after) v))
    ] in
    let back : (a : Addr)
    → IsAmong a ((addr_of x.word ∷ places d x.items) ++ ((addr_of y.word ∷ places d y.items) ++ places (suc d) after))
    → IsAmong a ((addr_of x.word ∷ places d p.low) ++
    ((addr_of y.word ∷ places d (p.mid ∷ p.high)) ++ places (suc d) after)) =
    λ a i. elim (in_or a (addr_of x.word ∷ places d x.items)
    ((addr_of y.word ∷ places d y.items) ++ places (suc d) after) i) [
      | inl l ↦ elim l [ inl q ↦ inl q | inr v ↦ newl a (inx a v) ]
      | inr l ↦ elim (in_or a (addr_of y.word ∷ places d y.items) (places (suc d) after) l) [
        | inl l2 ↦ elim l2 [
          | inl q ↦
              in_right a (addr_of x.word ∷ places d p.low)
              ((addr_of y.word ∷ places d (p.mid ∷ p.high)) ++ places (suc d) after) (inl q)
          | inr v ↦ newl a (iny a v)
        ]
        | inr l2 ↦ in_right a (addr_of x.word ∷ places d p.low)
            ((addr_of y.word ∷ places d (p.mid ∷ p.high)) ++ places (suc d) after)
            (in_right a (addr_of y.word ∷ places d (p.mid ∷ p.high)) (places (suc d) after) l2)
      ]
    ] in
    let dist : Distinct ((at ∷ places (suc d) before) ++
    ((addr_of x.word ∷ places d p.low) ++ ((addr_of y.word ∷ places d (p.mid ∷ p.high)) ++ places (suc d) after))) =
    distinct_join (at ∷ places (suc d) before)
    ((addr_of x.word ∷ places d p.low) ++ ((addr_of y.word ∷ places d (p.mid ∷ p.high)) ++ places (suc d) after))
    sp.outer.left d2 (λ a i j. sp.outer.apart a i (into a j)) in
    let within : (a : Addr) → IsAmong a (places (suc d) (before ++ x2 ∷ y2 ∷ after))
    → IsAmong a (places (suc d) (before ++ x ∷ y ∷ after)) =
    λ a i. moved a _ _ (sym sp.split)
    (elim (in_or a (places (suc d) before)
    ((addr_of x.word ∷ places d p.low) ++ ((addr_of y.word ∷ places d (p.mid ∷ p.high)) ++ places (suc d) after))
    (moved a _ _ now i)) [
      | inl l ↦ in_left a (places (suc d) before)
          ((addr_of x.word ∷ places d x.items) ++ ((addr_of y.word ∷ places d y.items) ++ places (suc d) after)) l
      | inr l ↦ in_right a (places (suc d) before)
          ((addr_of x.word ∷ places d x.items) ++ ((addr_of y.word ∷ places d y.items) ++ places (suc d) after))
          (into a l)
    ]) in
    let keeps : (a : Addr) → IsAmong a (places (suc d) (before ++ x ∷ y ∷ after))
    → IsAmong a (places (suc d) (before ++ x2 ∷ y2 ∷ after)) =
    λ a i. moved a _ _ (sym now) (elim
    (in_or a (places (suc d) before)
    ((addr_of x.word ∷ places d x.items) ++ ((addr_of y.word ∷ places d y.items) ++ places (suc d) after))
    (moved a _ _ sp.split i)) [
      | inl l ↦ in_left a (places (suc d) before)
          ((addr_of x.word ∷ places d p.low) ++
          ((addr_of y.word ∷ places d (p.mid ∷ p.high)) ++ places (suc d) after)) l
      | inr l ↦ in_right a (places (suc d) before)
          ((addr_of x.word ∷ places d p.low) ++ ((addr_of y.word ∷ places d (p.mid ∷ p.high)) ++ places (suc d) after))
          (back a l)
    ]) in (
      before ++ x2 ∷ y2 ∷ after,
      record {
        ways = ways_join (suc d) before (x2 ∷ y2 ∷ after) lo c.mid hi c.left
            (Some w.here.key, (r.1.0, hl), (r.2.0, (refl, hr), r.2.2));
        stand = all_join (Stands R t owner (suc d)) before (x2 ∷ y2 ∷ after)
            (stand_kept R u t owner (suc d) before two.before_stand bx)
            ((nl2, sl), ((nr2, sr), stand_kept R u t owner (suc d) after two.after_stand aa));
        spelled = map_join (spell (suc d)) before (x2 ∷ y2 ∷ after) ∙
            ap (λ v. v ++ spell (suc d) x ∷ record { key = w.here.key; word = y.word } ∷ map (spell (suc d)) after) el ∙
            ap (λ v. low ++ v ∷ record { key = w.here.key; word = y.word } ∷ map (spell (suc d)) after) ee ∙
            ap (λ v. low ++ e ∷ record { key = w.here.key; word = y.word } ∷ v) eh;
        content = flat_join (content_of d) before (x2 ∷ y2 ∷ after)
            ∙ ap (λ v. contents (suc d) before ++ v)
            (sym (append_assoc (contents d p.low) (contents d (p.mid ∷ p.high)) (contents (suc d) after)) ∙
            ap (λ v. v ++ contents (suc d) after)
            (sym (flat_join (content d) p.low (p.mid ∷ p.high)) ∙ ap (contents d) (sym p.are) ∙
            flat_join (content d) x.items y.items) ∙
            append_assoc (contents d x.items) (contents d y.items) (contents (suc d) after))
            ∙ sym (flat_join (content_of d) before (x ∷ y ∷ after));
        distinct = subst (λ (v : List Addr). Distinct (at ∷ v)) (sym now) dist;
        within = within;
        frame = λ a n. w.frame a (λ q. n (inl (sym q)))
            (λ q. n (inr (moved a _ _ (sym sp.split)
            (in_right a (places (suc d) before)
            ((addr_of x.word ∷ places d x.items) ++ ((addr_of y.word ∷ places d y.items) ++ places (suc d) after))
            (inl (sym q))))))
            (λ q. n (inr (moved a _ _ (sym sp.split)
            (in_right a (places (suc d) before)
            ((addr_of x.word ∷ places d x.items) ++ ((addr_of y.word ∷ places d y.items) ++ places (suc d) after))
            (in_right a (addr_of x.word ∷ places d x.items)
            ((addr_of y.word ∷ places d y.items) ++ places (suc d) after)
            (inl (sym q)))))));
        gone = λ a i n. absurd (n (keeps a i));
      },
    )
