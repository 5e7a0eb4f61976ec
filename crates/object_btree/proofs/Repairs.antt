-- A node below which two neighbours were joined.
use Rattle.std.proofs.Common.{◌≡◌, inl, inr, ℕ, suc, ◌+◌, ◌≤◌, Bool, true, List, [], ◌∷◌, ◌++◌, length, Some, None, refl, sym, ap, subst, ◌∙◌, append_assoc, arith}
use Rattle.std.specs.Prelude.{map, Result}
use Rattle.object_view.specs.declared.parts.PartFault.{PartFault}
use Rattle.std.specs.List.{AllByRecursion}
use Rattle.std.proofs.lemmas.List.{length-append}
use Rattle.a1_base.specs.Lists.{IsAmong}
use Rattle.a1_base.specs.declared.place.Addr.{Addr}
use Rattle.object_view.specs.Agreement.{State}
use Rattle.object_view.specs.Layout.{Entry, IsEntry, addr_of, node_bytes}
use Rattle.object_view.specs.Keys.{Bound}
use Rattle.object_view.specs.Trees.{Branch, Item, spell, places, Sub}
use Rattle.object_btree.specs.Steps.{Shrunk, Merged, Shared, PairAt, JoinedAt}
use Rattle.object_view.specs.Parts.{Tells}
use Rattle.object_btree.proofs.Paths.{map_join, all_left, all_right}
use Rattle.object_view.proofs.Reading.{all_join}
use Rattle.object_view.proofs.Standing.{in_right}
use Rattle.object_btree.proofs.Joins.{Two, Settled, Spots, spots, settle_merged}
use Rattle.object_btree.proofs.Shares.{settle_shared}
use Rattle.object_btree.proofs.Less.{Less, shrunk_settled}

in_right_first : (d : ℕ) (x y : Branch (Item d)) (aft : List (Branch (Item d)))
    → IsAmong (addr_of y.word) ((addr_of x.word ∷ places d x.items) ++
    ((addr_of y.word ∷ places d y.items) ++ places (suc d) aft))
in_right_first d x y aft =
    in_right (addr_of y.word) (addr_of x.word ∷ places d x.items)
    ((addr_of y.word ∷ places d y.items) ++ places (suc d) aft) (inl refl)

-- what the code needs of two neighbours
pub pair_of : (R : Addr → Bool) (u : State) (owner d : ℕ) (lo hi : Bound) (at : Addr) (bef : List (Branch (Item d)))
    (x y : Branch (Item d)) (aft : List (Branch (Item d))) → Two R u owner d lo hi at bef x y aft → R at ≡ true
    → (u at ≡ None → ⊥) → 31 ≤ length (map (spell d) x.items) + length (map (spell d) y.items)
    → PairAt R u owner at (addr_of x.word) (addr_of y.word) (map (spell d) x.items) (map (spell d) y.items)
pair_of R u owner d lo hi at bef x y aft two reached there many =
    let sp : Spots d at bef x y aft = spots d at bef x y aft two.distinct in
    let f1 = two.left_node.few in
    let f2 = two.right_node.few in
    record {
      left_at = two.left_node.bytes;
      right_at = two.right_node.bytes;
      above = reached;
      above_at = there;
      left_reached = two.left_node.reached;
      right_reached = two.right_node.reached;
      left_fits = two.left_node.fits;
      right_fits = two.right_node.fits;
      many = many;
      few = omega (arith, f1, f2);
      other = λ q. sp.middle.apart (addr_of x.word) (inl refl) (inl (sym q));
      left_other = λ q. sp.outer.apart (addr_of x.word) (inl (sym q)) (inl refl);
      right_other = λ q. sp.outer.apart (addr_of y.word) (inl (sym q)) (in_right_first d x y aft);
    }

pub repaired : (R : Addr → Bool) (s u t : State) (owner least d : ℕ) (lo : Bound) (b : Branch (Branch (Item d)))
    (hi : Bound) (want : List Entry) (before : List (Branch (Item d))) (child : Branch (Item d))
    (after bef : List (Branch (Item d))) (x y : Branch (Item d)) (aft : List (Branch (Item d))) (low : List Entry)
    (e : Entry) (high : List Entry) (thin : Bool) → Sub R s owner least (suc d) lo b hi
    → Less R s u owner d lo hi (addr_of b.word) b.items before child after want
    → map (spell (suc d)) (before ++ child ∷ after) ≡ map (spell (suc d)) b.items
    → before ++ child ∷ after ≡ bef ++ x ∷ y ∷ aft → Two R u owner d lo hi (addr_of b.word) bef x y aft
    → map (spell (suc d)) bef ≡ low → spell (suc d) x ≡ e → map (spell (suc d)) aft ≡ high
    → 31 ≤ length (map (spell d) x.items) + length (map (spell d) y.items) → least ≤ 16
    → JoinedAt u t owner (addr_of b.word) (addr_of x.word) (addr_of y.word) low e.key e.word y.word high
    (map (spell d) x.items) (map (spell d) y.items) thin → Shrunk R s t owner least (suc d) lo b hi want thin
repaired R s u t owner least d lo b hi want before child after bef x y aft low e high thin sub less same split two el ee
    eh many small (inl m) =
    let at : Addr = addr_of b.word in
    let g = m.1 in
    let long : 31 ≤ length (map (spell d) x.items ++ map (spell d) y.items) = let l =
    length-append (map (spell d) x.items) (map (spell d) y.items) in omega (arith, l, many) in
    let mm : Merged u t owner (addr_of b.word) (addr_of x.word) (addr_of y.word) low e high
    (map (spell d) x.items ++ map (spell d) y.items) thin =
    record {
      few = m.0;
      left_at = g.left_at;
      right_at = g.right_at;
      above_at = g.above_at;
      frame = g.frame;
      firm =
          g.firm;
    } in
    let w : Settled R u t owner d lo hi (addr_of b.word) (bef ++ x ∷ y ∷ aft) (low ++ e ∷ high)
    (bef ++ record { key = x.key; word = x.word; items = x.items ++ y.items } ∷ aft) =
    settle_merged R u t owner d lo hi (addr_of b.word) bef x y aft low e high
    (map (spell d) x.items ++ map (spell d) y.items) thin two el ee eh refl long mm in
    let w2 : Settled R u t owner d lo hi (addr_of b.word) (before ++ child ∷ after) (low ++ e ∷ high)
    (bef ++ record { key = x.key; word = x.word; items = x.items ++ y.items } ∷ aft) =
    subst (λ (z : List (Branch (Item d))). Settled R u t owner d lo hi (addr_of b.word) z (low ++ e ∷ high)
    (bef ++ record { key = x.key; word = x.word; items = x.items ++ y.items } ∷ aft)) (sym split) w in
    let es0 : map (spell (suc d)) b.items ≡ low ++ e ∷ spell (suc d) y ∷ high = sym same ∙
    ap (map (spell (suc d))) split ∙ map_join (spell (suc d)) bef (x ∷ y ∷ aft) ∙
    ap (λ z. z ++ spell (suc d) x ∷ spell (suc d) y ∷ map (spell (suc d)) aft) el ∙
    ap (λ z. low ++ z ∷ spell (suc d) y ∷ map (spell (suc d)) aft) ee ∙ ap (λ z. low ++ e ∷ spell (suc d) y ∷ z) eh in
    let f0 : AllByRecursion IsEntry (low ++ e ∷ spell (suc d) y ∷ high) =
    subst (λ (z : List Entry). AllByRecursion IsEntry z) es0 sub.node.fits in
    let fr : AllByRecursion IsEntry (e ∷ spell (suc d) y ∷ high) =
    all_right IsEntry low (e ∷ spell (suc d) y ∷ high) f0 in
    let n0 : length (map (spell (suc d)) b.items) ≡ length (low ++ e ∷ spell (suc d) y ∷ high) = ap length es0 in
    let n1 = length-append low (e ∷ spell (suc d) y ∷ high) in
    let n2 = length-append low (e ∷ high) in
    let n3 : length (e ∷ spell (suc d) y ∷ high) ≡ suc (suc (length high)) = refl in
    let n4 : length (e ∷ high) ≡ suc (length high) = refl in
    let n5 = sub.node.many in
    let n6 = sub.node.few in
    shrunk_settled R s u t owner least d lo b hi want before child after
    (bef ++ record { key = x.key; word = x.word; items = x.items ++ y.items } ∷ aft) (low ++ e ∷ high) thin sub less
    w2 g.above_at
    (all_join IsEntry low (e ∷ high) (all_left IsEntry low (e ∷ spell (suc d) y ∷ high) f0) (fr.0, fr.1.1))
    (omega (arith, n0, n1, n2, n3, n4, n6)) (omega (arith, n0, n1, n2, n3, n4, n5))
    (λ z. let q = g.firm z in omega (arith, q, small))
repaired R s u t owner least d lo b hi want before child after bef x y aft low e high thin sub less same split two el ee
    eh many small (inr g) =
    let key : Entry = record { key = g.here.key; word = y.word } in
    let re : (low ++ e ∷ []) ++ record { key = g.here.key; word = y.word } ∷ high ≡ low ++ e ∷ record
    { key = g.here.key; word = y.word } ∷ high =
    append_assoc low (e ∷ []) (record { key = g.here.key; word = y.word } ∷ high) in
    let above : t (addr_of b.word) ≡ Some
    (node_bytes owner (low ++ e ∷ record { key = g.here.key; word = y.word } ∷ high)) = g.above_at ∙
    ap (λ (z : List Entry). Some (node_bytes owner z)) re in
    let sh : Shared u t owner (addr_of b.word) (addr_of x.word) (addr_of y.word) y.word low e high
    (map (spell d) x.items ++ map (spell d) y.items) thin = record {
      left = g.left;
      here = g.here;
      right = g.right;
      are = g.are;
      left_at = g.left_at;
      right_at = g.right_at;
      above_at =
          above;
      left_many = g.left_many;
      left_few = g.left_few;
      right_many = g.right_many;
      right_few = g.right_few;
      frame =
          g.frame;
      firm = λ z. subst (λ (v : List Entry). 16 ≤ length v) re (g.firm z);
    } in
    let w = settle_shared R u t owner d lo hi (addr_of b.word) bef x y aft low e high
    (map (spell d) x.items ++ map (spell d) y.items) thin two el ee eh refl sh in
    let w2 : Settled R u t owner d lo hi (addr_of b.word) (before ++ child ∷ after)
    (low ++ e ∷ record { key = g.here.key; word = y.word } ∷ high) w.0 =
    subst (λ (z : List (Branch (Item d))). Settled R u t owner d lo hi (addr_of b.word) z
    (low ++ e ∷ record { key = g.here.key; word = y.word } ∷ high) w.0) (sym split) w.1 in
    let es0 : map (spell (suc d)) b.items ≡ low ++ e ∷ spell (suc d) y ∷ high = sym same ∙
    ap (map (spell (suc d))) split ∙ map_join (spell (suc d)) bef (x ∷ y ∷ aft) ∙
    ap (λ z. z ++ spell (suc d) x ∷ spell (suc d) y ∷ map (spell (suc d)) aft) el ∙
    ap (λ z. low ++ z ∷ spell (suc d) y ∷ map (spell (suc d)) aft) ee ∙ ap (λ z. low ++ e ∷ spell (suc d) y ∷ z) eh in
    let f0 : AllByRecursion IsEntry (low ++ e ∷ spell (suc d) y ∷ high) =
    subst (λ (z : List Entry). AllByRecursion IsEntry z) es0 sub.node.fits in
    let fr : AllByRecursion IsEntry (e ∷ spell (suc d) y ∷ high) =
    all_right IsEntry low (e ∷ spell (suc d) y ∷ high) f0 in
    let fb : AllByRecursion IsEntry (g.left ++ g.here ∷ g.right) =
    subst (λ (z : List Entry). AllByRecursion IsEntry z) g.are
    (all_join IsEntry (map (spell d) x.items) (map (spell d) y.items) two.left_node.fits two.right_node.fits) in
    let fh : AllByRecursion IsEntry (g.here ∷ g.right) = all_right IsEntry g.left (g.here ∷ g.right) fb in
    let n0 : length (map (spell (suc d)) b.items) ≡ length (low ++ e ∷ spell (suc d) y ∷ high) = ap length es0 in
    let n1 = length-append low (e ∷ spell (suc d) y ∷ high) in
    let n2 = length-append low (e ∷ record { key = g.here.key; word = y.word } ∷ high) in
    let n3 : length (e ∷ spell (suc d) y ∷ high) ≡ suc (suc (length high)) = refl in
    let n4 : length (e ∷ record { key = g.here.key; word = y.word } ∷ high) ≡ suc (suc (length high)) = refl in
    let n5 = sub.node.many in
    let n6 = sub.node.few in
    shrunk_settled R s u t owner least d lo b hi want before child after w.0
    (low ++ e ∷ record { key = g.here.key; word = y.word } ∷ high) thin sub less w2 above
    (all_join IsEntry low (e ∷ record { key = g.here.key; word = y.word } ∷ high)
    (all_left IsEntry low (e ∷ spell (suc d) y ∷ high) f0)
    (fr.0, (record { key = fh.0.key; word = fr.1.0.word }, fr.1.1)))
    (omega (arith, n0, n1, n2, n3, n4, n6)) (omega (arith, n0, n1, n2, n3, n4, n5))
    (λ z. omega (arith, n0, n1, n2, n3, n4, n5))

-- ---- the join by its code's values

abbrev pub JoinTells : (Addr → Bool) → State → State → ℕ → Addr → List Entry → List Entry → List Entry → List Entry
    → Result Bool PartFault → List ℕ → ℕ → ℕ → Type 0
JoinTells R u t owner at low high xs ys r key left right = PairAt R u owner at (addr_of left) (addr_of right) xs ys
    → Tells r (λ thin. JoinedAt u t owner at (addr_of left) (addr_of right) low key left right high xs ys thin)

pub join_as : (R : Addr → Bool) (u t : State) (owner : ℕ) (at : Addr) (low high xs ys : List Entry)
    (r : Result Bool PartFault) (key key2 : List ℕ) (left left2 right right2 : ℕ) → key ≡ key2 → left ≡ left2
    → right ≡ right2 → JoinTells R u t owner at low high xs ys r key left right
    → JoinTells R u t owner at low high xs ys r key2 left2 right2
join_as R u t owner at low high xs ys r key key2 left left2 right right2 ek el er w =
    let w1 : JoinTells R u t owner at low high xs ys r key2 left right =
    subst (λ (k : List ℕ). JoinTells R u t owner at low high xs ys r k left right) ek w in
    let w2 : JoinTells R u t owner at low high xs ys r key2 left2 right =
    subst (λ (x : ℕ). JoinTells R u t owner at low high xs ys r key2 x right) el w1 in
    subst (λ (x : ℕ). JoinTells R u t owner at low high xs ys r key2 left2 x) er w2
