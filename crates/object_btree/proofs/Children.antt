-- A child that changes, and the node above it.
use Rattle.std.proofs.Common.{◌≡◌, ◌⊎◌, inl, inr, ℕ, suc, Bool, List, [], ◌∷◌, ◌++◌, Some, None, refl, sym, ap, subst, ◌∙◌}
use Rattle.std.specs.Prelude.{map}
use Rattle.a1_base.specs.Lists.{IsAmong}
use Rattle.a1_base.specs.declared.place.Addr.{Addr}
use Rattle.object_view.specs.Agreement.{State}
use Rattle.object_view.specs.Layout.{Entry}
use Rattle.object_view.specs.Keys.{Bound, UpTo, Below}
use Rattle.object_view.specs.Trees.{Branch, Item, spell, content, homes, Gap, Spans, Stands, Ways, contents, places, Stand, Distinct, Sub}
use Rattle.object_btree.specs.Levels.{Ahead}
use Rattle.object_btree.proofs.Paths.{flat_join, all_left, all_right, Cut, ways_cut, ways_join, ways_within}
use Rattle.object_view.proofs.Reading.{all_join}
use Rattle.object_btree.proofs.Pairing.{AllAbove, AllBelow, all_above, all_below}
use Rattle.object_view.proofs.Standing.{in_left, in_right, in_or, stand_kept, stand_full, full_cons, Full, Parts, distinct_parts, distinct_swap}
use Rattle.object_btree.proofs.Grows.{moved, Items, Since, Parted, parted}

-- the child among the branchs of a node
pub record Among (R : Addr → Bool) (s : State) (owner d : ℕ) (lo : Bound) (bs : List (Branch (Item d))) (hi : Bound)
    (at : Addr) (k : List ℕ) (low : List Entry) (here : Entry) (high : List Entry) : Type 0 where
  pub before : List (Branch (Item d))
  pub child : Branch (Item d)
  pub after : List (Branch (Item d))
  pub are : bs ≡ before ++ child ∷ after
  pub low_is : map (spell (suc d)) before ≡ low
  pub here_is : spell (suc d) child ≡ here
  pub high_is : map (spell (suc d)) (child ∷ after) ≡ here ∷ high
  pub clo : Bound
  pub chi : Bound
  pub left : Ways (suc d) lo before clo
  pub right : Ways (suc d) chi after hi
  pub sub : Sub R s owner 16 d clo child chi
  pub from : UpTo clo (Some k)
  pub upto : Below k chi
  pub left_stand : Stand R s owner (suc d) before
  pub right_stand : Stand R s owner (suc d) after
  pub split : places (suc d) bs ≡ places (suc d) before ++ (homes (suc d) child ++ places (suc d) after)
  pub distinct : Distinct ((at ∷ places (suc d) before) ++ (homes (suc d) child ++ places (suc d) after))
  pub pairs : contents (suc d) bs ≡ contents (suc d) before ++ (contents d child.items ++ contents (suc d) after)
  pub lows : AllBelow k (contents (suc d) before)
  pub highs : AllAbove k (contents (suc d) after)

ahead_below : (d : ℕ) (k : List ℕ) (m hi : Bound) (xs : List (Branch (Item d))) (high : List Entry)
    → map (spell (suc d)) xs ≡ high → Ahead k high → Ways (suc d) m xs hi → Below k hi → Below k m
ahead_below d k m hi [] high e a w b = subst (λ (x : Bound). Below k x) (sym w) b
ahead_below d k m hi (x ∷ xs) high e a w b =
    let a2 : Ahead k (map (spell (suc d)) (x ∷ xs)) = subst (λ (t : List Entry). Ahead k t) (sym e) a in
    subst (λ (t : Bound). Below k t) (sym w.1.0) a2

tail_of : (d : ℕ) (x : Branch (Item d)) (xs : List (Branch (Item d))) (here : Entry) (high : List Entry)
    → map (spell (suc d)) (x ∷ xs) ≡ here ∷ high → map (spell (suc d)) xs ≡ high
tail_of d x xs here high e = cc

pub among : (R : Addr → Bool) (s : State) (owner d : ℕ) (lo : Bound) (bs : List (Branch (Item d))) (hi : Bound)
    (at : Addr) (k : List ℕ) (low : List Entry) (here : Entry) (high : List Entry) → Ways (suc d) lo bs hi
    → Stand R s owner (suc d) bs → Distinct (at ∷ places (suc d) bs) → map (spell (suc d)) bs ≡ low ++ here ∷ high
    → UpTo (Some here.key) (Some k) → Ahead k high → Below k hi → Among R s owner d lo bs hi at k low here high
among R s owner d lo bs hi at k low here high ways stand distinct e from ahead below =
    let p : Parted (suc d) bs low here high = parted (suc d) bs low here high e in
    let c : Cut (Gap (suc d)) (Spans (suc d)) lo p.low (p.mid ∷ p.high) hi =
    ways_cut (suc d) p.low (p.mid ∷ p.high) lo hi
    (subst (λ (x : List (Branch (Item d))). Ways (suc d) lo x hi) p.are ways) in
    let r = c.right in
    let child : Branch (Item d) = p.mid in
    let st : Stand R s owner (suc d) (p.low ++ p.mid ∷ p.high) =
    subst (λ (x : List (Branch (Item d))). Stand R s owner (suc d) x) p.are stand in
    let sl : Stand R s owner (suc d) p.low = all_left (Stands R s owner (suc d)) p.low (p.mid ∷ p.high) st in
    let sr : Stand R s owner (suc d) (p.mid ∷ p.high) =
    all_right (Stands R s owner (suc d)) p.low (p.mid ∷ p.high) st in
    let split : places (suc d) bs ≡ places (suc d) p.low ++ (homes (suc d) p.mid ++ places (suc d) p.high) =
    ap (places (suc d)) p.are ∙ flat_join (homes (suc d)) p.low (p.mid ∷ p.high) in
    let dist : Distinct ((at ∷ places (suc d) p.low) ++ (homes (suc d) p.mid ++ places (suc d) p.high)) =
    subst (λ (x : List Addr). Distinct (at ∷ x)) split distinct in
    let d1 : Parts (at ∷ places (suc d) p.low) (homes (suc d) p.mid ++ places (suc d) p.high) =
    distinct_parts (at ∷ places (suc d) p.low) (homes (suc d) p.mid ++ places (suc d) p.high) dist in
    let d2 : Parts (homes (suc d) p.mid) (places (suc d) p.high) =
    distinct_parts (homes (suc d) p.mid) (places (suc d) p.high) d1.right in
    let ek : p.mid.key ≡ here.key = ap (λ (x : Entry). x.key) p.mid_is in
    let clo_is : c.mid ≡ Some p.mid.key = r.1.0 in
    let fr : UpTo c.mid (Some k) =
    subst (λ (x : Bound). UpTo x (Some k)) (sym clo_is)
    (subst (λ (x : List ℕ). UpTo (Some x) (Some k)) (sym ek) from) in
    let up : Below k r.0 = ahead_below d k r.0 hi p.high high (tail_of d p.mid p.high here high p.high_is) ahead r.2
    below in
    record {
      before = p.low;
      child = p.mid;
      after = p.high;
      are = p.are;
      low_is = p.low_is;
      here_is = p.mid_is;
      high_is = p.high_is;
      clo = c.mid;
      chi = r.0;
      left = c.left;
      right = r.2;
      sub = record { spans = r.1; node = sr.0.0; stand = sr.0.1; distinct = d2.left };
      from = fr;
      upto = up;
      left_stand = sl;
      right_stand = sr.1;
      split = split;
      distinct = dist;
      pairs = ap (contents (suc d)) p.are ∙ flat_join (content (suc d)) p.low (p.mid ∷ p.high);
      lows = all_below k c.mid (contents (suc d) p.low) fr (ways_within (suc d) lo p.low c.mid c.left).under;
      highs = all_above k r.0 (contents (suc d) p.high) up (ways_within (suc d) r.0 p.high hi r.2).over;
    }

-- the node's branchs after the child gave way to one or two
pub record Mid (R : Addr → Bool) (s u : State) (owner d : ℕ) (lo hi : Bound) (at : Addr) (bs : List (Branch (Item d)))
    (before new after : List (Branch (Item d))) (want : List Entry) : Type 0 where
  pub it : Items R u owner (suc d) lo (before ++ (new ++ after)) hi at
  pub content : contents (suc d) (before ++ (new ++ after)) ≡ want
  pub since : Since s u (at ∷ places (suc d) bs) (at ∷ places (suc d) (before ++ (new ++ after)))
  pub here : u at ≡ s at

abbrev content_of : (d : ℕ) → Branch (Item d) → List Entry
content_of d b = content (suc d) b

pub middle : (R : Addr → Bool) (s u : State) (owner d : ℕ) (lo hi : Bound) (at : Addr)
    (bs before new after : List (Branch (Item d))) (child : Branch (Item d)) (clo chi : Bound)
    (want mid_want : List Entry) → (s at ≡ None → ⊥) → Ways (suc d) lo before clo → Ways (suc d) clo new chi
    → Ways (suc d) chi after hi → Stand R s owner (suc d) before → Stand R u owner (suc d) new
    → Stand R s owner (suc d) after
    → places (suc d) bs ≡ places (suc d) before ++ (homes (suc d) child ++ places (suc d) after)
    → Distinct ((at ∷ places (suc d) before) ++ (homes (suc d) child ++ places (suc d) after))
    → Distinct (places (suc d) new) → contents (suc d) new ≡ mid_want
    → contents (suc d) before ++ (mid_want ++ contents (suc d) after) ≡ want
    → ((a : Addr) → IsAmong a (homes (suc d) child) → IsAmong a (places (suc d) new))
    → ((a : Addr) → IsAmong a (places (suc d) new) → IsAmong a (homes (suc d) child) ⊎ (s a ≡ None))
    → ((a : Addr) → (IsAmong a (places (suc d) new) → ⊥) → u a ≡ s a) → ((a : Addr) → u a ≡ None → s a ≡ None)
    → Mid R s u owner d lo hi at bs before new after want
middle R s u owner d lo hi at bs before new after child clo chi want mid_want there left mid right ls ms rs split dist
    ndist inner whole keeps fresh frame stays =
    let pl : List Addr = places (suc d) before in
    let pr : List Addr = places (suc d) after in
    let fl : Full s (places (suc d) before) = stand_full R s owner (suc d) before ls in
    let fr : Full s (places (suc d) after) = stand_full R s owner (suc d) after rs in
    let fal : Full s (at ∷ places (suc d) before) = full_cons s at (places (suc d) before) there fl in
    let d1 : Parts (at ∷ places (suc d) before) (homes (suc d) child ++ places (suc d) after) =
    distinct_parts (at ∷ places (suc d) before) (homes (suc d) child ++ places (suc d) after) dist in
    let d2 : Parts (homes (suc d) child) (places (suc d) after) =
    distinct_parts (homes (suc d) child) (places (suc d) after) d1.right in
    let lnew : (a : Addr) → IsAmong a (at ∷ places (suc d) before) → IsAmong a (places (suc d) new) → ⊥ =
    λ a i j. elim (fresh a j)
    [ inl o ↦ d1.apart a i (in_left a (homes (suc d) child) (places (suc d) after) o) | inr e ↦ fal a i e ] in
    let rnew : (a : Addr) → IsAmong a (places (suc d) after) → IsAmong a (places (suc d) new) → ⊥ =
    λ a i j. elim (fresh a j) [ inl o ↦ d2.apart a o i | inr e ↦ fr a i e ] in
    let now : places (suc d) (before ++ (new ++ after)) ≡ places (suc d) before
    ++ (places (suc d) new ++ places (suc d) after) = flat_join (homes (suc d)) before (new ++ after)
    ∙ ap (λ t. places (suc d) before ++ t) (flat_join (homes (suc d)) new after) in
    let swapped : Distinct ((at ∷ places (suc d) before) ++ (places (suc d) new ++ places (suc d) after)) =
    distinct_swap s (at ∷ places (suc d) before) (homes (suc d) child) (places (suc d) new) (places (suc d) after) fal
    fr dist ndist fresh in
    let to_now : (a : Addr) → IsAmong a (at ∷ places (suc d) bs)
    → IsAmong a (at ∷ places (suc d) (before ++ (new ++ after))) = λ a i. elim i [
      | inl e ↦ inl e
      | inr q ↦ elim (in_or a (places (suc d) before) (homes (suc d) child ++ places (suc d) after)
          (moved a _ _ split q)) [
            | inl l ↦ inr (moved a _ _ (sym now)
                (in_left a (places (suc d) before) (places (suc d) new ++ places (suc d) after) l))
            | inr w ↦ elim (in_or a (homes (suc d) child) (places (suc d) after) w) [
              | inl m ↦ inr (moved a _ _ (sym now)
                  (in_right a (places (suc d) before) (places (suc d) new ++ places (suc d) after)
                  (in_left a (places (suc d) new) (places (suc d) after) (keeps a m))))
              | inr r ↦ inr (moved a _ _ (sym now)
                  (in_right a (places (suc d) before) (places (suc d) new ++ places (suc d) after)
                  (in_right a (places (suc d) new) (places (suc d) after) r)))
            ]
          ]
    ] in
    let from_now : (a : Addr) → IsAmong a (at ∷ places (suc d) (before ++ (new ++ after)))
    → IsAmong a (at ∷ places (suc d) bs) ⊎ (s a ≡ None) = λ a i. elim i [
      | inl e ↦ inl (inl e)
      | inr q ↦ elim (in_or a (places (suc d) before) (places (suc d) new ++ places (suc d) after) (moved a _ _ now q)) [
        | inl l ↦ inl (inr (moved a _ _ (sym split)
            (in_left a (places (suc d) before) (homes (suc d) child ++ places (suc d) after) l)))
        | inr w ↦ elim (in_or a (places (suc d) new) (places (suc d) after) w) [
          | inl m ↦ elim (fresh a m) [
            | inl o ↦ inl (inr (moved a _ _ (sym split)
                (in_right a (places (suc d) before) (homes (suc d) child ++ places (suc d) after)
                (in_left a (homes (suc d) child) (places (suc d) after) o))))
            | inr e ↦ inr e
          ]
          | inr r ↦ inl (inr (moved a _ _ (sym split)
              (in_right a (places (suc d) before) (homes (suc d) child ++ places (suc d) after)
              (in_right a (homes (suc d) child) (places (suc d) after) r))))
        ]
      ]
    ] in
    record {
      it = record {
        ways = ways_join (suc d) before (new ++ after) lo clo hi left
            (ways_join (suc d) new after clo chi hi mid right);
        stand = all_join (Stands R u owner (suc d)) before (new ++ after)
            (stand_kept R s u owner (suc d) before ls (λ a i. frame a (lnew a (inr i))))
            (all_join (Stands R u owner (suc d)) new after ms
            (stand_kept R s u owner (suc d) after rs (λ a i. frame a (rnew a i))));
        distinct = subst (λ (x : List Addr). Distinct (at ∷ x)) (sym now) swapped;
      };
      content = flat_join (content_of d) before (new ++ after)
          ∙ ap (λ t. contents (suc d) before ++ t) (flat_join (content_of d) new after)
          ∙ ap (λ t. contents (suc d) before ++ (t ++ contents (suc d) after)) inner ∙ whole;
      since = record {
        keeps = to_now;
        fresh = from_now;
        stays = stays;
        frame = λ a n. frame a (λ i. n
            (inr (moved a _ _ (sym now)
            (in_right a (places (suc d) before) (places (suc d) new ++ places (suc d) after)
            (in_left a (places (suc d) new) (places (suc d) after) i)))));
      };
      here = frame at (lnew at (inl refl));
    }
