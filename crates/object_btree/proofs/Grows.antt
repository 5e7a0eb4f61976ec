-- A branch that gives way to one or two, at every height.
use Rattle.std.proofs.Common.{◌≡◌, ◌⊎◌, inl, inr, ℕ, ◌≤◌, ◌<◌, Bool, true, List, [], ◌∷◌, ◌++◌, length, Option, Some, None, refl, sym, ap, subst, ◌∙◌}
use Rattle.std.specs.Prelude.{map}
use Rattle.std.specs.List.{AllByRecursion}
use Rattle.std.proofs.lemmas.List.{append-nil}
use Rattle.a1_base.specs.Lists.{IsAmong}
use Rattle.a1_base.specs.declared.place.Addr.{Addr}
use Rattle.object_view.specs.Agreement.{State}
use Rattle.object_view.specs.Layout.{Entry, IsEntry, addr_of}
use Rattle.object_view.specs.Keys.{Bound}
use Rattle.object_view.specs.Trees.{Branch, Item, spell, content, homes, Node, Stands, Ways, contents, places, Stand, Distinct}
use Rattle.object_btree.specs.Steps.{Halved, Whole, Packed, Grown}
use Rattle.object_btree.specs.declared.nodes.Split.{Split}
use Rattle.object_btree.proofs.Paths.{flat_join, all_left, all_right, MapCut, map_cut, MapHead, map_head, Halves, ways_halves}
use Rattle.object_view.proofs.Standing.{in_left, in_right, in_or, stand_kept, stand_full, Full, Parts, distinct_parts, distinct_join}

pub moved : (a : Addr) (xs ys : List Addr) → xs ≡ ys → IsAmong a xs → IsAmong a ys
moved a xs ys e i = subst (λ (t : List Addr). IsAmong a t) e i

-- what is to be put at a node's place
pub record Items (R : Addr → Bool) (u : State) (owner d : ℕ) (lo : Bound) (items : List (Item d)) (hi : Bound)
    (at : Addr) : Type 0 where
  pub ways : Ways d lo items hi
  pub stand : Stand R u owner d items
  pub distinct : Distinct (at ∷ places d items)

-- how it came from what stood there first
pub record Since (s u : State) (old now : List Addr) : Type 0 where
  pub keeps : (a : Addr) → IsAmong a old → IsAmong a now
  pub fresh : (a : Addr) → IsAmong a now → IsAmong a old ⊎ (s a ≡ None)
  pub stays : (a : Addr) → u a ≡ None → s a ≡ None
  pub frame : (a : Addr) → (IsAmong a now → ⊥) → u a ≡ s a

pub grown_whole : (R : Addr → Bool) (s u t : State) (owner least d : ℕ) (lo hi : Bound) (key : List ℕ) (word : ℕ)
    (items : List (Item d)) (old : List Addr) (want : List Entry) → lo ≡ Some key
    → Items R u owner d lo items hi (addr_of word) → R (addr_of word) ≡ true
    → AllByRecursion IsEntry (map (spell d) items) → least ≤ length (map (spell d) items) → contents d items ≡ want
    → Since s u old (addr_of word ∷ places d items) → Whole u t owner (addr_of word) (map (spell d) items)
    → Grown R s t owner least d lo hi key word old want None
grown_whole R s u t owner least d lo hi key word items old want first it reached fits many same since w =
    let b : Branch (Item d) = record { key = key; word = word; items = items } in
    let now : List Addr = addr_of word ∷ places d items in
    let nil : (addr_of word ∷ places d items) ++ [] ≡ addr_of word ∷ places d items =
    append-nil (addr_of word ∷ places d items) in
    record {
      new = record { key = key; word = word; items = items } ∷ [];
      ways = (hi, (first, it.ways), refl);
      shape = (
        items,
        refl,
        record { reached = reached; bytes = w.here; fits = fits; many = many; few = w.few },
        stand_kept R u t owner d items it.stand
            (λ a i. w.frame a (λ e. it.distinct.0 (subst (λ (x : Addr). IsAmong x (places d items)) e i))),
      );
      content = append-nil (contents d items) ∙ same;
      distinct = subst (λ (x : List Addr). Distinct x) (sym nil) it.distinct;
      keeps = λ a i. moved a (addr_of word ∷ places d items) ((addr_of word ∷ places d items) ++ []) (sym nil)
          (since.keeps a i);
      fresh = λ a i. since.fresh a
          (moved a ((addr_of word ∷ places d items) ++ []) (addr_of word ∷ places d items) nil i);
      frame = λ a n.
          let m : IsAmong a (addr_of word ∷ places d items) → ⊥ =
          λ i. n (moved a (addr_of word ∷ places d items) ((addr_of word ∷ places d items) ++ []) (sym nil) i) in
          w.frame a (λ e. m (inl (sym e))) ∙ since.frame a m;
    }

-- the items of both halves
pub record Parted (d : ℕ) (items : List (Item d)) (left : List Entry) (here : Entry) (right : List Entry) : Type 0 where
  pub low : List (Item d)
  pub mid : Item d
  pub high : List (Item d)
  pub are : items ≡ low ++ mid ∷ high
  pub low_is : map (spell d) low ≡ left
  pub mid_is : spell d mid ≡ here
  pub high_is : map (spell d) (mid ∷ high) ≡ here ∷ right

pub parted : (d : ℕ) (items : List (Item d)) (left : List Entry) (here : Entry) (right : List Entry)
    → map (spell d) items ≡ left ++ here ∷ right → Parted d items left here right
parted d items left here right e =
    let c : MapCut (spell d) items left (here ∷ right) = map_cut (spell d) items left (here ∷ right) e in
    let h : MapHead (spell d) c.right here right = map_head (spell d) c.right here right c.right_is in
    record {
      low = c.left;
      mid = h.here;
      high = h.right;
      are = c.is ∙ ap (λ t. c.left ++ t) h.is;
      low_is = c.left_is;
      mid_is = h.here_is;
      high_is = ap (λ t. t ∷ map (spell d) h.right) h.here_is ∙ ap (λ t. here ∷ t) h.right_is;
    }

pub grown_halved : (R : Addr → Bool) (s u t : State) (owner least d : ℕ) (lo hi : Bound) (key : List ℕ) (word : ℕ)
    (items : List (Item d)) (old : List Addr) (want : List Entry) (m : Split) → lo ≡ Some key
    → Items R u owner d lo items hi (addr_of word) → R (addr_of word) ≡ true
    → AllByRecursion IsEntry (map (spell d) items) → contents d items ≡ want
    → Since s u old (addr_of word ∷ places d items) → (u (addr_of word) ≡ None → ⊥)
    → Halved R u t owner (addr_of word) (map (spell d) items) m
    → Grown R s t owner least d lo hi key word old want (Some m)
grown_halved R s u t owner least d lo hi key word items old want m first it reached fits pairs_same since there w =
    let p : Parted d items w.left w.here w.right = parted d items w.left w.here w.right w.are in
    let at : Addr = addr_of word in
    let to : Addr = addr_of m.word in
    let xs : List (Item d) = p.low in
    let ys : List (Item d) = p.mid ∷ p.high in
    let k : m.key ≡ (spell d p.mid).key = w.key_is ∙ ap (λ (e : Entry). e.key) (sym p.mid_is) in
    let h : Halves d lo p.low p.mid p.high hi =
    ways_halves d lo p.low p.mid p.high hi (subst (λ (i : List (Item d)). Ways d lo i hi) p.are it.ways) in
    let hl : Ways d lo p.low (Some m.key) = subst (λ (x : List ℕ). Ways d lo p.low (Some x)) (sym k) h.left in
    let hr : Ways d (Some m.key) (p.mid ∷ p.high) hi =
    subst (λ (x : List ℕ). Ways d (Some x) (p.mid ∷ p.high) hi) (sym k) h.right in
    let full : Full u (places d items) = stand_full R u owner d items it.stand in
    let all : Stand R u owner d (p.low ++ p.mid ∷ p.high) =
    subst (λ (i : List (Item d)). Stand R u owner d i) p.are it.stand in
    let split : places d items ≡ places d p.low ++ places d (p.mid ∷ p.high) = ap (places d) p.are
    ∙ flat_join (homes d) p.low (p.mid ∷ p.high) in
    let same : (a : Addr) → IsAmong a (places d items) → t a ≡ u a =
    λ a i. w.frame a (λ e. it.distinct.0 (subst (λ (x : Addr). IsAmong x (places d items)) e i))
    (λ e. full a i (ap u e ∙ w.fresh)) in
    let inl_ : (a : Addr) → IsAmong a (places d p.low) → IsAmong a (places d items) =
    λ a i. moved a _ _ (sym split) (in_left a (places d p.low) (places d (p.mid ∷ p.high)) i) in
    let inr_ : (a : Addr) → IsAmong a (places d (p.mid ∷ p.high)) → IsAmong a (places d items) =
    λ a i. moved a _ _ (sym split) (in_right a (places d p.low) (places d (p.mid ∷ p.high)) i) in
    let sl : Stand R t owner d p.low =
    stand_kept R u t owner d p.low (all_left (Stands R u owner d) p.low (p.mid ∷ p.high) all)
    (λ a i. same a (inl_ a i)) in
    let sr : Stand R t owner d (p.mid ∷ p.high) =
    stand_kept R u t owner d (p.mid ∷ p.high) (all_right (Stands R u owner d) p.low (p.mid ∷ p.high) all)
    (λ a i. same a (inr_ a i)) in
    let ef : AllByRecursion IsEntry (w.left ++ w.here ∷ w.right) =
    subst (λ (x : List Entry). AllByRecursion IsEntry x) w.are fits in
    let fr : AllByRecursion IsEntry (w.here ∷ w.right) = all_right IsEntry w.left (w.here ∷ w.right) ef in
    let short = fr.0.key in
    let nl : Node R t owner 16 (addr_of word) w.left =
    record {
      reached = reached;
      bytes = w.left_at;
      fits = all_left IsEntry w.left (w.here ∷ w.right) ef;
      many =
          w.left_many;
      few = w.left_few;
    } in
    let nr : Node R t owner 16 (addr_of m.word) (w.here ∷ w.right) =
    record { reached = w.reached; bytes = w.right_at; fits = fr; many = w.right_many; few = w.right_few } in
    let nl2 : Node R t owner 16 (addr_of word) (map (spell d) p.low) =
    subst (λ (x : List Entry). Node R t owner 16 (addr_of word) x) (sym p.low_is) nl in
    let nr2 : Node R t owner 16 (addr_of m.word) (map (spell d) (p.mid ∷ p.high)) =
    subst (λ (x : List Entry). Node R t owner 16 (addr_of m.word) x) (sym p.high_is) nr in
    let dp : Parts (places d p.low) (places d (p.mid ∷ p.high)) =
    distinct_parts (places d p.low) (places d (p.mid ∷ p.high))
    (subst (λ (x : List Addr). Distinct x) split it.distinct.1) in
    let nil : (addr_of m.word ∷ places d (p.mid ∷ p.high)) ++ [] ≡ addr_of m.word ∷ places d (p.mid ∷ p.high) =
    append-nil (addr_of m.word ∷ places d (p.mid ∷ p.high)) in
    let all_new : (addr_of word ∷ places d p.low) ++ ((addr_of m.word ∷ places d (p.mid ∷ p.high)) ++ [])
    ≡ (addr_of word ∷ places d p.low) ++ (addr_of m.word ∷ places d (p.mid ∷ p.high)) =
    ap (λ t. (addr_of word ∷ places d p.low) ++ t) nil in
    let new_to : IsAmong (addr_of m.word) (places d items) → ⊥ = λ i. full (addr_of m.word) i w.fresh in
    let ldist : Distinct (addr_of word ∷ places d p.low) = (λ i. it.distinct.0 (inl_ (addr_of word) i), dp.left) in
    let rdist : Distinct (addr_of m.word ∷ places d (p.mid ∷ p.high)) =
    (λ i. new_to (inr_ (addr_of m.word) i), dp.right) in
    let apart : (a : Addr) → IsAmong a (addr_of word ∷ places d p.low)
    → IsAmong a (addr_of m.word ∷ places d (p.mid ∷ p.high)) → ⊥ = λ a i j. elim i [
      | inl e ↦ elim j [
        | inl f ↦ there (ap u (e ∙ sym f) ∙ w.fresh)
        | inr q ↦ it.distinct.0
            (inr_ (addr_of word) (subst (λ (x : Addr). IsAmong x (places d (p.mid ∷ p.high))) (sym e) q))
      ]
      | inr q ↦ elim j [
        | inl f ↦ new_to
            (inl_ (addr_of m.word) (subst (λ (x : Addr). IsAmong x (places d p.low)) (sym f) q))
        | inr r ↦ dp.apart a q r
      ]
    ] in
    let to_new : (a : Addr) → IsAmong a (addr_of word ∷ places d items)
    → IsAmong a ((addr_of word ∷ places d p.low) ++ (addr_of m.word ∷ places d (p.mid ∷ p.high))) = λ a i. elim i [
      | inl e ↦ inl e
      | inr q ↦ elim (in_or a (places d p.low) (places d (p.mid ∷ p.high)) (moved a _ _ split q)) [
        | inl l ↦ inr (in_left a (places d p.low) (addr_of m.word ∷ places d (p.mid ∷ p.high)) l)
        | inr r ↦ inr (in_right a (places d p.low) (addr_of m.word ∷ places d (p.mid ∷ p.high)) (inr r))
      ]
    ] in
    let from_new : (a : Addr)
    → IsAmong a ((addr_of word ∷ places d p.low) ++ (addr_of m.word ∷ places d (p.mid ∷ p.high)))
    → IsAmong a old ⊎ (s a ≡ None) =
    λ a i. elim (in_or a (addr_of word ∷ places d p.low) (addr_of m.word ∷ places d (p.mid ∷ p.high)) i) [
      | inl l ↦ elim l [ inl e ↦ since.fresh a (inl e) | inr q ↦ since.fresh a (inr (inl_ a q)) ]
      | inr r ↦ elim r [ inl e ↦ inr (since.stays a (ap u (sym e) ∙ w.fresh)) | inr q ↦ since.fresh a (inr (inr_ a q)) ]
    ] in
    record {
      new = record { key = key; word = word; items = p.low } ∷ record
          { key = m.key; word = m.word; items = p.mid ∷ p.high } ∷ [];
      ways = (Some m.key, (first, hl), (hi, (refl, hr), refl));
      shape = (
        p.low,
        p.mid ∷ p.high,
        refl,
        ((nl2, sl), ((nr2, sr), tt)),
        record { key = subst (λ (x : List ℕ). length x ≤ 1100) (sym w.key_is) short; word = w.word_fits },
      );
      content = ap (λ t. contents d p.low ++ t) (append-nil (contents d (p.mid ∷ p.high)))
          ∙ sym (flat_join (content d) p.low (p.mid ∷ p.high)) ∙ ap (contents d) (sym p.are) ∙ pairs_same;
      distinct = subst (λ (x : List Addr). Distinct x) (sym all_new)
          (distinct_join (addr_of word ∷ places d p.low) (addr_of m.word ∷ places d (p.mid ∷ p.high)) ldist rdist apart);
      keeps = λ a i. moved a _ _ (sym all_new) (to_new a (since.keeps a i));
      fresh = λ a i. from_new a (moved a _ _ all_new i);
      frame = λ a n.
          let n2 : IsAmong a ((addr_of word ∷ places d p.low) ++ (addr_of m.word ∷ places d (p.mid ∷ p.high))) → ⊥ =
          λ i. n (moved a _ _ (sym all_new) i) in
          w.frame a (λ e. n2 (inl (sym e)))
          (λ e. n2 (in_right a (addr_of word ∷ places d p.low) (addr_of m.word ∷ places d (p.mid ∷ p.high))
          (inl (sym e)))) ∙ since.frame a (λ i. n2 (to_new a i));
    }

-- either way
pub grown_pack : (R : Addr → Bool) (s u t : State) (owner least d : ℕ) (lo hi : Bound) (key : List ℕ) (word : ℕ)
    (items : List (Item d)) (old : List Addr) (want : List Entry) (more : Option Split) → lo ≡ Some key
    → Items R u owner d lo items hi (addr_of word) → R (addr_of word) ≡ true
    → AllByRecursion IsEntry (map (spell d) items) → least ≤ length (map (spell d) items) → contents d items ≡ want
    → Since s u old (addr_of word ∷ places d items) → (u (addr_of word) ≡ None → ⊥)
    → Packed R u t owner (addr_of word) (map (spell d) items) more
    → Grown R s t owner least d lo hi key word old want more
grown_pack R s u t owner least d lo hi key word items old want None first it reached fits many content since there w =
    grown_whole R s u t owner least d lo hi key word items old want first it reached fits many content since w
grown_pack R s u t owner least d lo hi key word items old want (Some m) first it reached fits many content since there
    w = grown_halved R s u t owner least d lo hi key word items old want m first it reached fits content since there w

no_split : (m : Split) → ◌≡◌ {A = Option Split} None (Some m) → ⊥
no_split m e = cc

-- a node is split only where it has more than 32 entries
pub packed_over : (R : Addr → Bool) (s t : State) (owner : ℕ) (at : Addr) (es : List Entry) (more : Option Split)
    (m : Split) → Packed R s t owner at es more → more ≡ Some m → 32 < length es
packed_over R s t owner at es None m w e = absurd (no_split m e)
packed_over R s t owner at es (Some n) m w e = w.over
