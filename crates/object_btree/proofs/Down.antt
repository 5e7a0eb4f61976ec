-- What a node tells of an insertion, and how its change is put together.
use Rattle.std.proofs.Common.{◌≡◌, inl, ℕ, zero, suc, ◌-◌, ◌+◌, ◌≤◌, ◌<◌, ◌^◌, Bool, List, [], ◌∷◌, ◌++◌, length, Option, Some, None, refl, sym, ap, subst, ◌∙◌, append_assoc, arith}
use Rattle.std.specs.Prelude.{map}
use Rattle.std.specs.List.{AllByRecursion}
use Rattle.std.proofs.lemmas.List.{length-append, length-map}
use Rattle.a1_base.specs.Lists.{IsAmong}
use Rattle.a1_base.specs.declared.place.Addr.{Addr}
use Rattle.object_view.specs.Agreement.{State}
use Rattle.object_view.specs.Layout.{Entry, IsEntry, addr_of, node_bytes}
use Rattle.object_view.specs.Keys.{Bound, UpTo, Below, compare}
use Rattle.std.specs.declared.cmp.Ordering.{Ordering}
use Rattle.std.specs.declared.cmp.Ordering.TheVariants.{Less, Equal, Greater}
use Rattle.object_view.specs.Keys.{lookup, inserted, removed, by_order}
use Rattle.object_view.specs.Trees.{Branch, Item, spell, homes, Node, Ways, contents, places, Stand, Distinct, Sub}
use Rattle.object_btree.specs.Levels.{Ahead, Full}
use Rattle.object_btree.specs.Steps.{Begins, Packed, Shape, Grown, Inserts}
use Rattle.object_btree.specs.declared.nodes.Split.{Split}
use Rattle.object_btree.specs.declared.insertion.Put.{Put}
use Rattle.object_view.proofs.Layouts.{some_is}
use Rattle.object_btree.proofs.Leaves.{fits_put, longer_put, Longer, new_key}
use Rattle.object_btree.proofs.Paths.{map_join, all_left, all_right}
use Rattle.object_view.proofs.Reading.{all_join}
use Rattle.object_btree.proofs.Pairing.{put_mid, find_mid, ways_put}
use Rattle.object_view.proofs.Standing.{node_full, node_kept}
use Rattle.object_btree.proofs.Grows.{grown_pack, packed_over}
use Rattle.object_btree.proofs.Children.{Among, among, Mid, middle}

pub spell_pairs : (es : List Entry) → map (spell zero) es ≡ es
spell_pairs [] = refl
spell_pairs (e ∷ es) = ap (λ t. e ∷ t) (spell_pairs es)

pub pairs_flat : (es : List Entry) → contents zero es ≡ es
pairs_flat [] = refl
pairs_flat (e ∷ es) = ap (λ t. e ∷ t) (pairs_flat es)

pub no_places : (es : List Entry) → places zero es ≡ []
no_places [] = refl
no_places (e ∷ es) = no_places es

by_all : {A : Type 0} (P : A → Type 0) (o : Ordering) (x y z : A) → P x → P y → P z → P (by_order o x y z)
by_all P Less x y z p q r = p
by_all P Equal x y z p q r = q
by_all P Greater x y z p q r = r

pub stand_put : (R : Addr → Bool) (s t : State) (owner : ℕ) (k : List ℕ) (v : ℕ) (es : List Entry) → 1 ≤ length k
    → Stand R s owner zero es → Stand R t owner zero (inserted k v es)
stand_put R s t owner k v [] some st = (some, tt)
stand_put R s t owner k v (e ∷ es) some st =
    by_all (λ (x : List Entry). Stand R t owner zero x) (compare e.key k) (e ∷ inserted k v es)
    (record { key = k; word = v } ∷ es) (record { key = k; word = v } ∷ e ∷ es)
    (st.0, stand_put R s t owner k v es some st.1) (some, st.1) (some, st)

pub stand_take : (R : Addr → Bool) (s t : State) (owner : ℕ) (k : List ℕ) (es : List Entry) → Stand R s owner zero es
    → Stand R t owner zero (removed k es)
stand_take R s t owner k [] st = tt
stand_take R s t owner k (e ∷ es) st =
    by_all (λ (x : List Entry). Stand R t owner zero x) (compare e.key k) (e ∷ removed k es) es (e ∷ es)
    (st.0, stand_take R s t owner k es st.1) st.1 st

-- ---- a leaf

pub record LeafAt (R : Addr → Bool) (s : State) (owner least height : ℕ) (k : List ℕ) (v : ℕ) (lo : Bound)
    (b : Branch (Item height)) (hi : Bound) (at : Addr) (bytes : List ℕ) : Type 0 where
  pub es : List Entry
  pub bytes_are : bytes ≡ node_bytes owner es
  pub fits : AllByRecursion IsEntry es
  pub few : length es ≤ 32
  pub old : lookup k es ≡ lookup k (contents height b.items)
  pub full : 32 < length (inserted k v es) → Full height k b.items
  pub up : (t : State) (more : Option Split) → v < 2 ^ 64 → 1 ≤ length k → length k ≤ 1100
      → Packed R s t owner at (inserted k v es) more
      → Grown R s t owner least height lo hi b.key b.word (homes (suc height) b) (inserted k v (contents height b.items))
      more

leaf_zero : (R : Addr → Bool) (s : State) (owner least : ℕ) (k : List ℕ) (v : ℕ) (lo : Bound) (b : Branch Entry)
    (hi : Bound) (at : Addr) (bytes : List ℕ) → Sub R s owner least zero lo b hi → addr_of b.word ≡ at
    → s at ≡ Some bytes → UpTo lo (Some k) → Below k hi → LeafAt R s owner least zero k v lo b hi at bytes
leaf_zero R s owner least k v lo b hi at bytes sub here h from below =
    let n = sub.node in
    let same : map (spell zero) b.items ≡ b.items = spell_pairs b.items in
    let bytes_at : s (addr_of b.word) ≡ Some bytes = ap s here ∙ h in
    let fits : AllByRecursion IsEntry b.items = subst (λ (x : List Entry). AllByRecursion IsEntry x) same n.fits in
    let few : length b.items ≤ 32 = subst (λ (x : List Entry). length x ≤ 32) same n.few in
    let many : least ≤ length b.items = subst (λ (x : List Entry). least ≤ length x) same n.many in
    let same2 : map (spell zero) (inserted k v b.items) ≡ inserted k v b.items = spell_pairs (inserted k v b.items) in
    let l : Longer (length b.items) (length (inserted k v b.items)) = longer_put k v b.items in
    let more_long = l.same in
    let many2 : least ≤ length (inserted k v b.items) = omega (arith, many, more_long) in
    let no : places zero b.items ≡ [] = no_places b.items in
    let no2 : places zero (inserted k v b.items) ≡ [] = no_places (inserted k v b.items) in
    record {
      es = b.items;
      bytes_are = some_is _ _ (sym bytes_at ∙ n.bytes) ∙ ap (node_bytes owner) same;
      fits = fits;
      few = few;
      old = ap (lookup k) (sym (pairs_flat b.items));
      full = λ over. let one = l.one in (omega (arith, few, over, one), new_key k v b.items (omega (arith, few, over)));
      up = λ t more vf kn kf w.
          grown_pack R s s t owner least zero lo hi b.key b.word (inserted k v b.items) (homes (suc zero) b)
          (inserted k v (contents zero b.items)) more
          sub.spans.0
          (record {
            ways = ways_put k v lo b.items hi from below sub.spans.1;
            stand =
                stand_put R s s owner k v b.items kn sub.stand;
            distinct =
                subst (λ (x : List Addr). Distinct (addr_of b.word ∷ x)) (sym no2) (λ i. absurd i, tt);
          })
          n.reached
          (subst (λ (x : List Entry). AllByRecursion IsEntry x) (sym same2)
          (fits_put k v b.items (record { key = kf; word = vf }) fits))
          (subst (λ (x : List Entry). least ≤ length x) (sym same2) many2)
          (pairs_flat (inserted k v b.items) ∙ ap (inserted k v) (sym (pairs_flat b.items)))
          (record {
            keeps = λ a i. subst (λ (x : List Addr). IsAmong a (addr_of b.word ∷ x)) (no ∙ sym no2) i;
            fresh =
                λ a i. inl (subst (λ (x : List Addr). IsAmong a (addr_of b.word ∷ x)) (no2 ∙ sym no) i);
            stays = λ a z. z;
            frame = λ a z. refl;
          })
          (node_full R s owner least (addr_of b.word) (map (spell zero) b.items) n)
          (subst (λ (x : Addr). Packed R s t owner x (map (spell zero) (inserted k v b.items)) more) (sym here)
          (subst (λ (x : List Entry). Packed R s t owner at x more) (sym same2) w));
    }

pub leaf_at : (R : Addr → Bool) (s : State) (owner least height : ℕ) (k : List ℕ) (v : ℕ) (lo : Bound)
    (b : Branch (Item height)) (hi : Bound) (at : Addr) (bytes : List ℕ) → height ≡ 0
    → Sub R s owner least height lo b hi → addr_of b.word ≡ at → s at ≡ Some bytes → UpTo lo (Some k) → Below k hi
    → LeafAt R s owner least height k v lo b hi at bytes
leaf_at R s owner least zero k v lo b hi at bytes z sub here h from below =
    leaf_zero R s owner least k v lo b hi at bytes sub here h from below
leaf_at R s owner least (suc d) k v lo b hi at bytes z sub here h from below = absurd cc

-- ---- an inner node

abbrev pub Stays : State → State → Type 0
Stays s u = (a : Addr) → u a ≡ None → s a ≡ None

abbrev pub as_entry : Split → Entry
as_entry m = record { key = m.key; word = m.word }

pub record ChildAt (R : Addr → Bool) (s : State) (owner least below height : ℕ) (k : List ℕ) (v : ℕ) (lo : Bound)
    (b : Branch (Item height)) (hi : Bound) (at : Addr) (low : List Entry) (here : Entry) (high : List Entry) : Type 0
  where
    pub child : Branch (Item below)
    pub clo : Bound
    pub chi : Bound
    pub sub : Sub R s owner 16 below clo child chi
    pub word_is : child.word ≡ here.word
    pub from : UpTo clo (Some k)
    pub upto : Below k chi
    pub old : lookup k (contents below child.items) ≡ lookup k (contents height b.items)
    pub full : (m : Entry) → 32 < length ((low ++ here ∷ []) ++ m ∷ high) → Full below k child.items
        → Full height k b.items
    pub up_none : (u : State)
        → Grown R s u owner 16 below clo chi child.key child.word (homes (suc below) child)
        (inserted k v (contents below child.items)) None → Stays s u
        → Grown R s u owner least height lo hi b.key b.word (homes (suc height) b) (inserted k v (contents height b.items))
        None
    pub up_some : (u t : State) (m : Split) (more : Option Split)
        → Grown R s u owner 16 below clo chi child.key child.word (homes (suc below) child)
        (inserted k v (contents below child.items)) (Some m) → Stays s u
        → Packed R u t owner at ((low ++ here ∷ []) ++ as_entry m ∷ high) more
        → Grown R s t owner least height lo hi b.key b.word (homes (suc height) b) (inserted k v (contents height b.items))
        more

pub record DownAt (R : Addr → Bool) (s : State) (owner least below height : ℕ) (k : List ℕ) (v : ℕ) (lo : Bound)
    (b : Branch (Item height)) (hi : Bound) (at : Addr) (bytes : List ℕ) : Type 0 where
  pub es : List Entry
  pub bytes_are : bytes ≡ node_bytes owner es
  pub fits : AllByRecursion IsEntry es
  pub few : length es ≤ 32
  pub begins : 1 ≤ least → Begins k es
  pub child : (low : List Entry) (here : Entry) (high : List Entry) → es ≡ low ++ here ∷ high
      → UpTo (Some here.key) (Some k) → Ahead k high → ChildAt R s owner least below height k v lo b hi at low here high

pub begins_at : (d : ℕ) (k : List ℕ) (lo hi : Bound) (bs : List (Branch (Item d))) → Ways (suc d) lo bs hi
    → UpTo lo (Some k) → 1 ≤ length (map (spell (suc d)) bs) → Begins k (map (spell (suc d)) bs)
begins_at d k lo hi [] w from some = absurd (omega arith)
begins_at d k lo hi (x ∷ xs) w from some = subst (λ (t : Bound). UpTo t (Some k)) w.1.0 from

one_stand : (R : Addr → Bool) (u : State) (owner d : ℕ) (key : List ℕ) (word : ℕ) (new : List (Branch (Item d)))
    (more : Option Split) → Shape R u owner 16 d key word more new → Stand R u owner (suc d) new
one_stand R u owner d key word new None (items, e, node, st) =
    subst (λ (x : List (Branch (Item d))). Stand R u owner (suc d) x) (sym e) ((node, st), tt)
one_stand R u owner d key word new (Some m) (l, r, e, st, fits) = st

spelled_one : (R : Addr → Bool) (u : State) (owner d : ℕ) (before new after : List (Branch (Item d)))
    (child : Branch (Item d)) → Shape R u owner 16 d child.key child.word None new
    → map (spell (suc d)) (before ++ (new ++ after)) ≡ map (spell (suc d)) (before ++ child ∷ after)
spelled_one R u owner d before new after child (items, e, node, st) =
    ap (λ (x : List (Branch (Item d))). map (spell (suc d)) (before ++ (x ++ after))) e
    ∙ map_join (spell (suc d)) before (record { key = child.key; word = child.word; items = items } ∷ after)
    ∙ sym (map_join (spell (suc d)) before (child ∷ after))

cons_tail : {A : Type 0} (a b : A) (xs ys : List A) → a ∷ xs ≡ b ∷ ys → xs ≡ ys
cons_tail a b xs ys e = cc

spelled_two : (R : Addr → Bool) (u : State) (owner d : ℕ) (before new after : List (Branch (Item d)))
    (child : Branch (Item d)) (m : Split) (low : List Entry) (here : Entry) (high : List Entry)
    → map (spell (suc d)) before ≡ low → spell (suc d) child ≡ here → map (spell (suc d)) (child ∷ after) ≡ here ∷ high
    → Shape R u owner 16 d child.key child.word (Some m) new
    → map (spell (suc d)) (before ++ (new ++ after)) ≡ (low ++ here ∷ []) ++ as_entry m ∷ high
spelled_two R u owner d before new after child m low here high el eh er (l, r, e, st, fits) =
    let tail : map (spell (suc d)) after ≡ high =
    cons_tail (spell (suc d) child) here (map (spell (suc d)) after) high er in
    ap (λ (x : List (Branch (Item d))). map (spell (suc d)) (before ++ (x ++ after))) e
    ∙ map_join (spell (suc d)) before
    (record { key = child.key; word = child.word; items = l } ∷ record { key = m.key; word = m.word; items = r }
    ∷ after)
    ∙ ap (λ t. t ++ spell (suc d) child ∷ as_entry m ∷ map (spell (suc d)) after) el
    ∙ ap (λ t. low ++ t ∷ as_entry m ∷ map (spell (suc d)) after) eh
    ∙ ap (λ t. low ++ here ∷ as_entry m ∷ t) tail
    ∙ sym (append_assoc low (here ∷ []) (as_entry m ∷ high))

fits_of : (R : Addr → Bool) (u : State) (owner d : ℕ) (key : List ℕ) (word : ℕ) (m : Split)
    (new : List (Branch (Item d))) → Shape R u owner 16 d key word (Some m) new → IsEntry (as_entry m)
fits_of R u owner d key word m new (l, r, e, st, fits) = fits

pub child_short : (R : Addr → Bool) (s u : State) (owner d : ℕ) (lo hi : Bound) (key : List ℕ) (word : ℕ)
    (old : List Addr) (want : List Entry) (m : Split) → Grown R s u owner 16 d lo hi key word old want (Some m)
    → length m.key ≤ 1100
child_short R s u owner d lo hi key word old want m g = (fits_of R u owner d key word m g.new g.shape).key

-- a node with 32 entries, by the one that a further entry comes behind
exact_of : (low : List Entry) (here : Entry) (high : List Entry) (m : Entry) → length (low ++ here ∷ high) ≤ 32
    → 32 < length ((low ++ here ∷ []) ++ m ∷ high) → length (low ++ here ∷ high) ≡ 32
exact_of low here high m few over =
    let l1 = length-append low (here ∷ high) in
    let l2 = length-append (low ++ here ∷ []) (m ∷ high) in
    let l3 = length-append low (here ∷ []) in
    let l4 : length (here ∷ high) ≡ suc (length high) = refl in
    let l5 : length (m ∷ high) ≡ suc (length high) = refl in
    let l6 : length (here ∷ []) ≡ 1 = refl in
    omega (arith, l1, l2, l3, l4, l5, l6, few, over)

child_suc : (R : Addr → Bool) (s : State) (owner least d : ℕ) (k : List ℕ) (v : ℕ) (lo : Bound)
    (b : Branch (Branch (Item d))) (hi : Bound) (at : Addr) (low : List Entry) (here : Entry) (high : List Entry)
    → Sub R s owner least (suc d) lo b hi → addr_of b.word ≡ at → Below k hi
    → map (spell (suc d)) b.items ≡ low ++ here ∷ high → UpTo (Some here.key) (Some k) → Ahead k high
    → ChildAt R s owner least d (suc d) k v lo b hi at low here high
child_suc R s owner least d k v lo b hi at low here high sub at_is below e from ahead =
    let n = sub.node in
    let there : s (addr_of b.word) ≡ None → ⊥ =
    node_full R s owner least (addr_of b.word) (map (spell (suc d)) b.items) n in
    let a : Among R s owner d lo b.items hi (addr_of b.word) k low here high =
    among R s owner d lo b.items hi (addr_of b.word) k low here high sub.spans.1 sub.stand sub.distinct e from ahead
    below in
    let whole : contents (suc d) a.before ++ (inserted k v (contents d a.child.items) ++ contents (suc d) a.after)
    ≡ inserted k v (contents (suc d) b.items) =
    sym (ap (inserted k v) a.pairs
    ∙ put_mid k v (contents (suc d) a.before) (contents d a.child.items) (contents (suc d) a.after) a.lows a.highs) in
    let mid : (u : State) (more : Option Split)
    → (g : Grown R s u owner 16 d a.clo a.chi a.child.key a.child.word (homes (suc d) a.child)
    (inserted k v (contents d a.child.items)) more) → Stays s u
    → Mid R s u owner d lo hi (addr_of b.word) b.items a.before g.new a.after
    (inserted k v (contents (suc d) b.items)) = λ u more g stays.
    middle R s u owner d lo hi (addr_of b.word) b.items a.before g.new a.after a.child a.clo a.chi
    (inserted k v (contents (suc d) b.items)) (inserted k v (contents d a.child.items)) there a.left g.ways a.right
    a.left_stand (one_stand R u owner d a.child.key a.child.word g.new more g.shape) a.right_stand a.split a.distinct
    g.distinct g.content whole g.keeps g.fresh g.frame stays in
    record {
      child = a.child;
      clo = a.clo;
      chi = a.chi;
      sub = a.sub;
      word_is = ap (λ (x : Entry). x.word) a.here_is;
      from = a.from;
      upto = a.upto;
      old = sym (ap (lookup k) a.pairs
          ∙ find_mid k (contents (suc d) a.before) (contents d a.child.items) (contents (suc d) a.after) a.lows a.highs);
      full = λ m over deep.
          let tail : map (spell (suc d)) a.after ≡ high =
          cons_tail (spell (suc d) a.child) here (map (spell (suc d)) a.after) high a.high_is in
          let long : length (map (spell (suc d)) b.items) ≡ length (low ++ here ∷ high) = ap length e in
          let short : length (low ++ here ∷ high) ≤ 32 = subst (λ (x : List Entry). length x ≤ 32) e n.few in (
            sym (length-map b.items (spell (suc d))) ∙ long ∙ exact_of low here high m short over,
            a.before,
            a.child,
            a.after,
            a.are,
            subst (λ (x : Bound). UpTo x (Some k)) a.sub.spans.0 a.from,
            subst (λ (x : List Entry). Ahead k x) (sym tail) ahead,
            deep,
          );
      up_none = λ u g stays.
          let m : Mid R s u owner d lo hi (addr_of b.word) b.items a.before g.new a.after
          (inserted k v (contents (suc d) b.items)) = mid u None g stays in
          let same : map (spell (suc d)) (a.before ++ (g.new ++ a.after)) ≡ map (spell (suc d)) b.items =
          spelled_one R u owner d a.before g.new a.after a.child g.shape ∙ ap (map (spell (suc d))) (sym a.are) in
          let un : Node R u owner least (addr_of b.word) (map (spell (suc d)) b.items) =
          node_kept R s u owner least (addr_of b.word) (map (spell (suc d)) b.items) n m.here in
          let un2 : Node R u owner least (addr_of b.word) (map (spell (suc d)) (a.before ++ (g.new ++ a.after))) =
          subst (λ (x : List Entry). Node R u owner least (addr_of b.word) x) (sym same) un in
          grown_pack R s u u owner least (suc d) lo hi b.key b.word (a.before ++ (g.new ++ a.after))
          (homes (suc (suc d)) b) (inserted k v (contents (suc d) b.items)) None sub.spans.0 m.it n.reached un2.fits
          un2.many m.content m.since (node_full R u owner least (addr_of b.word) (map (spell (suc d)) b.items) un)
          (record { here = un2.bytes; few = un2.few; frame = λ x z. refl });
      up_some = λ u t m2 more g stays w.
          let m : Mid R s u owner d lo hi (addr_of b.word) b.items a.before g.new a.after
          (inserted k v (contents (suc d) b.items)) = mid u (Some m2) g stays in
          let same : map (spell (suc d)) (a.before ++ (g.new ++ a.after)) ≡ (low ++ here ∷ []) ++ as_entry m2 ∷ high =
          spelled_two R u owner d a.before g.new a.after a.child m2 low here high a.low_is a.here_is a.high_is
          g.shape in
          let un : Node R u owner least (addr_of b.word) (map (spell (suc d)) b.items) =
          node_kept R s u owner least (addr_of b.word) (map (spell (suc d)) b.items) n m.here in
          let ef : AllByRecursion IsEntry (low ++ here ∷ high) =
          subst (λ (x : List Entry). AllByRecursion IsEntry x) e n.fits in
          let fl : AllByRecursion IsEntry low = all_left IsEntry low (here ∷ high) ef in
          let fr : AllByRecursion IsEntry (here ∷ high) = all_right IsEntry low (here ∷ high) ef in
          let fits : AllByRecursion IsEntry ((low ++ here ∷ []) ++ as_entry m2 ∷ high) =
          all_join IsEntry (low ++ here ∷ []) (as_entry m2 ∷ high) (all_join IsEntry low (here ∷ []) fl (fr.0, tt))
          (fits_of R u owner d a.child.key a.child.word m2 g.new g.shape, fr.1) in
          let l0 : length (map (spell (suc d)) b.items) ≡ length (low ++ here ∷ high) = ap length e in
          let l1 = length-append low (here ∷ high) in
          let l2 = length-append (low ++ here ∷ []) (as_entry m2 ∷ high) in
          let l3 = length-append low (here ∷ []) in
          let l4 : length (here ∷ high) ≡ suc (length high) = refl in
          let l5 : length (as_entry m2 ∷ high) ≡ suc (length high) = refl in
          let many = n.many in
          let more_many : least ≤ length ((low ++ here ∷ []) ++ as_entry m2 ∷ high) =
          omega (arith, l0, l1, l2, l3, l4, l5, many) in
          grown_pack R s u t owner least (suc d) lo hi b.key b.word (a.before ++ (g.new ++ a.after))
          (homes (suc (suc d)) b) (inserted k v (contents (suc d) b.items)) more sub.spans.0 m.it n.reached
          (subst (λ (x : List Entry). AllByRecursion IsEntry x) (sym same) fits)
          (subst (λ (x : List Entry). least ≤ length x) (sym same) more_many) m.content m.since
          (node_full R u owner least (addr_of b.word) (map (spell (suc d)) b.items) un)
          (subst (λ (x : Addr). Packed R u t owner x (map (spell (suc d)) (a.before ++ (g.new ++ a.after))) more)
          (sym at_is) (subst (λ (x : List Entry). Packed R u t owner at x more) (sym same) w));
    }

down_suc : (R : Addr → Bool) (s : State) (owner least d : ℕ) (k : List ℕ) (v : ℕ) (lo : Bound)
    (b : Branch (Branch (Item d))) (hi : Bound) (at : Addr) (bytes : List ℕ) → Sub R s owner least (suc d) lo b hi
    → addr_of b.word ≡ at → s at ≡ Some bytes → UpTo lo (Some k) → Below k hi
    → DownAt R s owner least d (suc d) k v lo b hi at bytes
down_suc R s owner least d k v lo b hi at bytes sub here h from below =
    let n = sub.node in
    let many = n.many in
    let bytes_at : s (addr_of b.word) ≡ Some bytes = ap s here ∙ h in
    record {
      es = map (spell (suc d)) b.items;
      bytes_are = some_is _ _ (sym bytes_at ∙ n.bytes);
      fits = n.fits;
      few = n.few;
      begins = λ one. begins_at d k lo hi b.items sub.spans.1 from (omega (arith, one, many));
      child = λ low e high are f a. child_suc R s owner least d k v lo b hi at low e high sub here below are f a;
    }

pub down_at : (R : Addr → Bool) (s : State) (owner least height : ℕ) (k : List ℕ) (v : ℕ) (lo : Bound)
    (b : Branch (Item height)) (hi : Bound) (at : Addr) (bytes : List ℕ) → (height ≡ 0 → ⊥)
    → Sub R s owner least height lo b hi → addr_of b.word ≡ at → s at ≡ Some bytes → UpTo lo (Some k) → Below k hi
    → DownAt R s owner least (height - 1) height k v lo b hi at bytes
down_at R s owner least zero k v lo b hi at bytes n sub here h from below = absurd (n refl)
down_at R s owner least (suc d) k v lo b hi at bytes n sub here h from below =
    let e : d ≡ suc d - 1 = omega arith in
    subst (λ (m : ℕ). DownAt R s owner least m (suc d) k v lo b hi at bytes) e
    (down_suc R s owner least d k v lo b hi at bytes sub here h from below)

-- ---- the two ends of an insertion below an inner node

pub record RouteParts (low : List Entry) (here : Entry) (high : List Entry) : Type 0 where
  pub low_fits : AllByRecursion IsEntry (low ++ here ∷ [])
  pub high_fits : AllByRecursion IsEntry high
  pub few : length (low ++ here ∷ []) + length high ≤ 33
  pub exact : length (low ++ here ∷ []) + length high ≤ 32

pub route_parts : (es low : List Entry) (here : Entry) (high : List Entry) → es ≡ low ++ here ∷ high
    → AllByRecursion IsEntry es → length es ≤ 32 → RouteParts low here high
route_parts es low here high e fits few =
    let ef : AllByRecursion IsEntry (low ++ here ∷ high) =
    subst (λ (x : List Entry). AllByRecursion IsEntry x) e fits in
    let fr : AllByRecursion IsEntry (here ∷ high) = all_right IsEntry low (here ∷ high) ef in
    let l0 : length es ≡ length (low ++ here ∷ high) = ap length e in
    let l1 = length-append low (here ∷ high) in
    let l3 = length-append low (here ∷ []) in
    let l4 : length (here ∷ high) ≡ suc (length high) = refl in
    let l5 : length (here ∷ []) ≡ 1 = refl in
    record {
      low_fits = all_join IsEntry low (here ∷ []) (all_left IsEntry low (here ∷ high) ef) (fr.0, tt);
      high_fits = fr.1;
      few = omega (arith, l0, l1, l3, l4, l5, few);
      exact = omega (arith, l0, l1, l3, l4, l5, few);
    }

none_split : (m : Split) → ◌≡◌ {A = Option Split} None (Some m) → ⊥
none_split m e = cc

pub done_none : (R R1 : Addr → Bool) (s s1 u : State) (owner least below height : ℕ) (k : List ℕ) (v : ℕ) (lo : Bound)
    (b : Branch (Item height)) (hi : Bound) (at : Addr) (low : List Entry) (here : Entry) (high : List Entry)
    (q : ChildAt R s owner least below height k v lo b hi at low here high) (put : Put) → R1 ≡ R → s1 ≡ s
    → Inserts R1 s1 u owner 16 below q.clo q.child q.chi k v put → put.more ≡ None → Stays s1 u
    → Inserts R s u owner least height lo b hi k v (record { old = put.old; more = None })
done_none R R1 s s1 u owner least below height k v lo b hi at low here high q put er es w none stays =
    let w1 : Inserts R s1 u owner 16 below q.clo q.child q.chi k v put =
    subst (λ (r : Addr → Bool). Inserts r s1 u owner 16 below q.clo q.child q.chi k v put) er w in
    let w2 : Inserts R s u owner 16 below q.clo q.child q.chi k v put =
    subst (λ (x : State). Inserts R x u owner 16 below q.clo q.child q.chi k v put) es w1 in
    let st : Stays s u = subst (λ (x : State). Stays x u) es stays in
    let g : Grown R s u owner 16 below q.clo q.chi q.child.key q.child.word (homes (suc below) q.child)
    (inserted k v (contents below q.child.items)) None =
    subst (λ (m : Option Split). Grown R s u owner 16 below q.clo q.chi q.child.key q.child.word
    (homes (suc below) q.child) (inserted k v (contents below q.child.items)) m) none w2.grown in
    record { grown = q.up_none u g st; full = λ m e. absurd (none_split m e); old = w2.old ∙ q.old }

pub some_short : (R R1 : Addr → Bool) (s s1 u : State) (owner below : ℕ) (k : List ℕ) (v : ℕ) (lo : Bound)
    (b : Branch (Item below)) (hi : Bound) (put : Put) (m : Split) → Inserts R1 s1 u owner 16 below lo b hi k v put
    → put.more ≡ Some m → length m.key ≤ 1100
some_short R R1 s s1 u owner below k v lo b hi put m w some =
    child_short R1 s1 u owner below lo hi b.key b.word (homes (suc below) b) (inserted k v (contents below b.items)) m
    (subst (λ (x : Option Split). Grown R1 s1 u owner 16 below lo hi b.key b.word (homes (suc below) b)
    (inserted k v (contents below b.items)) x) some w.grown)

pub done_some : (R R1 R2 : Addr → Bool) (s s1 u t : State) (owner least below height : ℕ) (k : List ℕ) (v : ℕ)
    (lo : Bound) (b : Branch (Item height)) (hi : Bound) (at : Addr) (low : List Entry) (here : Entry)
    (high : List Entry) (q : ChildAt R s owner least below height k v lo b hi at low here high) (put : Put) (m : Split)
    (out : Option Split) → R1 ≡ R → R2 ≡ R1 → s1 ≡ s → Inserts R1 s1 u owner 16 below q.clo q.child q.chi k v put
    → put.more ≡ Some m → Stays s1 u → Packed R2 u t owner at ((low ++ here ∷ []) ++ as_entry m ∷ high) out
    → Inserts R s t owner least height lo b hi k v (record { old = put.old; more = out })
done_some R R1 R2 s s1 u t owner least below height k v lo b hi at low here high q put m out er er2 es w some stays p =
    let w1 : Inserts R s1 u owner 16 below q.clo q.child q.chi k v put =
    subst (λ (r : Addr → Bool). Inserts r s1 u owner 16 below q.clo q.child q.chi k v put) er w in
    let w2 : Inserts R s u owner 16 below q.clo q.child q.chi k v put =
    subst (λ (x : State). Inserts R x u owner 16 below q.clo q.child q.chi k v put) es w1 in
    let st : Stays s u = subst (λ (x : State). Stays x u) es stays in
    let p1 : Packed R u t owner at ((low ++ here ∷ []) ++ as_entry m ∷ high) out =
    subst (λ (r : Addr → Bool). Packed r u t owner at ((low ++ here ∷ []) ++ as_entry m ∷ high) out) (er2 ∙ er) p in
    let g : Grown R s u owner 16 below q.clo q.chi q.child.key q.child.word (homes (suc below) q.child)
    (inserted k v (contents below q.child.items)) (Some m) =
    subst (λ (x : Option Split). Grown R s u owner 16 below q.clo q.chi q.child.key q.child.word
    (homes (suc below) q.child) (inserted k v (contents below q.child.items)) x) some w2.grown in
    record {
      grown = q.up_some u t m out g st p1;
      full = λ n e. q.full (as_entry m)
          (packed_over R u t owner at ((low ++ here ∷ []) ++ as_entry m ∷ high) out n p1 e) (w2.full m some);
      old = w2.old ∙ q.old;
    }
