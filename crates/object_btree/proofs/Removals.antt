-- What a node tells of a removal, and how its change is put together.
use Rattle.std.proofs.Common.{◌≡◌, inl, inr, ℕ, zero, suc, ◌-◌, ◌+◌, ◌≤◌, Bool, false, List, [], ◌∷◌, ◌++◌, length, Some, None, Result, refl, sym, ap, subst, ◌∙◌, append_assoc, arith}
use Rattle.std.specs.Prelude.{map}
use Rattle.std.specs.List.{AllByRecursion}
use Rattle.std.proofs.lemmas.List.{length-append}
use Rattle.a1_base.specs.Lists.{IsAmong}
use Rattle.a1_base.specs.declared.place.Addr.{Addr}
use Rattle.object_view.specs.Agreement.{State}
use Rattle.object_view.specs.declared.parts.PartFault.{PartFault}
use Rattle.object_view.specs.Layout.{Entry, IsEntry, addr_of, node_bytes}
use Rattle.object_view.specs.Keys.{Bound, UpTo, Below}
use Rattle.object_view.specs.Keys.{lookup, removed}
use Rattle.object_view.specs.Trees.{Branch, Item, spell, Stands, Ways, contents, places, Stand, Distinct, Sub}
use Rattle.object_btree.specs.Levels.{Ahead}
use Rattle.object_btree.specs.Steps.{Begins, Shrunk, Removes, LeafTaken, PairAt, JoinedAt}
use Rattle.object_view.specs.Parts.{Tells}
use Rattle.object_btree.specs.declared.removal.Taken.{Taken}
use Rattle.object_view.proofs.Layouts.{some_is}
use Rattle.object_view.proofs.Views.{tells_map}
use Rattle.object_btree.proofs.Paths.{map_join, all_left, all_right}
use Rattle.object_btree.proofs.Pairing.{ways_take, find_mid}
use Rattle.object_view.proofs.Standing.{node_full}
use Rattle.object_btree.proofs.Takes.{Shorter, shorter, fits_take}
use Rattle.object_btree.proofs.Down.{spell_pairs, pairs_flat, no_places, stand_take, begins_at}
use Rattle.object_btree.proofs.Children.{Among, among}
use Rattle.object_btree.proofs.Joins.{Two}
use Rattle.object_btree.proofs.Less.{Less, lessen, shrunk_firm}
use Rattle.object_btree.proofs.Repairs.{pair_of, repaired}

-- what a repair says
pub record RepairTells (R : Addr → Bool) (u t : State) (owner : ℕ) (at : Addr) (low : List Entry) (here : Entry)
    (high : List Entry) (r : Result Bool PartFault) : Type 0 where
  pub right : (f : Entry) (high2 xs ys : List Entry) → high ≡ f ∷ high2
      → PairAt R u owner at (addr_of here.word) (addr_of f.word) xs ys
      → Tells r (λ thin. JoinedAt u t owner at (addr_of here.word) (addr_of f.word) low here.key here.word f.word
      high2 xs
      ys thin)
  pub left : (low2 : List Entry) (e : Entry) (xs ys : List Entry) → high ≡ [] → low ≡ low2 ++ e ∷ []
      → PairAt R u owner at (addr_of e.word) (addr_of here.word) xs ys
      → Tells r (λ thin. JoinedAt u t owner at (addr_of e.word) (addr_of here.word) low2 e.key e.word here.word [] xs ys
      thin)

pub record Snoc {A : Type 0} (xs : List A) : Type 0 where
  pub front : List A
  pub last : A
  pub are : xs ≡ front ++ last ∷ []

snoc : {A : Type 0} (xs : List A) → 1 ≤ length xs → Snoc xs
snoc [] h = absurd (omega arith)
snoc (x ∷ []) h = record { front = []; last = x; are = refl }
snoc (x ∷ y ∷ ys) h = let s = snoc (y ∷ ys) (omega arith) in
    record { front = x ∷ s.front; last = s.last; are = ap (λ t. x ∷ t) s.are }

some_map : (d : ℕ) (xs : List (Branch (Item d))) → 1 ≤ length (map (spell (suc d)) xs) → 1 ≤ length xs
some_map d [] h = absurd (omega arith)
some_map d (x ∷ xs) h = omega arith

pub thin_up : (R : Addr → Bool) (s u t : State) (owner least d : ℕ) (lo : Bound) (b : Branch (Branch (Item d)))
    (hi : Bound) (want : List Entry) (before : List (Branch (Item d))) (child : Branch (Item d))
    (after : List (Branch (Item d))) (low : List Entry) (here : Entry) (high : List Entry) (r : Result Bool PartFault)
    → Sub R s owner least (suc d) lo b hi → 2 ≤ least → least ≤ 16
    → Less R s u owner d lo hi (addr_of b.word) b.items before child after want → map (spell (suc d)) before ≡ low
    → spell (suc d) child ≡ here → map (spell (suc d)) after ≡ high
    → map (spell (suc d)) (before ++ child ∷ after) ≡ map (spell (suc d)) b.items
    → 16 ≤ length (map (spell d) child.items) + 1 → (u (addr_of b.word) ≡ None → ⊥)
    → RepairTells R u t owner (addr_of b.word) low here high r
    → Tells r (λ thin. Shrunk R s t owner least (suc d) lo b hi want thin)
thin_up R s u t owner least d lo b hi want before child (y ∷ after) low here high r sub two16 small less el eh eg same
    long there rt =
    let two : Two R u owner d lo hi (addr_of b.word) before child y after = record {
      ways = less.ways;
      before_stand = less.before_stand;
      after_stand = less.after_stand.1;
      left_node = less.node;
      right_node = let n = less.after_stand.0.0 in
          record { reached = n.reached; bytes = n.bytes; fits = n.fits; many = omega arith; few = n.few };
      left_stand = less.stand;
      right_stand = less.after_stand.0.1;
      distinct = less.distinct;
    } in
    let ny = less.after_stand.0.0.many in
    let many : 31 ≤ length (map (spell d) child.items) + length (map (spell d) y.items) = omega (arith, long, ny) in
    let pair = pair_of R u owner d lo hi (addr_of b.word) before child y after two sub.node.reached there many in
    let pair2 : PairAt R u owner (addr_of b.word) (addr_of here.word) (addr_of y.word) (map (spell d) child.items)
    (map (spell d) y.items) =
    subst (λ (e : Entry). PairAt R u owner (addr_of b.word) (addr_of e.word) (addr_of y.word)
    (map (spell d) child.items) (map (spell d) y.items)) eh pair in
    tells_map r _ _ (λ thin j.
    repaired R s u t owner least d lo b hi want before child (y ∷ after) before child y after low here
    (map (spell (suc d)) after) thin sub less same refl two el eh refl many small
    (subst (λ (w : ℕ). JoinedAt u t owner (addr_of b.word) (addr_of w) (addr_of y.word) low here.key here.word
    y.word (map (spell (suc d)) after) (map (spell d) child.items) (map (spell d) y.items) thin)
    (ap (λ (e : Entry). e.word) (sym eh)) j))
    (rt.right (spell (suc d) y) (map (spell (suc d)) after) (map (spell d) child.items) (map (spell d) y.items)
    (sym eg) pair2)
thin_up R s u t owner least d lo b hi want before child [] low here high r sub two16 small less el eh eg same long there
    rt =
    let n0 : length (map (spell (suc d)) (before ++ child ∷ [])) ≡ length (map (spell (suc d)) b.items) =
    ap length same in
    let n1 : length (map (spell (suc d)) (before ++ child ∷ [])) ≡ length
    (map (spell (suc d)) before ++ map (spell (suc d)) (child ∷ [])) =
    ap length (map_join (spell (suc d)) before (child ∷ [])) in
    let n2 = length-append (map (spell (suc d)) before) (map (spell (suc d)) (child ∷ [])) in
    let n3 : length (map (spell (suc d)) (child ∷ [])) ≡ 1 = refl in
    let n4 = sub.node.many in
    let n5 : 1 ≤ length (map (spell (suc d)) before) = omega (arith, n0, n1, n2, n3, n4, two16) in
    let sn : Snoc before = snoc before (some_map d before n5) in
    let y : Branch (Item d) = sn.last in
    let split : before ++ child ∷ [] ≡ sn.front ++ sn.last ∷ child ∷ [] = ap (λ t. t ++ child ∷ []) sn.are ∙
    append_assoc sn.front (sn.last ∷ []) (child ∷ []) in
    let bs : Stand R u owner (suc d) (sn.front ++ sn.last ∷ []) =
    subst (λ (z : List (Branch (Item d))). Stand R u owner (suc d) z) sn.are less.before_stand in
    let bf : Stand R u owner (suc d) sn.front = all_left (Stands R u owner (suc d)) sn.front (sn.last ∷ []) bs in
    let bl = (all_right (Stands R u owner (suc d)) sn.front (sn.last ∷ []) bs).0 in
    let two : Two R u owner d lo hi (addr_of b.word) sn.front sn.last child [] = record {
      ways = subst (λ (z : List (Branch (Item d))). Ways (suc d) lo z hi) split less.ways;
      before_stand = bf;
      after_stand = tt;
      left_node = let n = bl.0 in
          record { reached = n.reached; bytes = n.bytes; fits = n.fits; many = omega arith; few = n.few };
      right_node = less.node;
      left_stand = bl.1;
      right_stand = less.stand;
      distinct = subst (λ (z : List (Branch (Item d))). Distinct (addr_of b.word ∷ places (suc d) z)) split
          less.distinct;
    } in
    let ny = bl.0.many in
    let many : 31 ≤ length (map (spell d) sn.last.items) + length (map (spell d) child.items) =
    omega (arith, long, ny) in
    let pair = pair_of R u owner d lo hi (addr_of b.word) sn.front sn.last child [] two sub.node.reached there many in
    let pair2 : PairAt R u owner (addr_of b.word) (addr_of sn.last.word) (addr_of here.word)
    (map (spell d) sn.last.items) (map (spell d) child.items) =
    subst (λ (e : Entry). PairAt R u owner (addr_of b.word) (addr_of sn.last.word) (addr_of e.word)
    (map (spell d) sn.last.items) (map (spell d) child.items)) eh pair in
    let lows : low ≡ map (spell (suc d)) sn.front ++ spell (suc d) sn.last ∷ [] = sym el ∙
    ap (map (spell (suc d))) sn.are ∙ map_join (spell (suc d)) sn.front (sn.last ∷ []) in
    tells_map r _ _ (λ thin j.
    repaired R s u t owner least d lo b hi want before child [] sn.front sn.last child []
    (map (spell (suc d)) sn.front) (spell (suc d) sn.last) [] thin sub less same split two refl refl refl many small
    (subst (λ (e : Entry). JoinedAt u t owner (addr_of b.word) (addr_of sn.last.word) (addr_of e.word)
    (map (spell (suc d)) sn.front) sn.last.key sn.last.word e.word [] (map (spell d) sn.last.items)
    (map (spell d) child.items) thin) (sym eh) j))
    (rt.left (map (spell (suc d)) sn.front) (spell (suc d) sn.last) (map (spell d) sn.last.items)
    (map (spell d) child.items) (sym eg) lows pair2)

-- ---- a leaf

pub record LeafOut (R : Addr → Bool) (s : State) (owner least height : ℕ) (k : List ℕ) (lo : Bound)
    (b : Branch (Item height)) (hi : Bound) (at : Addr) (bytes : List ℕ) : Type 0 where
  pub es : List Entry
  pub bytes_are : bytes ≡ node_bytes owner es
  pub fits : AllByRecursion IsEntry es
  pub few : length es ≤ 32
  pub up : (u : State) (taken : Taken) → least ≤ 16 → LeafTaken s u owner at k es taken
      → Removes R s u owner least height lo b hi k taken

leaf_zero : (R : Addr → Bool) (s : State) (owner least : ℕ) (k : List ℕ) (lo : Bound) (b : Branch Entry) (hi : Bound)
    (at : Addr) (bytes : List ℕ) → Sub R s owner least zero lo b hi → addr_of b.word ≡ at → s at ≡ Some bytes
    → LeafOut R s owner least zero k lo b hi at bytes
leaf_zero R s owner least k lo b hi at bytes sub here h =
    let n = sub.node in
    let same : map (spell zero) b.items ≡ b.items = spell_pairs b.items in
    let same2 : map (spell zero) (removed k b.items) ≡ removed k b.items = spell_pairs (removed k b.items) in
    let bytes_at : s (addr_of b.word) ≡ Some bytes = ap s here ∙ h in
    let are : bytes ≡ node_bytes owner b.items = some_is _ _ (sym bytes_at ∙ n.bytes) ∙ ap (node_bytes owner) same in
    let fits : AllByRecursion IsEntry b.items = subst (λ (x : List Entry). AllByRecursion IsEntry x) same n.fits in
    let few : length b.items ≤ 32 = subst (λ (x : List Entry). length x ≤ 32) same n.few in
    let many : least ≤ length b.items = subst (λ (x : List Entry). least ≤ length x) same n.many in
    let sh : Shorter (length b.items) (length (removed k b.items)) = shorter k b.items in
    let sl = sh.loose in
    let sf = sh.few in
    let no : places zero b.items ≡ [] = no_places b.items in
    let no2 : places zero (removed k b.items) ≡ [] = no_places (removed k b.items) in
    record {
      es = b.items;
      bytes_are = are;
      fits = fits;
      few = few;
      up = λ u taken small w. record {
        shrunk = record {
          items = removed k b.items;
          ways = ways_take k lo b.items hi sub.spans.1;
          node = record {
            reached = n.reached;
            bytes = ap u here ∙ w.here (h ∙ ap Some are) ∙
                ap (λ (x : List Entry). Some (node_bytes owner x)) (sym same2);
            fits = subst (λ (x : List Entry). AllByRecursion IsEntry x) (sym same2) (fits_take k b.items fits);
            many = omega arith;
            few = subst (λ (x : List Entry). length x ≤ 32) (sym same2) (omega (arith, sf, few));
          };
          loose = subst (λ (x : List Entry). least ≤ length x + 1) (sym same2) (omega (arith, sl, many));
          firm = λ z. subst (λ (x : List Entry). least ≤ length x) (sym same2)
              (elim (w.firm z) [
                | inl e ↦ subst (λ (x : List Entry). least ≤ length x) (sym e) many
                | inr l ↦
                    omega (arith, l, small)
              ]);
          stand = stand_take R s u owner k b.items sub.stand;
          content = pairs_flat (removed k b.items) ∙ ap (removed k) (sym (pairs_flat b.items));
          distinct = subst (λ (x : List Addr). Distinct (addr_of b.word ∷ x)) (sym no2) (λ i. absurd i, tt);
          within = λ a i. absurd (subst (λ (x : List Addr). IsAmong a x) no2 i);
          frame = λ a m. w.frame a (λ e. m (inl (here ∙ sym e)));
          gone = λ a i m. elim i [
            | inl q ↦ absurd (m (inl q))
            | inr j ↦
                absurd (subst (λ (x : List Addr). IsAmong a x) no j)
          ];
        };
        old = w.old ∙ ap (lookup k) (sym (pairs_flat b.items));
      };
    }

pub leaf_out : (R : Addr → Bool) (s : State) (owner least height : ℕ) (k : List ℕ) (lo : Bound)
    (b : Branch (Item height)) (hi : Bound) (at : Addr) (bytes : List ℕ) → height ≡ 0
    → Sub R s owner least height lo b hi → addr_of b.word ≡ at → s at ≡ Some bytes
    → LeafOut R s owner least height k lo b hi at bytes
leaf_out R s owner least zero k lo b hi at bytes z sub here h = leaf_zero R s owner least k lo b hi at bytes sub here h
leaf_out R s owner least (suc d) k lo b hi at bytes z sub here h = absurd cc

-- ---- an inner node

pub record ChildOut (R : Addr → Bool) (s : State) (owner least below height : ℕ) (k : List ℕ) (lo : Bound)
    (b : Branch (Item height)) (hi : Bound) (at : Addr) (low : List Entry) (here : Entry) (high : List Entry) : Type 0
  where
    pub child : Branch (Item below)
    pub clo : Bound
    pub chi : Bound
    pub sub : Sub R s owner 16 below clo child chi
    pub word_is : child.word ≡ here.word
    pub from : UpTo clo (Some k)
    pub upto : Below k chi
    pub up_firm : (u : State) (taken : Taken) → Removes R s u owner 16 below clo child chi k taken → taken.thin ≡ false
        → Removes R s u owner least height lo b hi k taken
    pub up_thin : (u t : State) (taken : Taken) (r : Result Bool PartFault)
        → Removes R s u owner 16 below clo child chi k taken → RepairTells R u t owner at low here high r
        → Tells r (λ thin. Removes R s t owner least height lo b hi k (record { old = taken.old; thin = thin }))

pub record DownOut (R : Addr → Bool) (s : State) (owner least below height : ℕ) (k : List ℕ) (lo : Bound)
    (b : Branch (Item height)) (hi : Bound) (at : Addr) (bytes : List ℕ) : Type 0 where
  pub es : List Entry
  pub bytes_are : bytes ≡ node_bytes owner es
  pub fits : AllByRecursion IsEntry es
  pub few : length es ≤ 32
  pub begins : Begins k es
  pub child : (low : List Entry) (here : Entry) (high : List Entry) → es ≡ low ++ here ∷ high
      → UpTo (Some here.key) (Some k) → Ahead k high → ChildOut R s owner least below height k lo b hi at low here high

cons_tail : {A : Type 0} (a b : A) (xs ys : List A) → a ∷ xs ≡ b ∷ ys → xs ≡ ys
cons_tail a b xs ys e = cc

child_suc : (R : Addr → Bool) (s : State) (owner least d : ℕ) (k : List ℕ) (lo : Bound) (b : Branch (Branch (Item d)))
    (hi : Bound) (at : Addr) (low : List Entry) (here : Entry) (high : List Entry) → Sub R s owner least (suc d) lo b hi
    → addr_of b.word ≡ at → 2 ≤ least → least ≤ 16 → Below k hi → map (spell (suc d)) b.items ≡ low ++ here ∷ high
    → UpTo (Some here.key) (Some k) → Ahead k high → ChildOut R s owner least d (suc d) k lo b hi at low here high
child_suc R s owner least d k lo b hi at low here high sub at_is two16 small below e from ahead =
    let n = sub.node in
    let there : s (addr_of b.word) ≡ None → ⊥ =
    node_full R s owner least (addr_of b.word) (map (spell (suc d)) b.items) n in
    let a : Among R s owner d lo b.items hi (addr_of b.word) k low here high =
    among R s owner d lo b.items hi (addr_of b.word) k low here high sub.spans.1 sub.stand sub.distinct e from ahead
    below in
    let old : lookup k (contents d a.child.items) ≡ lookup k (contents (suc d) b.items) =
    sym (ap (lookup k) a.pairs ∙
    find_mid k (contents (suc d) a.before) (contents d a.child.items) (contents (suc d) a.after) a.lows a.highs) in
    let same : (items : List (Item d))
    → map (spell (suc d)) (a.before ++ record { key = a.child.key; word = a.child.word; items = items } ∷ a.after) ≡
    map (spell (suc d)) b.items =
    λ items. map_join (spell (suc d)) a.before
    (record { key = a.child.key; word = a.child.word; items = items } ∷ a.after) ∙
    sym (map_join (spell (suc d)) a.before (a.child ∷ a.after)) ∙ ap (map (spell (suc d))) (sym a.are) in
    record {
      child = a.child;
      clo = a.clo;
      chi = a.chi;
      sub = a.sub;
      word_is = ap (λ (x : Entry). x.word) a.here_is;
      from = a.from;
      upto = a.upto;
      up_firm = λ u taken w thin.
          let l : Less R s u owner d lo hi (addr_of b.word) b.items a.before
          (record { key = a.child.key; word = a.child.word; items = w.shrunk.items }) a.after
          (removed k (contents (suc d) b.items)) =
          lessen R s u owner d lo hi (addr_of b.word) b.items k low here high taken.thin a w.shrunk in
          let f : Shrunk R s u owner least (suc d) lo b hi (removed k (contents (suc d) b.items)) false =
          shrunk_firm R s u owner least d lo b hi (removed k (contents (suc d) b.items)) a.before
          (record { key = a.child.key; word = a.child.word; items = w.shrunk.items }) a.after sub (same w.shrunk.items)
          (w.shrunk.firm thin) l in
          record {
            shrunk = subst (λ (x : Bool). Shrunk R s u owner least (suc d) lo b hi
                (removed k (contents (suc d) b.items)) x) (sym thin) f;
            old = w.old ∙ old;
          };
      up_thin = λ u t taken r w rt.
          let l : Less R s u owner d lo hi (addr_of b.word) b.items a.before
          (record { key = a.child.key; word = a.child.word; items = w.shrunk.items }) a.after
          (removed k (contents (suc d) b.items)) =
          lessen R s u owner d lo hi (addr_of b.word) b.items k low here high taken.thin a w.shrunk in
          let rt2 : RepairTells R u t owner (addr_of b.word) low here high r =
          subst (λ (x : Addr). RepairTells R u t owner x low here high r) (sym at_is) rt in
          let th : u (addr_of b.word) ≡ None → ⊥ = λ z. there (sym l.here ∙ z) in
          tells_map r _ _ (λ thin q. record { shrunk = q; old = w.old ∙ old })
          (thin_up R s u t owner least d lo b hi (removed k (contents (suc d) b.items)) a.before
          (record { key = a.child.key; word = a.child.word; items = w.shrunk.items }) a.after low here high r sub
          two16 small l a.low_is a.here_is (cons_tail _ _ _ _ a.high_is) (same w.shrunk.items) w.shrunk.loose th rt2);
    }

down_suc : (R : Addr → Bool) (s : State) (owner least d : ℕ) (k : List ℕ) (lo : Bound) (b : Branch (Branch (Item d)))
    (hi : Bound) (at : Addr) (bytes : List ℕ) → Sub R s owner least (suc d) lo b hi → addr_of b.word ≡ at
    → s at ≡ Some bytes → 2 ≤ least → least ≤ 16 → UpTo lo (Some k) → Below k hi
    → DownOut R s owner least d (suc d) k lo b hi at bytes
down_suc R s owner least d k lo b hi at bytes sub here h two16 small from below =
    let n = sub.node in
    let many = n.many in
    let bytes_at : s (addr_of b.word) ≡ Some bytes = ap s here ∙ h in
    record {
      es = map (spell (suc d)) b.items;
      bytes_are = some_is _ _ (sym bytes_at ∙ n.bytes);
      fits = n.fits;
      few = n.few;
      begins = begins_at d k lo hi b.items sub.spans.1 from (omega (arith, two16, many));
      child = λ low e high are f a. child_suc R s owner least d k lo b hi at low e high sub here two16 small below are f
          a;
    }

pub down_out : (R : Addr → Bool) (s : State) (owner least height : ℕ) (k : List ℕ) (lo : Bound)
    (b : Branch (Item height)) (hi : Bound) (at : Addr) (bytes : List ℕ) → (height ≡ 0 → ⊥)
    → Sub R s owner least height lo b hi → addr_of b.word ≡ at → s at ≡ Some bytes → (1 ≤ height → 2 ≤ least)
    → least ≤ 16 → UpTo lo (Some k) → Below k hi → DownOut R s owner least (height - 1) height k lo b hi at bytes
down_out R s owner least zero k lo b hi at bytes n sub here h two16 small from below = absurd (n refl)
down_out R s owner least (suc d) k lo b hi at bytes n sub here h two16 small from below =
    let e : d ≡ suc d - 1 = omega arith in
    subst (λ (m : ℕ). DownOut R s owner least m (suc d) k lo b hi at bytes) e
    (down_suc R s owner least d k lo b hi at bytes sub here h (two16 (omega arith)) small from below)

-- ---- the child's answer and the repair, by the code's values

pub firm_as : (R R1 : Addr → Bool) (s s1 u : State) (owner least below height : ℕ) (k : List ℕ) (lo : Bound)
    (b : Branch (Item height)) (hi : Bound) (at : Addr) (low : List Entry) (here : Entry) (high : List Entry)
    (q : ChildOut R s owner least below height k lo b hi at low here high) (taken : Taken) → R1 ≡ R → s1 ≡ s
    → Removes R1 s1 u owner 16 below q.clo q.child q.chi k taken → taken.thin ≡ false
    → Removes R s u owner least height lo b hi k taken
firm_as R R1 s s1 u owner least below height k lo b hi at low here high q taken er es w thin =
    let w1 : Removes R s1 u owner 16 below q.clo q.child q.chi k taken =
    subst (λ (r : Addr → Bool). Removes r s1 u owner 16 below q.clo q.child q.chi k taken) er w in
    let w2 : Removes R s u owner 16 below q.clo q.child q.chi k taken =
    subst (λ (x : State). Removes R x u owner 16 below q.clo q.child q.chi k taken) es w1 in
    q.up_firm u taken w2 thin

pub thin_as : (R R1 R2 : Addr → Bool) (s s1 u t : State) (owner least below height : ℕ) (k : List ℕ) (lo : Bound)
    (b : Branch (Item height)) (hi : Bound) (at : Addr) (low : List Entry) (here : Entry) (high : List Entry)
    (q : ChildOut R s owner least below height k lo b hi at low here high) (taken : Taken) (r : Result Bool PartFault)
    → R1 ≡ R → R2 ≡ R1 → s1 ≡ s → Removes R1 s1 u owner 16 below q.clo q.child q.chi k taken
    → RepairTells R2 u t owner at low here high r
    → Tells r (λ thin. Removes R s t owner least height lo b hi k (record { old = taken.old; thin = thin }))
thin_as R R1 R2 s s1 u t owner least below height k lo b hi at low here high q taken r er er2 es w rt =
    let w1 : Removes R s1 u owner 16 below q.clo q.child q.chi k taken =
    subst (λ (x : Addr → Bool). Removes x s1 u owner 16 below q.clo q.child q.chi k taken) er w in
    let w2 : Removes R s u owner 16 below q.clo q.child q.chi k taken =
    subst (λ (x : State). Removes R x u owner 16 below q.clo q.child q.chi k taken) es w1 in
    q.up_thin u t taken r w2 (subst (λ (x : Addr → Bool). RepairTells x u t owner at low here high r) (er2 ∙ er) rt)
