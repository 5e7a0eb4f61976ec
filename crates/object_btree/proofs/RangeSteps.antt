-- One step of a walk over a leaf or a node.
use Rattle.std.proofs.Common.{◌≡◌, inl, inr, ℕ, zero, suc, ◌+◌, ◌-◌, ◌<◌, Bool, false, List, [], ◌∷◌, ◌++◌, length, take, Some, None, Result, refl, sym, ap, subst, ◌∙◌, arith}
use Rattle.std.specs.Prelude.{map, min}
use Rattle.std.specs.List.{AllByRecursion}
use Rattle.a1_base.specs.declared.place.Addr.{Addr}
use Rattle.object_view.specs.Agreement.{State, Seen}
use Rattle.object_view.specs.declared.parts.PartFault.{PartFault}
use Rattle.object_view.specs.Layout.{Entry, IsEntry, entries, entry_at, addr_of, word_of}
use Rattle.object_view.specs.Parts.{ReadsOnly, Tells}
use Rattle.object_view.specs.Keys.{Bound, compare}
use Rattle.object_btree.specs.Intervals.{is_less, between, gathered, Pair}
use Rattle.object_view.specs.Trees.{Branch, Item, spell, content, Node, Stand, Ways, contents, IsRooted}
use Rattle.std.specs.declared.cmp.Ordering.TheVariants.{Less}
use Rattle.std.proofs.lemmas.List.{length-append, length-take}
use Rattle.object_btree.specs.Levels.{Ahead, Visits}
use Rattle.object_btree.specs.Steps.{Begins}
use Rattle.object_view.proofs.Layouts.{Left, some_left}
use Rattle.object_view.proofs.Views.{tells_map}
use Rattle.object_btree.proofs.Paths.{MapHead, map_head}
use Rattle.object_btree.proofs.Down.{spell_pairs, pairs_flat}
use Rattle.object_btree.proofs.Intervals.{between_join, item_high, branch_low, gather_join, gather_all, gather_take}

pub map_none : {A B : Type 0} (f : A → B) (xs : List A) → map f xs ≡ [] → xs ≡ []
map_none f [] e = refl
map_none f (x ∷ xs) e = absurd cc

-- ---- a leaf

pub record LeafStep (from to : List ℕ) (es : List Entry) (e : Entry) (after : List ℕ) (hi : Bound) : Type 0 where
  pub more : List Entry
  pub are : es ≡ e ∷ more
  pub fit : AllByRecursion IsEntry more
  pub spelled : after ≡ entries more
  pub mid : Bound
  pub ways : Ways zero mid more hi
  pub high : is_less (compare e.key to) ≡ false → between from to es ≡ []

leaf_high : (from to : List ℕ) (e : Entry) (more : List Entry) (lo hi : Bound) → Ways zero lo (e ∷ more) hi
    → is_less (compare e.key to) ≡ false → between from to (e ∷ more) ≡ []
leaf_high from to e more lo hi w f = sym (ap (between from to) (pairs_flat (e ∷ more)))
    ∙ item_high zero from to lo e more hi w f

pub leaf_step : (from to : List ℕ) (es : List Entry) (lo hi : Bound) (body : List ℕ) (e : Entry) (after : List ℕ)
    → AllByRecursion IsEntry es → body ≡ entries es → Ways zero lo es hi → 0 < length body
    → entry_at body ≡ Some (e, after) → LeafStep from to es e after hi
leaf_step from to es lo hi body e after fits h w long some =
    let l : Left es e after = some_left body es e after fits h long some in
    let w1 : Ways zero lo (e ∷ l.more) hi = subst (λ (x : List Entry). Ways zero lo x hi) l.are w in
    record {
      more = l.more;
      are = l.are;
      fit = l.fit;
      spelled = l.spelled;
      mid = w1.0;
      ways = w1.2;
      high = λ f. ap (between from to) l.are ∙ leaf_high from to e l.more lo hi w1 f;
    }

pub tells_to : {B : Type 0} (A : Type 0) (r : Result A PartFault) (f : A → B) (a b : B) → a ≡ b → Tells r (λ v. f v ≡ a)
    → Tells r (λ v. f v ≡ b)
tells_to A r f a b e t = tells_map r (λ v. f v ≡ a) (λ v. f v ≡ b) (λ v p. p ∙ e) t

-- ---- the items of a leaf

pub record LeafItems (from to : List ℕ) (height : ℕ) (xs : List (Item height)) (lo hi : Bound) : Type 0 where
  pub es : List Entry
  pub spelled : map (spell height) xs ≡ es
  pub ways : Ways zero lo es hi
  pub same : between from to (contents height xs) ≡ between from to es

pub leaf_items : (from to : List ℕ) (height : ℕ) (xs : List (Item height)) (lo hi : Bound) → height ≡ 0
    → Ways height lo xs hi → LeafItems from to height xs lo hi
leaf_items from to zero xs lo hi z w =
    record { es = xs; spelled = spell_pairs xs; ways = w; same = ap (between from to) (pairs_flat xs) }
leaf_items from to (suc d) xs lo hi z w = absurd cc

-- ---- the items of a node

pub record ChildStep (R : Addr → Bool) (s : State) (owner height below : ℕ) (from to : List ℕ) (xs : List (Item height))
    (key : List ℕ) (word : ℕ) (after : List ℕ) (hi : Bound) : Type 0 where
  pub high : is_less (compare key to) ≡ false → between from to (contents height xs) ≡ []
  pub rest : List (Item height)
  pub mid : Bound
  pub rest_ways : Ways height mid rest hi
  pub rest_stand : Stand R s owner height rest
  pub rest_fits : AllByRecursion IsEntry (map (spell height) rest)
  pub rest_is : after ≡ entries (map (spell height) rest)
  pub low : Begins from (map (spell height) rest)
      → between from to (contents height xs) ≡ between from to (contents height rest)
  pub child : List (Item below)
  pub child_lo : Bound
  pub child_hi : Bound
  pub child_ways : Ways below child_lo child child_hi
  pub child_node : Node R s owner 16 (addr_of word) (map (spell below) child)
  pub child_stand : Stand R s owner below child
  pub both : between from to (contents height xs) ≡ between from to (contents below child) ++ between from to
      (contents height rest)
  pub visit_here : (limit : ℕ) (a : Addr) → a ≡ addr_of word → 0 < limit → compare key to ≡ Less
      → Ahead from (map (spell height) rest) → Visits height from to limit xs a
  pub visit_below : (limit : ℕ) (a : Addr) → 0 < limit → compare key to ≡ Less
      → Ahead from (map (spell height) rest) → Visits below from to limit child a → Visits height from to limit xs a
  pub visit_rest : (limit more : ℕ) (a : Addr) → more ≡ limit - length (between from to (contents below child))
      → Visits height from to more rest a → Visits height from to limit xs a

sub_zero : (n : ℕ) → n ≡ n - 0
sub_zero n = omega arith

visits_behind : (d : ℕ) (from to : List ℕ) (limit more : ℕ) (x : Branch (Item d)) (right xs : List (Branch (Item d)))
    (a : Addr) → xs ≡ x ∷ right → more ≡ limit - length (between from to (contents d x.items))
    → Visits (suc d) from to more right a → Visits (suc d) from to limit xs a
visits_behind d from to limit more x right xs a is less v =
    let n : ℕ = length (between from to (contents d x.items)) in
    let k : ℕ = length (between from to (contents (suc d) v.0)) in
    let k1 : ℕ = length (between from to (contents (suc d) (x ∷ v.0))) in
    let len : k1 ≡ n + k = ap length (between_join from to (contents d x.items) (contents (suc d) v.0))
    ∙ length-append (between from to (contents d x.items)) (between from to (contents (suc d) v.0)) in
    let lt : k < more = v.4 in
    let same : more - k ≡ limit - k1 = omega (arith, less, len) in (
      x ∷ v.0,
      v.1,
      v.2,
      is ∙ ap (λ (t : List (Branch (Item d))). x ∷ t) v.3,
      omega (arith, less, len, lt),
      v.5,
      v.6,
      elim v.7 [
        | inl e ↦ inl e
        | inr w ↦ inr (subst (λ (m : ℕ). Visits d from to m v.1.items a) same w)
      ],
    )

child_suc : (R : Addr → Bool) (s : State) (owner d : ℕ) (from to : List ℕ) (xs : List (Branch (Item d))) (lo hi : Bound)
    (body : List ℕ) (key : List ℕ) (word : ℕ) (after : List ℕ) → Ways (suc d) lo xs hi → Stand R s owner (suc d) xs
    → AllByRecursion IsEntry (map (spell (suc d)) xs) → body ≡ entries (map (spell (suc d)) xs) → 0 < length body
    → entry_at body ≡ Some (record { key = key; word = word }, after)
    → ChildStep R s owner (suc d) d from to xs key word after hi
child_suc R s owner d from to xs lo hi body key word after ways stand fits eq long some =
    let l : Left (map (spell (suc d)) xs) (record { key = key; word = word }) after =
    some_left body (map (spell (suc d)) xs) (record { key = key; word = word }) after fits eq long some in
    let m : MapHead (spell (suc d)) xs (record { key = key; word = word }) l.more =
    map_head (spell (suc d)) xs (record { key = key; word = word }) l.more l.are in
    let x : Branch (Item d) = m.here in
    let w : Ways (suc d) lo (m.here ∷ m.right) hi =
    subst (λ (t : List (Branch (Item d))). Ways (suc d) lo t hi) m.is ways in
    let st : Stand R s owner (suc d) (m.here ∷ m.right) =
    subst (λ (t : List (Branch (Item d))). Stand R s owner (suc d) t) m.is stand in
    let k : m.here.key ≡ key = ap (λ (e : Entry). e.key) m.here_is in
    let n : m.here.word ≡ word = ap (λ (e : Entry). e.word) m.here_is in
    let node : Node R s owner 16 (addr_of m.here.word) (map (spell d) m.here.items) = st.0.0 in
    let whole : between from to (contents (suc d) xs) ≡ between from to (contents (suc d) (m.here ∷ m.right)) =
    ap (λ (t : List (Branch (Item d))). between from to (contents (suc d) t)) m.is in
    record {
      high = λ f. whole ∙ item_high (suc d) from to lo m.here m.right hi w
          (ap (λ (t : List ℕ). is_less (compare t to)) k ∙ f);
      rest = m.right;
      mid = w.0;
      rest_ways = w.2;
      rest_stand = st.1;
      rest_fits = subst (λ (t : List Entry). AllByRecursion IsEntry t) (sym m.right_is) l.fit;
      rest_is = l.spelled ∙ ap entries (sym m.right_is);
      low = λ b. whole ∙ branch_low d from to lo m.here m.right hi w b;
      child = m.here.items;
      child_lo = lo;
      child_hi = w.0;
      child_ways = w.1.1;
      child_node = subst (λ (t : ℕ). Node R s owner 16 (addr_of t) (map (spell d) m.here.items)) n node;
      child_stand = st.0.1;
      both = whole ∙ between_join from to (content (suc d) m.here) (contents (suc d) m.right);
      visit_here = λ limit a e lt less ahead. (
        [],
        m.here,
        m.right,
        m.is,
        lt,
        ap (λ (t : List ℕ). compare t to) k ∙ less,
        ahead,
        inl (e ∙ ap addr_of (sym n)),
      );
      visit_below = λ limit a lt less ahead v. (
        [],
        m.here,
        m.right,
        m.is,
        lt,
        ap (λ (t : List ℕ). compare t to) k ∙ less,
        ahead,
        inr (subst (λ (j : ℕ). Visits d from to j m.here.items a) (sub_zero limit) v),
      );
      visit_rest = λ limit more a e v. visits_behind d from to limit more m.here m.right xs a m.is e v;
    }

pub child_step : (R : Addr → Bool) (s : State) (owner height : ℕ) (from to : List ℕ) (xs : List (Item height))
    (lo hi : Bound) (body : List ℕ) (key : List ℕ) (word : ℕ) (after : List ℕ) → (height ≡ 0 → ⊥) → Ways height lo xs hi
    → Stand R s owner height xs → AllByRecursion IsEntry (map (spell height) xs)
    → body ≡ entries (map (spell height) xs) → 0 < length body
    → entry_at body ≡ Some (record { key = key; word = word }, after)
    → ChildStep R s owner height (height - 1) from to xs key word after hi
child_step R s owner zero from to xs lo hi body key word after nz ways stand fits eq long some = absurd (nz refl)
child_step R s owner (suc d) from to xs lo hi body key word after nz ways stand fits eq long some =
    let e : d ≡ suc d - 1 = omega arith in
    subst (λ (n : ℕ). ChildStep R s owner (suc d) n from to xs key word after hi) e
    (child_suc R s owner d from to xs lo hi body key word after ways stand fits eq long some)

pub stand_as : (R R1 : Addr → Bool) (s s1 : State) (owner d : ℕ) (xs : List (Item d)) → R1 ≡ R → s1 ≡ s
    → Stand R s owner d xs → Stand R1 s1 owner d xs
stand_as R R1 s s1 owner d xs er es st =
    subst (λ (r : Addr → Bool). Stand r s1 owner d xs) (sym er)
    (subst (λ (x : State). Stand R x owner d xs) (sym es) st)

-- child and rest, one behind the other
pub both_gathered : (limit : ℕ) (out mid last : List Pair) (xs ys zs : List Pair) → zs ≡ xs ++ ys
    → mid ≡ gathered limit out xs → last ≡ gathered limit mid ys → last ≡ gathered limit out zs
both_gathered limit out mid last xs ys zs z a b = b ∙ ap (λ (t : List Pair). gathered limit t ys) a
    ∙ gather_join limit out xs ys ∙ ap (gathered limit out) (sym z)

-- a child before a next one that begins at the first key or before it has none of the pairs
pub none_low : (xs ys zs : List Pair) → zs ≡ xs ++ ys → zs ≡ ys → length xs ≡ 0
none_low xs ys zs both low =
    let a : length zs ≡ length (xs ++ ys) = ap length both in
    let b : length zs ≡ length ys = ap length low in
    let c : length (xs ++ ys) ≡ length xs + length ys = length-append xs ys in
    omega (arith, a, b, c)

-- how many more are wanted behind a child
pub wanted : (limit : ℕ) (out mid xs : List Pair) → mid ≡ gathered limit out xs
    → limit - length mid ≡ (limit - length out) - length xs
wanted limit out mid xs e =
    let a : length mid ≡ length (out ++ take (limit - length out) xs) = ap length (e ∙ gather_take limit out xs) in
    let b : length (out ++ take (limit - length out) xs) ≡ length out + length (take (limit - length out) xs) =
    length-append out (take (limit - length out) xs) in
    let c : length (take (limit - length out) xs) ≡ min (limit - length out) (length xs) =
    length-take (limit - length out) xs in
    omega (arith, a, b, c)

abbrev pub RangeTells : {A : Type 0} → (Addr → Bool) → State → ℕ → ℕ → List ℕ → List ℕ → List ℕ → ℕ → List Pair
    → Result A PartFault → (A → List Pair) → Type 0
RangeTells R s owner x body from to limit out result f = (xs : List (Item x)) (lo hi : Bound) → Ways x lo xs hi
    → Stand R s owner x xs → AllByRecursion IsEntry (map (spell x) xs) → body ≡ entries (map (spell x) xs)
    → Tells result (λ v. f v ≡ gathered limit out (between from to (contents x xs)))

pub tree_ranges : {A : Type 0} (R R2 : Addr → Bool) (s s2 : State) (anchor : Addr) (own d : ℕ) (b : Branch (Item d))
    (from to : List ℕ) (limit : ℕ) (out : List Pair) (result : Result A PartFault) (f : A → List Pair)
    (owner height : ℕ) (body : List ℕ) → IsRooted R s anchor own d b → R2 ≡ R → s2 ≡ s → d ≡ height
    → owner ≡ word_of anchor → out ≡ [] → body ≡ entries (map (spell d) b.items)
    → RangeTells R2 s2 owner height body from to limit out result f
    → Tells result (λ v. f v ≡ take limit (between from to (contents d b.items)))
tree_ranges R R2 s s2 anchor own d b from to limit out result f owner height body tree er es ed eo none eb w =
    let w1 : RangeTells R s2 owner height body from to limit out result f =
    subst (λ (r : Addr → Bool). RangeTells r s2 owner height body from to limit out result f) er w in
    let w2 : RangeTells R s owner height body from to limit out result f =
    subst (λ (x : State). RangeTells R x owner height body from to limit out result f) es w1 in
    let w3 : RangeTells R s owner d body from to limit out result f =
    subst (λ (x : ℕ). RangeTells R s owner x body from to limit out result f) (sym ed) w2 in
    let w4 : RangeTells R s (word_of anchor) d body from to limit out result f =
    subst (λ (x : ℕ). RangeTells R s x d body from to limit out result f) eo w3 in
    let w5 : RangeTells R s (word_of anchor) d body from to limit [] result f =
    subst (λ (x : List Pair). RangeTells R s (word_of anchor) d body from to limit x result f) none w4 in
    tells_map result (λ v. f v ≡ gathered limit [] (between from to (contents d b.items)))
    (λ v. f v ≡ take limit (between from to (contents d b.items)))
    (λ v p. p ∙ gather_all limit (between from to (contents d b.items)))
    (w5 b.items (Some []) None tree.sub.spans.1 tree.sub.stand tree.sub.node.fits eb)

abbrev pub RangeVisits : (Addr → Bool) → State → ℕ → ℕ → List ℕ → List ℕ → List ℕ → ℕ → List Pair → List Seen
    → List Seen → Type 0
RangeVisits R s owner x body from to limit out old new = (xs : List (Item x)) (lo hi : Bound) → Ways x lo xs hi
    → Stand R s owner x xs → AllByRecursion IsEntry (map (spell x) xs) → body ≡ entries (map (spell x) xs)
    → ReadsOnly (Visits x from to (limit - length out) xs) old new

pub tree_visits : (R R2 : Addr → Bool) (s s2 : State) (anchor : Addr) (own d : ℕ) (b : Branch (Item d))
    (from to : List ℕ) (limit : ℕ) (out : List Pair) (owner height : ℕ) (body : List ℕ) (old new : List Seen)
    → IsRooted R s anchor own d b → R2 ≡ R → s2 ≡ s → d ≡ height → owner ≡ word_of anchor → out ≡ []
    → body ≡ entries (map (spell d) b.items)
    → RangeVisits R2 s2 owner height body from to limit out old new
    → ReadsOnly (Visits d from to limit b.items) old new
tree_visits R R2 s s2 anchor own d b from to limit out owner height body old new tree er es ed eo none eb w =
    let w1 : RangeVisits R s2 owner height body from to limit out old new =
    subst (λ (r : Addr → Bool). RangeVisits r s2 owner height body from to limit out old new) er w in
    let w2 : RangeVisits R s owner height body from to limit out old new =
    subst (λ (x : State). RangeVisits R x owner height body from to limit out old new) es w1 in
    let w3 : RangeVisits R s owner d body from to limit out old new =
    subst (λ (x : ℕ). RangeVisits R s owner x body from to limit out old new) (sym ed) w2 in
    let w4 : RangeVisits R s (word_of anchor) d body from to limit out old new =
    subst (λ (x : ℕ). RangeVisits R s x d body from to limit out old new) eo w3 in
    let w5 : RangeVisits R s (word_of anchor) d body from to limit [] old new =
    subst (λ (x : List Pair). RangeVisits R s (word_of anchor) d body from to limit x old new) none w4 in
    subst (λ (n : ℕ). ReadsOnly (Visits d from to n b.items) old new) (sym (sub_zero limit))
    (w5 b.items (Some []) None tree.sub.spans.1 tree.sub.stand tree.sub.node.fits eb)
