-- A tree by its anchor: a key looked up, a key taken out, a new tree.
use Rattle.std.proofs.Common.{◌≡◌, inl, inr, ℕ, zero, suc, ◌-◌, ◌%◌, ◌≤◌, ◌<◌, Bool, false, List, [], ◌∷◌, ◌++◌, length, Option, Some, None, Result, refl, sym, ap, subst, ◌∙◌, arith}
use Rattle.std.specs.Prelude.{map}
use Rattle.std.specs.Int.{w16, w64, to_be_bytes}
use Rattle.std.proofs.lemmas.List.{length-append}
use Rattle.a1_base.specs.Lists.{IsAmong}
use Rattle.a1_base.specs.declared.place.Addr.{Addr}
use Rattle.object_view.specs.Agreement.{State}
use Rattle.object_view.specs.declared.parts.PartFault.{PartFault}
use Rattle.object_view.specs.Layout.{Entry, entry, entries, addr_of, word_of}
use Rattle.object_view.specs.Keys.{Bound, UpTo, Below}
use Rattle.object_view.specs.Keys.{lookup, removed}
use Rattle.object_view.specs.Trees.{Branch, Item, spell, homes, contents, places, Sub, root_least, IsRooted, is_on}
use Rattle.object_view.specs.Parts.{Moves, Tells, Gives}
use Rattle.object_btree.specs.Changes.{CreateTells}
use Rattle.object_btree.specs.Steps.{Shrunk, Removes, Lowered, LowerAt, RootAt, TreeShrunk, TreeTaken, Created}
use Rattle.object_btree.specs.declared.removal.Taken.{Taken}
use Rattle.object_btree.proofs.Orders.{low_first}
use Rattle.object_btree.proofs.Paths.{MapHead, map_head}
use Rattle.object_btree.proofs.Shrinks.{LowerTree, root_lower}

abbrev pub GetTells : (Addr → Bool) → State → ℕ → ℕ → Addr → List ℕ → Result (Option ℕ) PartFault → Type 0
GetTells R s owner x at k result = (b : Branch (Item x)) (least : ℕ) (lo hi : Bound) → Sub R s owner least x lo b hi
    → addr_of b.word ≡ at → (1 ≤ x → 1 ≤ least) → UpTo lo (Some k) → Below k hi
    → Gives result (lookup k (contents x b.items))

root_some : (d : ℕ) → 1 ≤ d → 1 ≤ root_least d
root_some zero h = h
root_some (suc d) h = omega arith

root_two : (d : ℕ) → 1 ≤ d → 2 ≤ root_least d
root_two zero h = absurd (omega arith)
root_two (suc d) h = omega arith

root_small : (d : ℕ) → root_least d ≤ 16
root_small zero = omega arith
root_small (suc d) = omega arith

pub tree_gives : (R R1 : Addr → Bool) (s s1 : State) (anchor : Addr) (own d : ℕ) (b : Branch (Item d)) (k : List ℕ)
    (result : Result (Option ℕ) PartFault) (owner height : ℕ) (at : Addr) → IsRooted R s anchor own d b → R1 ≡ R
    → s1 ≡ s → d ≡ height → owner ≡ word_of anchor → addr_of b.word ≡ at → GetTells R1 s1 owner height at k result
    → Gives result (lookup k (contents d b.items))
tree_gives R R1 s s1 anchor own d b k result owner height at tree er es ed eo ea w =
    let w1 : GetTells R s1 owner height at k result =
    subst (λ (r : Addr → Bool). GetTells r s1 owner height at k result) er w in
    let w2 : GetTells R s owner height at k result =
    subst (λ (x : State). GetTells R x owner height at k result) es w1 in
    let w3 : GetTells R s owner d at k result = subst (λ (x : ℕ). GetTells R s owner x at k result) (sym ed) w2 in
    let w4 : GetTells R s (word_of anchor) d at k result = subst (λ (x : ℕ). GetTells R s x d at k result) eo w3 in
    w4 b (root_least d) (Some []) None tree.sub ea (root_some d) (low_first k) tt

abbrev pub RemoveTells : (Addr → Bool) → State → State → ℕ → ℕ → Addr → List ℕ → Result Taken PartFault → Type 0
RemoveTells R s t owner x at k result = (b : Branch (Item x)) (least : ℕ) (lo hi : Bound)
    → Sub R s owner least x lo b hi → addr_of b.word ≡ at → least ≤ 16 → (1 ≤ x → 2 ≤ least) → UpTo lo (Some k)
    → Below k hi → Tells result (λ taken. Removes R s t owner least x lo b hi k taken)

pub tree_removes : (R R1 : Addr → Bool) (s s1 u : State) (anchor : Addr) (own d : ℕ) (b : Branch (Item d)) (k : List ℕ)
    (result : Result Taken PartFault) (owner height : ℕ) (at : Addr) → IsRooted R s anchor own d b → R1 ≡ R → s1 ≡ s
    → d ≡ height → owner ≡ word_of anchor → addr_of b.word ≡ at → RemoveTells R1 s1 u owner height at k result
    → Tells result (λ taken. Removes R s u (word_of anchor) (root_least d) d (Some []) b None k taken)
tree_removes R R1 s s1 u anchor own d b k result owner height at tree er es ed eo ea w =
    let w1 : RemoveTells R s1 u owner height at k result =
    subst (λ (r : Addr → Bool). RemoveTells r s1 u owner height at k result) er w in
    let w2 : RemoveTells R s u owner height at k result =
    subst (λ (x : State). RemoveTells R x u owner height at k result) es w1 in
    let w3 : RemoveTells R s u owner d at k result =
    subst (λ (x : ℕ). RemoveTells R s u owner x at k result) (sym ed) w2 in
    let w4 : RemoveTells R s u (word_of anchor) d at k result =
    subst (λ (x : ℕ). RemoveTells R s u x d at k result) eo w3 in
    w4 b (root_least d) (Some []) None tree.sub ea (root_small d) (root_two d) (low_first k) tt

kept_in : (a r : Addr) (xs ys : List Addr) → ((x : Addr) → IsAmong x xs → IsAmong x ys) → IsAmong a (r ∷ xs)
    → IsAmong a (r ∷ ys)
kept_in a r xs ys f (inl e) = inl e
kept_in a r xs ys f (inr i) = inr (f a i)

-- the root stays
keep_root : (R : Addr → Bool) (s t : State) (anchor : Addr) (own d : ℕ) (b : Branch (Item d)) (want : List Entry)
    (thin : Bool) → (tree : IsRooted R s anchor own d b)
    → (w : Shrunk R s t (word_of anchor) (root_least d) d (Some []) b None want thin)
    → root_least d ≤ length (map (spell d) w.items) → TreeShrunk R s t anchor own (homes (suc d) b) want
keep_root R s t anchor own d b want thin tree w many =
    let into : (a : Addr) → IsAmong a (addr_of b.word ∷ places d w.items) → IsAmong a (homes (suc d) b) =
    λ a i. kept_in a (addr_of b.word) (places d w.items) (places d b.items) w.within i in
    record {
      d = d;
      b = record { key = b.key; word = b.word; items = w.items };
      tree = record {
        owner_fits = tree.owner_fits;
        root_fits = tree.root_fits;
        low = tree.low;
        reached = tree.reached;
        bytes = w.frame anchor tree.apart ∙ tree.bytes;
        sub = record {
          spans = (tree.sub.spans.0, w.ways);
          node = record {
            reached = w.node.reached;
            bytes = w.node.bytes;
            fits = w.node.fits;
            many = many;
            few =
                w.node.few;
          };
          stand = w.stand;
          distinct = w.distinct;
        };
        apart = λ i. tree.apart (into anchor i);
      };
      content = w.content;
      within = into;
      frame = λ a n m. w.frame a m;
      gone = λ a n i m. w.gone a i m;
    }

pub tree_firm : (R : Addr → Bool) (s t : State) (anchor : Addr) (own d : ℕ) (b : Branch (Item d)) (k : List ℕ)
    (taken : Taken) → IsRooted R s anchor own d b
    → Removes R s t (word_of anchor) (root_least d) d (Some []) b None k taken → taken.thin ≡ false
    → TreeTaken R s t anchor own d b k taken.old
tree_firm R s t anchor own d b k taken tree w firm =
    record {
      shrunk = keep_root R s t anchor own d b (removed k (contents d b.items)) taken.thin tree w.shrunk
          (w.shrunk.firm firm);
      old_is = w.old;
    }

pub tree_leaf : (R : Addr → Bool) (s t : State) (anchor : Addr) (own d : ℕ) (b : Branch (Item d)) (k : List ℕ)
    (taken : Taken) → IsRooted R s anchor own d b
    → Removes R s t (word_of anchor) (root_least d) d (Some []) b None k taken → d ≡ 0
    → TreeTaken R s t anchor own d b k taken.old
tree_leaf R s t anchor own zero b k taken tree w z =
    record {
      shrunk = keep_root R s t anchor own zero b (removed k (contents zero b.items)) taken.thin tree w.shrunk
          (omega arith);
      old_is = w.old;
    }
tree_leaf R s t anchor own (suc d) b k taken tree w z = absurd cc

some_not : (o : Option (List ℕ)) (b : List ℕ) → o ≡ Some b → o ≡ None → ⊥
some_not o b e f = cc

pub root_at : (R R2 : Addr → Bool) (s u : State) (anchor at : Addr) (own d : ℕ) (b : Branch (Item d)) (k : List ℕ)
    (taken : Taken) → (tree : IsRooted R s anchor own d b) → R2 ≡ R
    → (w : Removes R s u (word_of anchor) (root_least d) d (Some []) b None k taken) → 1 ≤ d → addr_of b.word ≡ at
    → RootAt R2 u anchor at (map (spell d) w.shrunk.items)
root_at R R2 s u anchor at own d b k taken tree er w some here =
    let n = w.shrunk.node in
    let two = root_two d some in
    let loose = w.shrunk.loose in
    let r : RootAt R u anchor (addr_of b.word) (map (spell d) w.shrunk.items) = record {
      reached = tree.reached;
      stands = some_not (u anchor) _ (w.shrunk.frame anchor tree.apart ∙ tree.bytes);
      root_reached = n.reached;
      bytes = n.bytes;
      fits = n.fits;
      some = omega (arith, two, loose);
      other = λ e. tree.apart (inl e);
    } in
    let r1 : RootAt R u anchor at (map (spell d) w.shrunk.items) =
    subst (λ (x : Addr). RootAt R u anchor x (map (spell d) w.shrunk.items)) here r in
    subst (λ (x : Addr → Bool). RootAt x u anchor at (map (spell d) w.shrunk.items)) (sym er) r1

map_none : {A B : Type 0} (f : A → B) (xs : List A) → map f xs ≡ [] → xs ≡ []
map_none f [] e = refl
map_none f (x ∷ xs) e = absurd cc

lower_suc : (R : Addr → Bool) (s u t : State) (anchor : Addr) (own d : ℕ) (b : Branch (Branch (Item d))) (k : List ℕ)
    (taken : Taken) (height owner : ℕ) → (tree : IsRooted R s anchor own (suc d) b)
    → (w : Removes R s u (word_of anchor) (root_least (suc d)) (suc d) (Some []) b None k taken) → suc d ≡ height
    → owner ≡ own → LowerAt u t anchor (addr_of b.word) owner height (map (spell (suc d)) w.shrunk.items)
    → TreeShrunk R s t anchor own (homes (suc (suc d)) b) (removed k (contents (suc d) b.items))
lower_suc R s u t anchor own d b k taken height owner tree w eh eo (inl p) =
    subst (λ (x : State). TreeShrunk R s x anchor own (homes (suc (suc d)) b) (removed k (contents (suc d) b.items)))
    (sym p.1) (keep_root R s u anchor own (suc d) b (removed k (contents (suc d) b.items)) taken.thin tree w.shrunk
    p.0)
lower_suc R s u t anchor own d b k taken height owner tree w eh eo (inr l) =
    let m : MapHead (spell (suc d)) w.shrunk.items l.one [] = map_head (spell (suc d)) w.shrunk.items l.one [] l.are in
    let none : m.right ≡ [] = map_none (spell (suc d)) m.right m.right_is in
    let one : w.shrunk.items ≡ m.here ∷ [] = m.is ∙ ap (λ (x : List (Branch (Item d))). m.here ∷ x) none in
    let word : l.one.word ≡ m.here.word = ap (λ (e : Entry). e.word) (sym m.here_is) in
    let high : height - 1 ≡ d = omega (arith, eh) in
    let l1 : Lowered u t anchor (addr_of b.word) own l.one.word (height - 1) =
    subst (λ (x : ℕ). Lowered u t anchor (addr_of b.word) x l.one.word (height - 1)) eo l.lowered in
    let l2 : Lowered u t anchor (addr_of b.word) own m.here.word (height - 1) =
    subst (λ (x : ℕ). Lowered u t anchor (addr_of b.word) own x (height - 1)) word l1 in
    let l3 : Lowered u t anchor (addr_of b.word) own m.here.word d =
    subst (λ (x : ℕ). Lowered u t anchor (addr_of b.word) own m.here.word x) high l2 in
    let r : LowerTree R s t anchor own d (homes (suc (suc d)) b) (removed k (contents (suc d) b.items)) =
    root_lower R s u t anchor own d b (removed k (contents (suc d) b.items)) taken.thin m.here tree w.shrunk one l3 in
    record { d = d; b = r.b; tree = r.tree; content = r.content; within = r.within; frame = r.frame; gone = r.gone }

pub tree_lower : (R : Addr → Bool) (s u t : State) (anchor at : Addr) (own d : ℕ) (b : Branch (Item d)) (k : List ℕ)
    (taken : Taken) (height owner : ℕ) → (tree : IsRooted R s anchor own d b)
    → (w : Removes R s u (word_of anchor) (root_least d) d (Some []) b None k taken) → 1 ≤ d → d ≡ height → owner ≡ own
    → addr_of b.word ≡ at → LowerAt u t anchor at owner height (map (spell d) w.shrunk.items)
    → TreeTaken R s t anchor own d b k taken.old
tree_lower R s u t anchor at own zero b k taken height owner tree w some eh eo here l = absurd (omega arith)
tree_lower R s u t anchor at own (suc d) b k taken height owner tree w some eh eo here l =
    record {
      shrunk = lower_suc R s u t anchor own d b k taken height owner tree w eh eo
          (subst (λ (x : Addr). LowerAt u t anchor x owner height (map (spell (suc d)) w.shrunk.items)) (sym here) l);
      old_is = w.old;
    }

-- ---- entries in bytes

pub some_bytes : (fs : List Entry) (body : List ℕ) → 1 ≤ length fs → body ≡ entries fs → 0 < length body
some_bytes [] body h e = absurd (omega arith)
some_bytes (f ∷ fs) body h e =
    let two : length (to_be_bytes w16 (length f.key)) ≡ 2 = refl in
    let b : length body ≡ length (entries (f ∷ fs)) = ap length e in
    omega (
      arith,
      b,
      two,
      length-append (entry f) (entries fs),
      length-append (to_be_bytes w16 (length f.key)) (f.key ++ to_be_bytes w64 f.word),
    )

pub some_more : (rest : List ℕ) (fs : List Entry) → rest ≡ entries fs → 0 < length rest → 1 ≤ length fs
some_more rest [] e h = let z : length rest ≡ 0 = ap length e in absurd (omega arith)
some_more rest (f ∷ fs) e h = omega arith

-- ---- a new tree

new_moves : (s t : State) (anchor root : Addr) → s anchor ≡ None → s root ≡ None
    → ((a : Addr) → (a ≡ anchor → ⊥) → (a ≡ root → ⊥) → t a ≡ s a) → Moves s t [] (anchor ∷ root ∷ [])
new_moves s t anchor root fresh root_fresh frame = record {
  others = λ b out off. frame b (λ e. off (inl (sym e))) (λ e. off (inr (inl (sym e))));
  made = λ b i. elim i [
    | inl e ↦ inr (ap s (sym e) ∙ fresh)
    | inr j ↦ elim j [ inl e ↦ inr (ap s (sym e) ∙ root_fresh) | inr n ↦ absurd n ]
  ];
  freed = λ b i. absurd i;
}

pub tree_created : (nodes : ℕ) (s t : State) (anchor owner : Addr)
    → Created (is_on nodes (anchor.region % nodes)) s t anchor (word_of owner) → CreateTells nodes s t anchor owner
tree_created nodes s t anchor owner c = (
  anchor ∷ addr_of c.word ∷ [],
  record {
    height = 0;
    root = record { key = []; word = c.word; items = [] };
    rooted = c.tree;
    pairs_are = refl;
    places_are = refl;
  },
  new_moves s t anchor (addr_of c.word) c.fresh c.root_fresh c.frame,
)
