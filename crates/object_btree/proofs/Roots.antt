-- A tree whose root changed.
use Rattle.std.proofs.Common.{◌≡◌, ◌⊎◌, inl, inr, ℕ, zero, suc, ◌%◌, ◌≤◌, ◌<◌, Bool, List, [], ◌∷◌, length, Option, Some, None, Result, Ok, Err, refl, sym, ap, subst, ◌∙◌, arith}
use Rattle.std.specs.Prelude.{map, IsErrAnd}
use Rattle.std.specs.List.{AllByRecursion}
use Rattle.std.proofs.lemmas.List.{append-nil}
use Rattle.a1_base.specs.Lists.{IsAmong}
use Rattle.a1_base.specs.declared.place.Addr.{Addr}
use Rattle.object_view.specs.Agreement.{State}
use Rattle.object_view.specs.declared.parts.PartFault.{PartFault}
use Rattle.object_view.specs.declared.parts.PartFault.TheVariants as part
use Rattle.object_view.specs.Layout.{Entry, IsEntry, addr_of, word_of, anchor_bytes}
use Rattle.object_view.specs.Keys.{Bound, UpTo, Below}
use Rattle.object_view.specs.Keys.{lookup, inserted}
use Rattle.object_view.specs.Trees.{Branch, Item, spell, homes, Spans, Node, Ways, contents, places, Stand, Distinct, Sub, root_least, IsRooted, is_on, IsTree, Becomes}
use Rattle.object_view.specs.Parts.{Moves, Tells}
use Rattle.object_btree.specs.Changes.{InsertTells}
use Rattle.object_btree.specs.Steps.{Grown, Inserts, TreeGrown, TreePut, NewRoot}
use Rattle.object_btree.specs.declared.nodes.Split.{Split}
use Rattle.object_btree.specs.declared.insertion.Put.{Put}
use Rattle.object_btree.proofs.Orders.{low_first}
use Rattle.object_view.proofs.Standing.{stand_kept, stand_full, Full}
use Rattle.object_btree.proofs.Grows.{moved}

tree_err : {A : Type 0} (R : Addr → Bool) (s t : State) (anchor : Addr) (own d : ℕ) (b : Branch (Item d)) (k : List ℕ)
    (v : ℕ) (e : PartFault) (P : A → Type 0) → Tells {A = A} (Err e) P → TreePut R s t anchor own d b k v (Err e)
tree_err R s t anchor own d b k v part.Memory P p = tt
tree_err R s t anchor own d b k v (part.Spent n) P p = tt
tree_err R s t anchor own d b k v (part.Torn a) P p = p
tree_err R s t anchor own d b k v part.Tall P p = absurd p

-- a fault handed on by `?`
pub tree_from : {A : Type 0} (R : Addr → Bool) (s t : State) (anchor : Addr) (own d : ℕ) (b : Branch (Item d))
    (k : List ℕ) (v : ℕ) (r : Result (Option ℕ) PartFault) (e : PartFault) (P : A → Type 0) → IsErrAnd r (λ f. f ≡ e)
    → Tells {A = A} (Err e) P → TreePut R s t anchor own d b k v r
tree_from R s t anchor own d b k v (Ok x) e P h p = absurd h
tree_from R s t anchor own d b k v (Err f) e P h p =
    subst (λ (x : PartFault). TreePut R s t anchor own d b k v (Err x)) (sym h)
    (tree_err R s t anchor own d b k v e P p)

anchor_out : (s : State) (anchor : Addr) (old new : List Addr) → (s anchor ≡ None → ⊥) → (IsAmong anchor old → ⊥)
    → ((a : Addr) → IsAmong a new → IsAmong a old ⊎ (s a ≡ None)) → IsAmong anchor new → ⊥
anchor_out s anchor old new there apart fresh i = elim (fresh anchor i) [ inl o ↦ apart o | inr n ↦ there n ]

not_none : (o : Option (List ℕ)) (b : List ℕ) → o ≡ Some b → o ≡ None → ⊥
not_none o b e n = cc

-- the root was not split
pub root_same : (R : Addr → Bool) (s t : State) (anchor : Addr) (own d : ℕ) (b : Branch (Item d)) (want : List Entry)
    → (tree : IsRooted R s anchor own d b)
    → Grown R s t (word_of anchor) (root_least d) d (Some []) None b.key b.word (homes (suc d) b) want None
    → TreeGrown R s t anchor own (homes (suc d) b) want
root_same R s t anchor own d b want tree g =
    let items : List (Item d) = g.shape.0 in
    let e : g.new ≡ record { key = b.key; word = b.word; items = g.shape.0 } ∷ [] = g.shape.1 in
    let c : Branch (Item d) = record { key = b.key; word = b.word; items = g.shape.0 } in
    let w : Ways (suc d) (Some []) (record { key = b.key; word = b.word; items = g.shape.0 } ∷ []) None =
    subst (λ (x : List (Branch (Item d))). Ways (suc d) (Some []) x None) e g.ways in
    let sp : Spans (suc d) (Some []) (record { key = b.key; word = b.word; items = g.shape.0 }) None =
    subst (λ (x : Bound). Spans (suc d) (Some []) (record { key = b.key; word = b.word; items = g.shape.0 }) x) w.2
    w.1 in
    let pl : places (suc d) g.new ≡ homes (suc d) (record { key = b.key; word = b.word; items = g.shape.0 }) =
    ap (places (suc d)) e ∙ append-nil (homes (suc d) (record { key = b.key; word = b.word; items = g.shape.0 })) in
    let there : s anchor ≡ None → ⊥ = not_none (s anchor) _ tree.bytes in
    let out : IsAmong anchor (places (suc d) g.new) → ⊥ =
    anchor_out s anchor (homes (suc d) b) (places (suc d) g.new) there tree.apart g.fresh in
    record {
      d = d;
      b = record { key = b.key; word = b.word; items = g.shape.0 };
      tree = record {
        owner_fits = tree.owner_fits;
        root_fits = tree.root_fits;
        low = tree.low;
        reached = tree.reached;
        bytes = g.frame anchor out ∙ tree.bytes;
        sub = record {
          spans = sp;
          node = g.shape.2;
          stand = g.shape.3;
          distinct =
              subst (λ (x : List Addr). Distinct x) pl g.distinct;
        };
        apart = λ i. out (moved anchor _ _ (sym pl) i);
      };
      content = sym (append-nil (contents d g.shape.0)) ∙ ap (contents (suc d)) (sym e) ∙ g.content;
      keeps = λ a i. moved a _ _ pl (g.keeps a i);
      fresh = λ a i. g.fresh a (moved a _ _ (sym pl) i);
      frame = λ a n m. g.frame a (λ i. m (moved a _ _ pl i));
    }

some_key : (a b : List ℕ) → ◌≡◌ {A = Option (List ℕ)} (Some a) (Some b) → a ≡ b
some_key a b e = cc

-- the root was split, and has a new root above it
pub root_above : (R : Addr → Bool) (s u t : State) (anchor : Addr) (own d : ℕ) (b : Branch (Item d)) (want : List Entry)
    (m : Split) (tree : IsRooted R s anchor own d b) → d < 15
    → Grown R s u (word_of anchor) (root_least d) d (Some []) None b.key b.word (homes (suc d) b) want (Some m)
    → ((a : Addr) → u a ≡ None → s a ≡ None) → NewRoot R u t anchor own b.word d m.key m.word
    → TreeGrown R s t anchor own (homes (suc d) b) want
root_above R s u t anchor own d b want m tree low g stays n =
    let e = g.shape.2 in
    let st : Stand R u (word_of anchor) (suc d) g.new = g.shape.3 in
    let there : s anchor ≡ None → ⊥ = not_none (s anchor) _ tree.bytes in
    let out : IsAmong anchor (places (suc d) g.new) → ⊥ =
    anchor_out s anchor (homes (suc d) b) (places (suc d) g.new) there tree.apart g.fresh in
    let full : Full u (places (suc d) g.new) = stand_full R u (word_of anchor) (suc d) g.new st in
    let k : b.key ≡ [] = sym (some_key _ _ tree.sub.spans.0) in
    let spelled : map (spell (suc d)) g.new ≡ record { key = []; word = b.word } ∷ record { key = m.key; word = m.word }
    ∷ [] = ap (map (spell (suc d))) e
    ∙ ap (λ (x : List ℕ). record { key = x; word = b.word } ∷ record { key = m.key; word = m.word } ∷ []) k in
    let fits : AllByRecursion IsEntry
    (record { key = []; word = b.word } ∷ record { key = m.key; word = m.word } ∷ []) =
    (record { key = omega arith; word = tree.root_fits }, (g.shape.4, tt)) in
    let un : u anchor ≡ None → ⊥ = λ z. there (stays anchor z) in
    let keep : (a : Addr) → IsAmong a (places (suc d) g.new) → t a ≡ u a =
    λ a i. n.frame a (λ q. out (subst (λ (x : Addr). IsAmong x (places (suc d) g.new)) q i))
    (λ q. full a i (ap u q ∙ n.fresh)) in
    let c : Branch (Branch (Item d)) = record { key = []; word = n.at; items = g.new } in
    let two : Node R t (word_of anchor) 2 (addr_of n.at)
    (record { key = []; word = b.word } ∷ record { key = m.key; word = m.word } ∷ []) =
    record { reached = n.reached; bytes = n.node; fits = fits; many = omega arith; few = omega arith } in
    record {
      d = suc d;
      b = record { key = []; word = n.at; items = g.new };
      tree = record {
        owner_fits = tree.owner_fits;
        root_fits = n.fits;
        low = omega (arith, low);
        reached = tree.reached;
        bytes = n.bytes ∙ ap (λ (x : ℕ). Some (anchor_bytes own n.at x)) (omega arith);
        sub = record {
          spans = (refl, g.ways);
          node = subst (λ (x : List Entry). Node R t (word_of anchor) 2 (addr_of n.at) x) (sym spelled) two;
          stand = stand_kept R u t (word_of anchor) (suc d) g.new st keep;
          distinct = (λ i. full (addr_of n.at) i n.fresh, g.distinct);
        };
        apart = λ i. elim i [ inl q ↦ un (ap u (sym q) ∙ n.fresh) | inr j ↦ out j ];
      };
      content = g.content;
      keeps = λ a i. inr (g.keeps a i);
      fresh = λ a i. elim i [ inl q ↦ inr (stays a (ap u (sym q) ∙ n.fresh)) | inr j ↦ g.fresh a j ];
      frame = λ a x y. n.frame a x (λ q. y (inl (sym q))) ∙ g.frame a (λ i. y (inr i));
    }

-- ---- what an insertion below the root says of the tree

abbrev pub PutTells : (Addr → Bool) → State → State → ℕ → ℕ → Addr → List ℕ → ℕ → Result Put PartFault → Type 0
PutTells R s t owner x at k v result = (b : Branch (Item x)) (least : ℕ) (lo hi : Bound) → Sub R s owner least x lo b hi
    → addr_of b.word ≡ at → (1 ≤ x → 1 ≤ least) → UpTo lo (Some k) → Below k hi
    → Tells result (λ put. Inserts R s t owner least x lo b hi k v put)

root_some : (d : ℕ) → 1 ≤ d → 1 ≤ root_least d
root_some zero h = h
root_some (suc d) h = omega arith

pub tree_inserts : (R R1 : Addr → Bool) (s s1 u : State) (anchor : Addr) (own d : ℕ) (b : Branch (Item d)) (k : List ℕ)
    (v : ℕ) (result : Result Put PartFault) (owner height : ℕ) (at : Addr) → IsRooted R s anchor own d b → R1 ≡ R
    → s1 ≡ s
    → d ≡ height → owner ≡ word_of anchor → addr_of b.word ≡ at → PutTells R1 s1 u owner height at k v result
    → Tells result (λ put. Inserts R s u (word_of anchor) (root_least d) d (Some []) b None k v put)
tree_inserts R R1 s s1 u anchor own d b k v result owner height at tree er es ed eo ea w =
    let w1 : PutTells R s1 u owner height at k v result =
    subst (λ (r : Addr → Bool). PutTells r s1 u owner height at k v result) er w in
    let w2 : PutTells R s u owner height at k v result =
    subst (λ (x : State). PutTells R x u owner height at k v result) es w1 in
    let w3 : PutTells R s u owner d at k v result =
    subst (λ (x : ℕ). PutTells R s u owner x at k v result) (sym ed) w2 in
    let w4 : PutTells R s u (word_of anchor) d at k v result =
    subst (λ (x : ℕ). PutTells R s u x d at k v result) eo w3 in
    w4 b (root_least d) (Some []) None tree.sub ea (root_some d) (low_first k) tt

pub tree_same : (R : Addr → Bool) (s u : State) (anchor : Addr) (own d : ℕ) (b : Branch (Item d)) (k : List ℕ) (v : ℕ)
    (put : Put) → (tree : IsRooted R s anchor own d b)
    → Inserts R s u (word_of anchor) (root_least d) d (Some []) b None k v put → put.more ≡ None
    → TreePut R s u anchor own d b k v (Ok put.old)
tree_same R s u anchor own d b k v put tree w none = (
  root_same R s u anchor own d b (inserted k v (contents d b.items)) tree
      (subst (λ (m : Option Split). Grown R s u (word_of anchor) (root_least d) d (Some []) None b.key b.word
      (homes (suc d) b) (inserted k v (contents d b.items)) m) none w.grown),
  w.old,
)

pub tree_tall : (R : Addr → Bool) (s u : State) (anchor : Addr) (own d height : ℕ) (b : Branch (Item d)) (k : List ℕ)
    (v : ℕ) (put : Put) (m : Split) → (tree : IsRooted R s anchor own d b) → d ≡ height → 15 ≤ height
    → Inserts R s u (word_of anchor) (root_least d) d (Some []) b None k v put → put.more ≡ Some m
    → TreePut R s u anchor own d b k v (Err part.Tall)
tree_tall R s u anchor own d height b k v put m tree e high w some =
    let low = tree.low in
    record { tall = omega (arith, low, e, high); full = w.full m some }

pub split_short : (R : Addr → Bool) (s u : State) (owner least d : ℕ) (lo : Bound) (b : Branch (Item d)) (hi : Bound)
    (k : List ℕ) (v : ℕ) (put : Put) (m : Split) → Inserts R s u owner least d lo b hi k v put → put.more ≡ Some m
    → length m.key ≤ 1100
split_short R s u owner least d lo b hi k v put m w some =
    let g : Grown R s u owner least d lo hi b.key b.word (homes (suc d) b) (inserted k v (contents d b.items))
    (Some m) = subst (λ (x : Option Split). Grown R s u owner least d lo hi b.key b.word (homes (suc d) b)
    (inserted k v (contents d b.items)) x) some w.grown in
    g.shape.4.key

pub tree_above : (R R2 : Addr → Bool) (s u t : State) (anchor : Addr) (own d : ℕ) (b : Branch (Item d)) (k : List ℕ)
    (v : ℕ) (put : Put) (m : Split) (owner root height : ℕ) → (tree : IsRooted R s anchor own d b) → R2 ≡ R
    → owner ≡ own → root ≡ b.word → d ≡ height → height < 15
    → Inserts R s u (word_of anchor) (root_least d) d (Some []) b None k v put → put.more ≡ Some m
    → ((a : Addr) → u a ≡ None → s a ≡ None) → NewRoot R2 u t anchor owner root height m.key m.word
    → TreePut R s t anchor own d b k v (Ok put.old)
tree_above R R2 s u t anchor own d b k v put m owner root height tree er eo ew ed low w some stays n =
    let g : Grown R s u (word_of anchor) (root_least d) d (Some []) None b.key b.word (homes (suc d) b)
    (inserted k v (contents d b.items)) (Some m) =
    subst (λ (x : Option Split). Grown R s u (word_of anchor) (root_least d) d (Some []) None b.key b.word
    (homes (suc d) b) (inserted k v (contents d b.items)) x) some w.grown in
    let n1 : NewRoot R u t anchor owner root height m.key m.word =
    subst (λ (r : Addr → Bool). NewRoot r u t anchor owner root height m.key m.word) er n in
    let n2 : NewRoot R u t anchor own root height m.key m.word =
    subst (λ (x : ℕ). NewRoot R u t anchor x root height m.key m.word) eo n1 in
    let n3 : NewRoot R u t anchor own b.word height m.key m.word =
    subst (λ (x : ℕ). NewRoot R u t anchor own x height m.key m.word) ew n2 in
    let n4 : NewRoot R u t anchor own b.word d m.key m.word =
    subst (λ (x : ℕ). NewRoot R u t anchor own b.word x m.key m.word) (sym ed) n3 in (
      root_above R s u t anchor own d b (inserted k v (contents d b.items)) m tree (omega (arith, ed, low)) g stays n4,
      w.old,
    )

-- ---- what an insertion says of the tree, by its pairs and its places

grown_moves : (R : Addr → Bool) (s t : State) (anchor : Addr) (own : ℕ) (old : List Addr) (want : List Entry)
    → (g : TreeGrown R s t anchor own old want) → Moves s t (anchor ∷ old) (anchor ∷ homes (suc g.d) g.b)
grown_moves R s t anchor own old want g = record {
  others = λ a out off. g.frame a (λ e. out (inl (sym e))) (λ i. off (inr i));
  made = λ a i. elim i [
    | inl e ↦ inl (inl e)
    | inr j ↦ elim (g.fresh a j) [ inl o ↦ inl (inr o) | inr n ↦ inr n ]
  ];
  freed = λ a i. elim i [ inl e ↦ inl (inl e) | inr j ↦ inl (inr (g.keeps a j)) ];
}

tree_becomes : (nodes : ℕ) (s t : State) (anchor owner : Addr) (pairs : List Entry) (at : List Addr) (k : List ℕ)
    (v : ℕ) (tree : IsTree nodes s anchor owner pairs at)
    → TreeGrown (is_on nodes (anchor.region % nodes)) s t anchor (word_of owner) (homes (suc tree.height) tree.root)
    (inserted k v (contents tree.height tree.root.items))
    → Becomes nodes s t anchor owner at (inserted k v pairs)
tree_becomes nodes s t anchor owner pairs at k v tree g = record {
  now = anchor ∷ homes (suc g.d) g.b;
  tree = record {
    height = g.d;
    root = g.b;
    rooted = g.tree;
    pairs_are = ap (inserted k v) tree.pairs_are ∙ sym g.content;
    places_are = refl;
  };
  moves = subst (λ (x : List Addr). Moves s t x (anchor ∷ homes (suc g.d) g.b)) (sym tree.places_are)
      (grown_moves (is_on nodes (anchor.region % nodes)) s t anchor (word_of owner) (homes (suc tree.height) tree.root)
      (inserted k v (contents tree.height tree.root.items)) g);
}

pub put_tells : (nodes : ℕ) (s t : State) (anchor owner : Addr) (pairs : List Entry) (at : List Addr) (k : List ℕ)
    (v : ℕ) (r : Result (Option ℕ) PartFault) (tree : IsTree nodes s anchor owner pairs at)
    → TreePut (is_on nodes (anchor.region % nodes)) s t anchor (word_of owner) tree.height tree.root k v r
    → InsertTells nodes s t anchor owner pairs at k v r
put_tells nodes s t anchor owner pairs at k v (Ok old) tree p =
    (p.1 ∙ ap (lookup k) (sym tree.pairs_are), tree_becomes nodes s t anchor owner pairs at k v tree p.0)
put_tells nodes s t anchor owner pairs at k v (Err part.Memory) tree p = tt
put_tells nodes s t anchor owner pairs at k v (Err (part.Spent n)) tree p = tt
put_tells nodes s t anchor owner pairs at k v (Err (part.Torn a)) tree p = p
put_tells nodes s t anchor owner pairs at k v (Err part.Tall) tree p = record { tree = tree; tall = p }
