-- The places of items, and what stands there.
use Rattle.std.proofs.Common.{◌≡◌, ◌⊎◌, inl, inr, ℕ, zero, suc, ◌%◌, Bool, List, [], ◌∷◌, ◌++◌, Option, Some, None, refl, sym, ap, subst, ◌∙◌}
use Rattle.std.specs.Prelude.{map}
use Rattle.std.specs.List.{AllByRecursion, flat_map}
use Rattle.a1_base.specs.Lists.{IsAmong}
use Rattle.a1_base.specs.declared.place.Addr.{Addr}
use Rattle.object_view.specs.Agreement.{State}
use Rattle.object_view.specs.Layout.{Entry, addr_of, word_of, node_bytes}
use Rattle.object_view.specs.Trees.{Branch, Item, spell, homes, Node, Stands, Distinct, root_least, IsRooted, IsTree, is_on}

pub in_left : (b : Addr) (xs ys : List Addr) → IsAmong b xs → IsAmong b (xs ++ ys)
in_left b [] ys i = absurd i
in_left b (x ∷ xs) ys (inl e) = inl e
in_left b (x ∷ xs) ys (inr i) = inr (in_left b xs ys i)

pub in_right : (b : Addr) (xs ys : List Addr) → IsAmong b ys → IsAmong b (xs ++ ys)
in_right b [] ys i = i
in_right b (x ∷ xs) ys i = inr (in_right b xs ys i)

pub in_or : (b : Addr) (xs ys : List Addr) → IsAmong b (xs ++ ys) → IsAmong b xs ⊎ IsAmong b ys
in_or b [] ys i = inr i
in_or b (x ∷ xs) ys (inl e) = inl (inl e)
in_or b (x ∷ xs) ys (inr i) = elim (in_or b xs ys i) [ inl l ↦ inl (inr l) | inr r ↦ inr r ]

-- ---- what stands stays where the bytes stay

all_kept : {A : Type 0} (P Q : A → Type 0) (f : A → List Addr) (xs : List A) → AllByRecursion P xs → ((x : A) → P x
    → ((a : Addr) → IsAmong a (f x) → IsAmong a (flat_map f xs)) → Q x) → AllByRecursion Q xs
all_kept P Q f [] p keep = tt
all_kept P Q f (x ∷ xs) p keep = (
  keep x p.0 (λ a i. in_left a (f x) (flat_map f xs) i),
  all_kept P Q f xs p.1 (λ y q inc. keep y q (λ a i. in_right a (f x) (flat_map f xs) (inc a i))),
)

pub node_kept : (R : Addr → Bool) (s t : State) (owner least : ℕ) (at : Addr) (es : List Entry)
    → Node R s owner least at es → t at ≡ s at → Node R t owner least at es
node_kept R s t owner least at es n e = record {
  reached = n.reached;
  bytes = e ∙
      n.bytes;
  fits = n.fits;
  many = n.many;
  few = n.few;
}

pub stands_kept : (R : Addr → Bool) (s t : State) (owner d : ℕ) (x : Item d) → Stands R s owner d x → ((a : Addr)
    → IsAmong a (homes d x) → t a ≡ s a) → Stands R t owner d x
stands_kept R s t owner zero x st keep = st
stands_kept R s t owner (suc d) b st keep = (
  node_kept R s t owner 16 (addr_of b.word) (map (spell d) b.items) st.0 (keep (addr_of b.word) (inl refl)),
  all_kept (Stands R s owner d) (Stands R t owner d) (homes d) b.items st.1 (λ x p inc. stands_kept R s t owner d x p
      (λ a i. keep a (inr (inc a i)))),
)

pub stand_kept : (R : Addr → Bool) (s t : State) (owner d : ℕ) (xs : List (Item d))
    → AllByRecursion (Stands R s owner d) xs → ((a : Addr) → IsAmong a (flat_map (homes d) xs) → t a ≡ s a)
    → AllByRecursion (Stands R t owner d) xs
stand_kept R s t owner d xs st keep = all_kept (Stands R s owner d) (Stands R t owner d) (homes d) xs st
    (λ x p inc. stands_kept R s t owner d x p (λ a i. keep a (inc a i)))

-- ---- at each place something stands

abbrev pub Full : State → List Addr → Type 0
Full s bs = (a : Addr) → IsAmong a bs → s a ≡ None → ⊥

all_full : {A : Type 0} (s : State) (P : A → Type 0) (f : A → List Addr) (xs : List A) → AllByRecursion P xs
    → ((x : A) → P x → Full s (f x)) → Full s (flat_map f xs)
all_full s P f [] p full a i = absurd i
all_full s P f (x ∷ xs) p full a i = elim (in_or a (f x)
    (flat_map f xs) i) [ inl l ↦ full x p.0 a l | inr r ↦ all_full s P f xs p.1 full a r ]

some_not : (o : Option (List ℕ)) (b : List ℕ) → o ≡ Some b → o ≡ None → ⊥
some_not o b e f = cc

pub node_full : (R : Addr → Bool) (s : State) (owner least : ℕ) (at : Addr) (es : List Entry)
    → Node R s owner least at es → s at ≡ None → ⊥
node_full R s owner least at es n e = some_not (s at) (node_bytes owner es) n.bytes e

pub full_cons : (s : State) (b : Addr) (bs : List Addr) → (s b ≡ None → ⊥) → Full s bs → Full s (b ∷ bs)
full_cons s b bs here there a (inl e) n = here (ap s e ∙ n)
full_cons s b bs here there a (inr i) n = there a i n

pub stands_full : (R : Addr → Bool) (s : State) (owner d : ℕ) (x : Item d) → Stands R s owner d x → Full s (homes d x)
stands_full R s owner zero x st = λ a i. absurd i
stands_full R s owner (suc d) b st =
    full_cons s (addr_of b.word) (flat_map (homes d) b.items) (node_full R s owner 16 (addr_of b.word) (map
    (spell d) b.items) st.0) (all_full s (Stands R s owner d) (homes d) b.items st.1 (stands_full R s owner d))

pub stand_full : (R : Addr → Bool) (s : State) (owner d : ℕ) (xs : List (Item d))
    → AllByRecursion (Stands R s owner d) xs → Full s (flat_map (homes d) xs)
stand_full R s owner d xs st = all_full s (Stands R s owner d) (homes d) xs st (stands_full R s owner d)

-- ---- places that differ

abbrev pub Apart : List Addr → List Addr → Type 0
Apart xs ys = (a : Addr) → IsAmong a xs → IsAmong a ys → ⊥

pub record Parts (xs ys : List Addr) : Type 0 where
  pub left : Distinct xs
  pub right : Distinct ys
  pub apart : Apart xs ys

apart_cons : (x : Addr) (xs ys : List Addr) → (IsAmong x ys → ⊥) → Apart xs ys → Apart (x ∷ xs) ys
apart_cons x xs ys n p a (inl e) j = n (subst (λ (z : Addr). IsAmong z ys) (sym e) j)
apart_cons x xs ys n p a (inr i) j = p a i j

pub distinct_parts : (xs ys : List Addr) → Distinct (xs ++ ys) → Parts xs ys
distinct_parts [] ys d = record { left = tt; right = d; apart = λ a i j. absurd i }
distinct_parts (x ∷ xs) ys d =
    let p = distinct_parts xs ys d.1 in
    record {
      left = (λ i. d.0 (in_left x xs ys i), p.left);
      right = p.right;
      apart = apart_cons x xs ys (λ j. d.0
          (in_right x xs ys j)) p.apart;
    }

pub distinct_join : (xs ys : List Addr) → Distinct xs → Distinct ys → Apart xs ys → Distinct (xs ++ ys)
distinct_join [] ys p q n = q
distinct_join (x ∷ xs) ys p q n = (
  λ i. elim (in_or x xs ys i) [ inl l ↦ p.0 l | inr r ↦ n x (inl refl) r ],
  distinct_join xs ys p.1 q
      (λ a i j. n a (inr i) j),
)

-- places between others give way to places that were theirs or empty
pub distinct_swap : (s : State) (l m n r : List Addr) → Full s l → Full s r → Distinct (l ++ (m ++ r)) → Distinct n
    → ((a : Addr) → IsAmong a n → IsAmong a m ⊎ (s a ≡ None)) → Distinct (l ++ (n ++ r))
distinct_swap s l m n r fl fr d dn from =
    let p = distinct_parts l (m ++ r) d in
    let q = distinct_parts m r p.right in
    let nr : Apart n r = λ a i j. elim (from a i) [ inl k ↦ q.apart a k j | inr e ↦ fr a j e ] in
    let ln : Apart l (n ++ r) = λ a i j. elim (in_or a n r j) [
      | inl k ↦ elim (from a k) [ inl o ↦ p.apart a i (in_left a m r o) | inr e ↦ fl a i e ]
      | inr k ↦ p.apart a i (in_right a m r k)
    ] in
    distinct_join l (n ++ r) p.left (distinct_join n r dn q.right nr) ln

-- ---- a whole tree

rooted_kept : (R : Addr → Bool) (s t : State) (anchor : Addr) (owner d : ℕ) (b : Branch (Item d))
    → IsRooted R s anchor owner d b → ((a : Addr) → IsAmong a (anchor ∷ homes (suc d) b) → t a ≡ s a)
    → IsRooted R t anchor owner d b
rooted_kept R s t anchor owner d b tree keep = record {
  owner_fits = tree.owner_fits;
  root_fits = tree.root_fits;
  low = tree.low;
  reached = tree.reached;
  bytes = keep anchor (inl refl) ∙ tree.bytes;
  sub = record {
    spans = tree.sub.spans;
    node = node_kept R s t (word_of anchor) (root_least d) (addr_of b.word) (map (spell d) b.items) tree.sub.node
        (keep (addr_of b.word) (inr (inl refl)));
    stand = stand_kept R s t (word_of anchor) d b.items tree.sub.stand (λ a i. keep a (inr (inr i)));
    distinct = tree.sub.distinct;
  };
  apart = tree.apart;
}

-- equal bytes on its places keep a tree
pub tree_kept : (nodes : ℕ) (s t : State) (anchor owner : Addr) (pairs : List Entry) (at : List Addr)
    → IsTree nodes s anchor owner pairs at → ((a : Addr) → IsAmong a at → t a ≡ s a)
    → IsTree nodes t anchor owner pairs at
tree_kept nodes s t anchor owner pairs at tree keep = record {
  height = tree.height;
  root = tree.root;
  rooted = rooted_kept (is_on nodes (anchor.region % nodes)) s t anchor (word_of owner) tree.height tree.root tree.rooted
      (λ a i. keep a (subst (λ (xs : List Addr). IsAmong a xs) (sym tree.places_are) i));
  pairs_are = tree.pairs_are;
  places_are = tree.places_are;
}

-- each of its places has an object
pub tree_filled : (nodes : ℕ) (s : State) (anchor owner : Addr) (pairs : List Entry) (at : List Addr)
    → IsTree nodes s anchor owner pairs at → (a : Addr) → IsAmong a at → s a ≡ None → ⊥
tree_filled nodes s anchor owner pairs at tree a i =
    let R : Addr → Bool = is_on nodes (anchor.region % nodes) in
    let w = tree.rooted in
    let d : ℕ = tree.height in
    full_cons s anchor (homes (suc tree.height) tree.root) (some_not (s anchor) _ w.bytes)
    (full_cons s (addr_of tree.root.word) (flat_map (homes tree.height) tree.root.items)
    (node_full R s (word_of anchor) (root_least tree.height) (addr_of tree.root.word)
    (map (spell tree.height) tree.root.items) w.sub.node)
    (stand_full R s (word_of anchor) tree.height tree.root.items w.sub.stand))
    a (subst (λ (xs : List Addr). IsAmong a xs) tree.places_are i)

-- its anchor is one of its places
pub tree_self : (nodes : ℕ) (s : State) (anchor owner : Addr) (pairs : List Entry) (at : List Addr)
    → IsTree nodes s anchor owner pairs at → IsAmong anchor at
tree_self nodes s anchor owner pairs at tree =
    subst (λ (xs : List Addr). IsAmong anchor xs) (sym tree.places_are) (inl refl)
