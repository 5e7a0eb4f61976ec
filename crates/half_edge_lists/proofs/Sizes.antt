-- How many places and how many pairs a tree has.
use Rattle.std.proofs.Common.{◌≡◌, ℕ, zero, suc, ◌+◌, ◌*◌, ◌%◌, ◌≤◌, ◌<◌, Bool, false, List, [], ◌∷◌, length, ap, subst, arith}
use Rattle.std.specs.Prelude.{map}
use Rattle.std.specs.List.{AllByRecursion, flat_map}
use Rattle.std.proofs.lemmas.List.{length-append, length-map}
use Rattle.std.proofs.Math.Nat.{mul-le-mul_left}
use Rattle.a1_base.specs.declared.place.Addr.{Addr}
use Rattle.object_view.specs.Agreement.{State}
use Rattle.object_view.specs.Layout.{Entry, addr_of, word_of}
use Rattle.object_view.specs.Trees.{Item, spell, content, homes, Stands, IsTree, root_least, is_on}
use Rattle.object_btree.specs.Levels.{TallAt}
use Rattle.object_btree.specs.Remains.{Destroys}

few_in : {A : Type 0} (P : A → Type 0) (f : A → List Addr) (g : A → List Entry) (xs : List A)
    → ((x : A) → P x → 15 * length (f x) + 1 ≤ length (g x)) → AllByRecursion P xs
    → 15 * length (flat_map f xs) + length xs ≤ length (flat_map g xs)
few_in P f g [] one p = omega arith
few_in P f g (x ∷ xs) one p =
    let a = one x p.0 in
    let b = few_in P f g xs one p.1 in
    omega (arith, a, b, length-append (f x) (flat_map f xs), length-append (g x) (flat_map g xs))

few_item : (R : Addr → Bool) (s : State) (owner d : ℕ) (x : Item d) → Stands R s owner d x
    → 15 * length (homes d x) + 1 ≤ length (content d x)
few_item R s owner zero e st = omega arith
few_item R s owner (suc d) b st =
    let many : 16 ≤ length (map (spell d) b.items) = st.0.many in
    let below : 15 * length (flat_map (homes d) b.items) + length b.items ≤ length (flat_map (content d) b.items) =
    few_in (Stands R s owner d) (homes d) (content d) b.items (few_item R s owner d) st.1 in
    omega (arith, many, below, length-map b.items (spell d))

-- a tree has at most one place to fifteen pairs, besides its anchor and its root
pub few_places : (nodes : ℕ) (s : State) (anchor owner : Addr) (pairs : List Entry) (at : List Addr)
    → IsTree nodes s anchor owner pairs at → 15 * length at ≤ length pairs + 30
few_places nodes s anchor owner pairs at tree =
    let R : Addr → Bool = is_on nodes (anchor.region % nodes) in
    let below : 15 * length (flat_map (homes tree.height) tree.root.items) + length tree.root.items
    ≤ length (flat_map (content tree.height) tree.root.items) =
    few_in (Stands R s (word_of anchor) tree.height) (homes tree.height) (content tree.height) tree.root.items
    (few_item R s (word_of anchor) tree.height) tree.rooted.sub.stand in
    let these : length at ≡ length (anchor ∷ addr_of tree.root.word ∷ flat_map (homes tree.height) tree.root.items) =
    ap length tree.places_are in
    let those : length pairs ≡ length (flat_map (content tree.height) tree.root.items) = ap length tree.pairs_are in
    omega (arith, below, these, those)

-- ---- the least number of pairs of an item of this height

least : ℕ → ℕ
least zero = 1
least (suc d) = 16 * least d

many_in : {A : Type 0} (P : A → Type 0) (g : A → List Entry) (n : ℕ) (xs : List A)
    → ((x : A) → P x → n ≤ length (g x)) → AllByRecursion P xs → n * length xs ≤ length (flat_map g xs)
many_in P g n [] one p = omega arith
many_in P g n (x ∷ xs) one p =
    let a = one x p.0 in
    let b = many_in P g n xs one p.1 in
    omega (arith, a, b, length-append (g x) (flat_map g xs))

many_item : (R : Addr → Bool) (s : State) (owner d : ℕ) (x : Item d) → Stands R s owner d x
    → least d ≤ length (content d x)
unfolding least
many_item R s owner zero e st = omega arith
many_item R s owner (suc d) b st =
    let many : 16 ≤ length (map (spell d) b.items) = st.0.many in
    let enough : 16 ≤ length b.items = omega (arith, many, length-map b.items (spell d)) in
    let below : least d * length b.items ≤ length (flat_map (content d) b.items) =
    many_in (Stands R s owner d) (content d) (least d) b.items (many_item R s owner d) st.1 in
    let more : least d * 16 ≤ least d * length b.items = mul-le-mul_left (least d) enough in
    omega (arith, below, more)

tall_least : (d n : ℕ) → d ≡ 15 → root_least d ≤ n → 2 ≤ n
tall_least d n e h = let r : root_least d ≡ 2 = ap root_least e in omega (arith, r, h)

-- a tree that needs a 17th level has more pairs than a list that becomes a tree
pub tall_many : (nodes : ℕ) (s : State) (anchor owner : Addr) (pairs : List Entry) (at : List Addr) (k : List ℕ)
    → TallAt nodes s anchor owner pairs at k → 1001 < length pairs
unfolding least
tall_many nodes s anchor owner pairs at k t =
    let R : Addr → Bool = is_on nodes (anchor.region % nodes) in
    let d : ℕ = t.tree.height in
    let below : least t.tree.height * length t.tree.root.items ≤ length (flat_map (content t.tree.height) t.tree.root.items) =
    many_in (Stands R s (word_of anchor) t.tree.height) (content t.tree.height) (least t.tree.height) t.tree.root.items
    (many_item R s (word_of anchor) t.tree.height) t.tree.rooted.sub.stand in
    let some : root_least t.tree.height ≤ length (map (spell t.tree.height) t.tree.root.items) =
    t.tree.rooted.sub.node.many in
    let two : 2 ≤ length t.tree.root.items =
    tall_least t.tree.height (length t.tree.root.items) t.tall.tall
    (subst (λ (n : ℕ). root_least t.tree.height ≤ n) (length-map t.tree.root.items (spell t.tree.height)) some) in
    let high : least t.tree.height ≡ 1152921504606846976 = ap least t.tall.tall in
    let more : least t.tree.height * 2 ≤ least t.tree.height * length t.tree.root.items =
    mul-le-mul_left (least t.tree.height) two in
    let those : length pairs ≡ length (flat_map (content t.tree.height) t.tree.root.items) = ap length t.tree.pairs_are in
    omega (arith, below, high, more, those)

-- a tree of at most 500 pairs is gone in one step
pub all_gone : (nodes : ℕ) (s t : State) (anchor : Addr) (ps : List Addr) (done : Bool) → 15 * length ps ≤ 530
    → Destroys nodes s t anchor ps 1000 done → done ≡ false → ⊥
all_gone nodes s t anchor ps done few m not =
    let on = m.goes_on not in
    let left : 1 ≤ length m.left = on.0 in
    let freed : m.freed ≡ 1000 = on.1 in
    let count : length ps ≡ length m.left + m.freed = m.count in
    omega (arith, few, left, freed, count)
