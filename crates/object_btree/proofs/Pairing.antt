-- Insertion and removal between pairs that are all below, and pairs that are all above.
use Rattle.std.proofs.Common.{◌≡◌, inl, inr, ℕ, zero, List, [], ◌∷◌, ◌++◌, Option, Some, None, refl, ap, subst, ◌∙◌}
use Rattle.std.specs.declared.cmp.Ordering.{Ordering}
use Rattle.std.specs.declared.cmp.Ordering.TheVariants.{Less, Equal, Greater}
use Rattle.std.specs.List.{AllByRecursion}
use Rattle.std.proofs.lemmas.Map.Lookups.{exact_bytes}
use Rattle.object_view.specs.Layout.{Entry}
use Rattle.object_view.specs.Keys.{Bound, UpTo, Below, compare}
use Rattle.object_view.specs.Keys.{by_order, lookup, inserted, removed}
use Rattle.object_view.specs.Trees.{Ways}
use Rattle.object_btree.proofs.Orders.{below_below, below_above, upto_refl, upto_below, or_below, flip}
use Rattle.object_btree.proofs.Paths.{Over, Under, ways_lower}

abbrev with : List ℕ → ℕ → Entry
with k v = record { key = k; word = v }

abbrev pub AllAbove : List ℕ → List Entry → Type 0
AllAbove k xs = AllByRecursion (λ (e : Entry). compare e.key k ≡ Greater) xs

abbrev pub AllBelow : List ℕ → List Entry → Type 0
AllBelow k xs = AllByRecursion (λ (e : Entry). compare e.key k ≡ Less) xs

pub all_above : (k : List ℕ) (b : Bound) (es : List Entry) → Below k b → Over b es → AllAbove k es
all_above k b [] p o = tt
all_above k b (e ∷ es) p o = (below_above k b e.key p o.0, all_above k b es p o.1)

pub all_below : (k : List ℕ) (b : Bound) (es : List Entry) → UpTo b (Some k) → Under b es → AllBelow k es
all_below k b [] p o = tt
all_below k b (e ∷ es) p o = (below_below e.key b k o.0 p, all_below k b es p o.1)

-- ---- inserted

ordered : (o : Ordering) (y : Entry) (both one : List Entry) (n : Entry) (ys zs : List Entry) → both ≡ one ++ zs
    → by_order o (y ∷ both) (n ∷ (ys ++ zs)) (n ∷ y ∷ (ys ++ zs)) ≡ by_order o (y ∷ one) (n ∷ ys) (n ∷ y ∷ ys) ++ zs
ordered Less y both one n ys zs e = ap (λ (t : List Entry). y ∷ t) e
ordered Equal y both one n ys zs e = refl
ordered Greater y both one n ys zs e = refl

put_first : (k : List ℕ) (v : ℕ) (zs : List Entry) → AllAbove k zs → inserted k v zs ≡ with k v ∷ zs
put_first k v [] a = refl
put_first k v (z ∷ zs) a =
    ap (λ (o : Ordering). by_order o (z ∷ inserted k v zs) (with k v ∷ zs) (with k v ∷ z ∷ zs)) a.0

put_front : (k : List ℕ) (v : ℕ) (ys zs : List Entry) → AllAbove k zs → inserted k v (ys ++ zs) ≡ inserted k v ys ++ zs
put_front k v [] zs a = put_first k v zs a
put_front k v (y ∷ ys) zs a =
    ordered (compare y.key k) y (inserted k v (ys ++ zs)) (inserted k v ys) (with k v) ys zs (put_front k v ys zs a)

put_back : (k : List ℕ) (v : ℕ) (ys zs : List Entry) → AllBelow k ys → inserted k v (ys ++ zs) ≡ ys ++ inserted k v zs
put_back k v [] zs b = refl
put_back k v (y ∷ ys) zs b =
    ap (λ (o : Ordering). by_order o (y ∷ inserted k v (ys ++ zs)) (with k v ∷ (ys ++ zs)) (with k v ∷ y ∷ (ys ++ zs)))
    b.0 ∙ ap (λ (t : List Entry). y ∷ t) (put_back k v ys zs b.1)

pub put_mid : (k : List ℕ) (v : ℕ) (xs ys zs : List Entry) → AllBelow k xs → AllAbove k zs
    → inserted k v (xs ++ (ys ++ zs)) ≡ xs ++ (inserted k v ys ++ zs)
put_mid k v xs ys zs b a = put_back k v xs (ys ++ zs) b ∙ ap (λ t. xs ++ t) (put_front k v ys zs a)

-- ---- lookup

find_first : (k : List ℕ) (zs : List Entry) → AllAbove k zs → lookup k zs ≡ None
find_first k [] a = refl
find_first k (z ∷ zs) a = ap (λ (o : Ordering). by_order o (lookup k zs) (Some z.word) None) a.0

found : (o : Ordering) (both one some : Option ℕ) → both ≡ one → by_order o both some None ≡ by_order o one some None
found Less both one some e = e
found Equal both one some e = refl
found Greater both one some e = refl

find_front : (k : List ℕ) (ys zs : List Entry) → AllAbove k zs → lookup k (ys ++ zs) ≡ lookup k ys
find_front k [] zs a = find_first k zs a
find_front k (y ∷ ys) zs a =
    found (compare y.key k) (lookup k (ys ++ zs)) (lookup k ys) (Some y.word) (find_front k ys zs a)

find_back : (k : List ℕ) (ys zs : List Entry) → AllBelow k ys → lookup k (ys ++ zs) ≡ lookup k zs
find_back k [] zs b = refl
find_back k (y ∷ ys) zs b = ap (λ (o : Ordering). by_order o (lookup k (ys ++ zs)) (Some y.word) None) b.0
    ∙ find_back k ys zs b.1

pub find_mid : (k : List ℕ) (xs ys zs : List Entry) → AllBelow k xs → AllAbove k zs
    → lookup k (xs ++ (ys ++ zs)) ≡ lookup k ys
find_mid k xs ys zs b a = find_back k xs (ys ++ zs) b ∙ find_front k ys zs a

-- ---- removed

taken : (o : Ordering) (y : Entry) (both one : List Entry) (ys zs : List Entry) → both ≡ one ++ zs
    → by_order o (y ∷ both) (ys ++ zs) (y ∷ (ys ++ zs)) ≡ by_order o (y ∷ one) ys (y ∷ ys) ++ zs
taken Less y both one ys zs e = ap (λ (t : List Entry). y ∷ t) e
taken Equal y both one ys zs e = refl
taken Greater y both one ys zs e = refl

take_first : (k : List ℕ) (zs : List Entry) → AllAbove k zs → removed k zs ≡ zs
take_first k [] a = refl
take_first k (z ∷ zs) a = ap (λ (o : Ordering). by_order o (z ∷ removed k zs) zs (z ∷ zs)) a.0

take_front : (k : List ℕ) (ys zs : List Entry) → AllAbove k zs → removed k (ys ++ zs) ≡ removed k ys ++ zs
take_front k [] zs a = take_first k zs a
take_front k (y ∷ ys) zs a =
    taken (compare y.key k) y (removed k (ys ++ zs)) (removed k ys) ys zs (take_front k ys zs a)

take_back : (k : List ℕ) (ys zs : List Entry) → AllBelow k ys → removed k (ys ++ zs) ≡ ys ++ removed k zs
take_back k [] zs b = refl
take_back k (y ∷ ys) zs b = ap (λ (o : Ordering). by_order o (y ∷ removed k (ys ++ zs)) (ys ++ zs) (y ∷ (ys ++ zs))) b.0
    ∙ ap (λ (t : List Entry). y ∷ t) (take_back k ys zs b.1)

pub take_mid : (k : List ℕ) (xs ys zs : List Entry) → AllBelow k xs → AllAbove k zs
    → removed k (xs ++ (ys ++ zs)) ≡ xs ++ (removed k ys ++ zs)
take_mid k xs ys zs b a = take_back k xs (ys ++ zs) b ∙ ap (λ t. xs ++ t) (take_front k ys zs a)

-- ---- leaves

same_key : (a b : List ℕ) → compare a b ≡ Equal → a ≡ b
same_key a b e = exact_bytes a b e

put_leaf : (o : Ordering) (k : List ℕ) (v : ℕ) (lo : Bound) (x : Entry) (xs : List Entry) (m hi : Bound)
    → compare x.key k ≡ o → UpTo lo (Some k) → Below k hi → UpTo lo (Some x.key) → Below x.key m → Ways zero m xs hi
    → ((b : Bound) → UpTo b (Some k) → Ways zero b xs hi → Ways zero b (inserted k v xs) hi)
    → Ways zero lo (by_order o (x ∷ inserted k v xs) (with k v ∷ xs) (with k v ∷ x ∷ xs)) hi
put_leaf Less k v lo x xs m hi e p q a b rest more =
    elim (or_below k m) [
      | inl u ↦ (m, (a, b), more m u rest)
      | inr l ↦ (
        Some k,
        (a, e),
        more (Some k) (upto_refl (Some k))
            (ways_lower zero (Some k) m xs hi (upto_below (Some k) k m (upto_refl (Some k)) l) rest),
      )
    ]
put_leaf Equal k v lo x xs m hi e p q a b rest more =
    (m, (p, subst (λ (t : List ℕ). Below t m) (same_key x.key k e) b), rest)
put_leaf Greater k v lo x xs m hi e p q a b rest more =
    (Some x.key, (p, flip x.key k e), (m, (upto_refl (Some x.key), b), rest))

pub ways_put : (k : List ℕ) (v : ℕ) (lo : Bound) (es : List Entry) (hi : Bound) → UpTo lo (Some k) → Below k hi
    → Ways zero lo es hi → Ways zero lo (inserted k v es) hi
ways_put k v lo [] hi p q g = (hi, (p, q), upto_refl hi)
ways_put k v lo (x ∷ xs) hi p q (m, s, rest) =
    put_leaf (compare x.key k) k v lo x xs m hi refl p q s.0 s.1 rest (λ b u w. ways_put k v b xs hi u q w)

take_leaf : (o : Ordering) (k : List ℕ) (lo : Bound) (x : Entry) (xs : List Entry) (m hi : Bound) → UpTo lo (Some x.key)
    → Below x.key m → Ways zero m xs hi → Ways zero m (removed k xs) hi
    → Ways zero lo (by_order o (x ∷ removed k xs) xs (x ∷ xs)) hi
take_leaf Less k lo x xs m hi a b rest more = (m, (a, b), more)
take_leaf Equal k lo x xs m hi a b rest more = ways_lower zero lo m xs hi (upto_below lo x.key m a b) rest
take_leaf Greater k lo x xs m hi a b rest more = (m, (a, b), rest)

pub ways_take : (k : List ℕ) (lo : Bound) (es : List Entry) (hi : Bound) → Ways zero lo es hi
    → Ways zero lo (removed k es) hi
ways_take k lo [] hi g = g
ways_take k lo (x ∷ xs) hi (m, s, rest) =
    take_leaf (compare x.key k) k lo x xs m hi s.0 s.1 rest (ways_take k m xs hi rest)
