-- A half-edge put into a list of them or taken out, as the entry in the list of entries.
use Rattle.std.proofs.Common.{◌≡◌, ℕ, ◌+◌, List, [], ◌∷◌, ◌++◌, length, Option, Some, None, refl, sym, ap, subst, ◌∙◌, arith}
use Rattle.std.specs.Prelude.{map}
use Rattle.std.specs.List.{AllByRecursion}
use Rattle.std.specs.declared.cmp.Ordering.{Ordering}
use Rattle.std.specs.declared.cmp.Ordering.TheVariants.{Less, Equal, Greater}
use Rattle.std.proofs.lemmas.List.{length-map}
use Rattle.a1_base.specs.declared.place.Addr.{Addr}
use Rattle.object_view.specs.Layout.{Entry, word_of}
use Rattle.object_view.specs.Keys.{Bound, UpTo, compare, by_order, lookup, inserted, removed}
use Rattle.object_view.specs.Trees.{Ways}
use Rattle.object_btree.proofs.Orders.{upto_trans, upto_below, below_upto, low_first}
use Rattle.object_btree.proofs.Pairing.{ways_put, ways_take}
use Rattle.type_schema.specs.declared.objects.Half.{Half}
use Rattle.type_schema.specs.Objects.{IsHalf, half_key, half_entry}
use Rattle.type_schema.specs.Structures.{Rising, with_half, without_half}

put_order : (o : Ordering) (h x : Half) (xs ys : List Half) (ws : List Entry) → map half_entry ys ≡ ws
    → map half_entry (by_order o (x ∷ ys) (h ∷ xs) (h ∷ x ∷ xs))
    ≡ by_order o (half_entry x ∷ ws) (half_entry h ∷ map half_entry xs) (half_entry h ∷ half_entry x ∷ map half_entry xs)
put_order Less h x xs ys ws e = ap (λ (t : List Entry). half_entry x ∷ t) e
put_order Equal h x xs ys ws e = refl
put_order Greater h x xs ys ws e = refl

-- with one more half-edge: with one more entry
pub with_put : (h : Half) (hs : List Half)
    → map half_entry (with_half h hs) ≡ inserted (half_key h.kind h.far) (word_of h.body) (map half_entry hs)
with_put h [] = refl
with_put h (x ∷ xs) = put_order (compare (half_key x.kind x.far) (half_key h.kind h.far)) h x xs (with_half h xs)
    (inserted (half_key h.kind h.far) (word_of h.body) (map half_entry xs)) (with_put h xs)

take_order : (o : Ordering) (x : Half) (xs ys : List Half) (ws : List Entry) → map half_entry ys ≡ ws
    → map half_entry (by_order o (x ∷ ys) xs (x ∷ xs))
    ≡ by_order o (half_entry x ∷ ws) (map half_entry xs) (half_entry x ∷ map half_entry xs)
take_order Less x xs ys ws e = ap (λ (t : List Entry). half_entry x ∷ t) e
take_order Equal x xs ys ws e = refl
take_order Greater x xs ys ws e = refl

-- without a half-edge: without its entry
pub without_take : (kind : ℕ) (far : Addr) (hs : List Half)
    → map half_entry (without_half kind far hs) ≡ removed (half_key kind far) (map half_entry hs)
without_take kind far [] = refl
without_take kind far (x ∷ xs) = take_order (compare (half_key x.kind x.far) (half_key kind far)) x xs
    (without_half kind far xs) (removed (half_key kind far) (map half_entry xs)) (without_take kind far xs)

fit_put : (o : Ordering) (h x : Half) (xs ys : List Half) → IsHalf h → AllByRecursion IsHalf (x ∷ xs)
    → AllByRecursion IsHalf ys → AllByRecursion IsHalf (by_order o (x ∷ ys) (h ∷ xs) (h ∷ x ∷ xs))
fit_put Less h x xs ys f fs gs = (fs.0, gs)
fit_put Equal h x xs ys f fs gs = (f, fs.1)
fit_put Greater h x xs ys f fs gs = (f, fs)

pub with_fit : (h : Half) (hs : List Half) → IsHalf h → AllByRecursion IsHalf hs → AllByRecursion IsHalf (with_half h hs)
with_fit h [] f fs = (f, tt)
with_fit h (x ∷ xs) f fs = fit_put (compare (half_key x.kind x.far) (half_key h.kind h.far)) h x xs (with_half h xs) f fs
    (with_fit h xs f fs.1)

fit_take : (o : Ordering) (x : Half) (xs ys : List Half) → AllByRecursion IsHalf (x ∷ xs)
    → AllByRecursion IsHalf ys → AllByRecursion IsHalf (by_order o (x ∷ ys) xs (x ∷ xs))
fit_take Less x xs ys fs gs = (fs.0, gs)
fit_take Equal x xs ys fs gs = fs.1
fit_take Greater x xs ys fs gs = fs

pub without_fit : (kind : ℕ) (far : Addr) (hs : List Half) → AllByRecursion IsHalf hs
    → AllByRecursion IsHalf (without_half kind far hs)
without_fit kind far [] fs = tt
without_fit kind far (x ∷ xs) fs = fit_take (compare (half_key x.kind x.far) (half_key kind far)) x xs
    (without_half kind far xs) fs (without_fit kind far xs fs.1)

pub with_rising : (h : Half) (hs : List Half) → Rising (map half_entry hs) → Rising (map half_entry (with_half h hs))
with_rising h hs r = subst (λ (es : List Entry). Rising es) (sym (with_put h hs))
    (ways_put (half_key h.kind h.far) (word_of h.body) (Some []) (map half_entry hs) None
    (low_first (half_key h.kind h.far)) tt r)

pub without_rising : (kind : ℕ) (far : Addr) (hs : List Half) → Rising (map half_entry hs)
    → Rising (map half_entry (without_half kind far hs))
without_rising kind far hs r = subst (λ (es : List Entry). Rising es) (sym (without_take kind far hs))
    (ways_take (half_key kind far) (Some []) (map half_entry hs) None r)

-- ---- how many

some_no : (w : ℕ) → ◌≡◌ {A = Option ℕ} (Some w) None → ⊥
some_no w h = cc

no_some : (w : ℕ) → ◌≡◌ {A = Option ℕ} None (Some w) → ⊥
no_some w h = cc

more_order : (o : Ordering) (e x : Entry) (xs ys : List Entry) (rest : Option ℕ)
    → by_order o rest (Some x.word) None ≡ None → (rest ≡ None → length ys ≡ length xs + 1)
    → length (by_order o (x ∷ ys) (e ∷ xs) (e ∷ x ∷ xs)) ≡ length (x ∷ xs) + 1
more_order Less e x xs ys rest n more = let a : length ys ≡ length xs + 1 = more n in omega (arith, a)
more_order Equal e x xs ys rest n more = absurd (some_no x.word n)
more_order Greater e x xs ys rest n more = omega arith

-- an entry whose key is new is one more
pub one_more : (k : List ℕ) (v : ℕ) (es : List Entry) → lookup k es ≡ None → length (inserted k v es) ≡ length es + 1
one_more k v [] n = refl
one_more k v (x ∷ xs) n = more_order (compare x.key k) (record { key = k; word = v }) x xs (inserted k v xs) (lookup k xs)
    n (λ m. one_more k v xs m)

less_order : (o : Ordering) (x : Entry) (xs ys : List Entry) (w : ℕ) (rest : Option ℕ)
    → by_order o rest (Some x.word) None ≡ Some w → (rest ≡ Some w → length xs ≡ length ys + 1)
    → length (x ∷ xs) ≡ length (by_order o (x ∷ ys) xs (x ∷ xs)) + 1
less_order Less x xs ys w rest n more = let a : length xs ≡ length ys + 1 = more n in omega (arith, a)
less_order Equal x xs ys w rest n more = omega arith
less_order Greater x xs ys w rest n more = absurd (no_some w n)

-- an entry that is there is one less when it is taken
pub one_less : (k : List ℕ) (w : ℕ) (es : List Entry) → lookup k es ≡ Some w → length es ≡ length (removed k es) + 1
one_less k w [] n = absurd (no_some w n)
one_less k w (x ∷ xs) n = less_order (compare x.key k) x xs (removed k xs) w (lookup k xs) n (λ m. one_less k w xs m)

pub with_length : (h : Half) (hs : List Half) → lookup (half_key h.kind h.far) (map half_entry hs) ≡ None
    → length (with_half h hs) ≡ length hs + 1
with_length h hs n =
    let a : length (map half_entry (with_half h hs)) ≡ length (map half_entry hs) + 1 =
    ap length (with_put h hs) ∙ one_more (half_key h.kind h.far) (word_of h.body) (map half_entry hs) n in
    omega (arith, a, length-map (with_half h hs) half_entry, length-map hs half_entry)

pub without_length : (kind : ℕ) (far : Addr) (w : ℕ) (hs : List Half)
    → lookup (half_key kind far) (map half_entry hs) ≡ Some w → length hs ≡ length (without_half kind far hs) + 1
without_length kind far w hs n =
    let a : length (map half_entry hs) ≡ length (map half_entry (without_half kind far hs)) + 1 =
    one_less (half_key kind far) w (map half_entry hs) n
    ∙ ap (λ (es : List Entry). length es + 1) (sym (without_take kind far hs)) in
    omega (arith, a, length-map (without_half kind far hs) half_entry, length-map hs half_entry)

-- ---- entries put one behind another

first_from : (m hi : Bound) (xs : List Entry) (e : Entry) (ys : List Entry) → Ways 0 m (xs ++ e ∷ ys) hi
    → UpTo m (Some e.key)
first_from m hi [] e ys (n, s, rest) = s.0
first_from m hi (x ∷ xs) e ys (n, s, rest) =
    upto_trans m n (Some e.key) (upto_below m x.key n s.0 s.1) (first_from n hi xs e ys rest)

-- the next of rising entries goes behind those before it
pub put_last : (lo hi : Bound) (xs : List Entry) (e : Entry) (ys : List Entry) → Ways 0 lo (xs ++ e ∷ ys) hi
    → inserted e.key e.word xs ≡ xs ++ e ∷ []
put_last lo hi [] e ys w = refl
put_last lo hi (x ∷ xs) e ys (m, s, rest) =
    let o : compare x.key e.key ≡ Less = below_upto x.key m (Some e.key) s.1 (first_from m hi xs e ys rest) in
    ap (λ (c : Ordering). by_order c (x ∷ inserted e.key e.word xs) (e ∷ xs) (e ∷ x ∷ xs)) o
    ∙ ap (λ (t : List Entry). x ∷ t) (put_last m hi xs e ys rest)
