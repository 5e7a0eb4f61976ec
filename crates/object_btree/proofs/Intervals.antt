-- The pairs between two keys, gathered from item to item.
use Rattle.std.proofs.Common.{◌≡◌, ◌⊎◌, inl, inr, ℕ, zero, suc, ◌+◌, ◌-◌, ◌≤◌, ◌<◌, Bool, true, false, cond, ltb, List, [], ◌∷◌, ◌++◌, length, take, Some, refl, sym, ap, subst, ◌∙◌, append_assoc, arith}
use Rattle.std.specs.Prelude.{map, not}
use Rattle.std.proofs.lemmas.Bool.{ltb-false, le-ltb}
use Rattle.std.proofs.lemmas.List.{append-nil, length-append}
use Rattle.std.specs.declared.cmp.Ordering.{Ordering}
use Rattle.std.specs.declared.cmp.Ordering.TheVariants.{Less, Equal, Greater}
use Rattle.object_view.specs.Layout.{Entry}
use Rattle.object_view.specs.Keys.{Bound, UpTo, compare}
use Rattle.object_btree.specs.Intervals.{is_less, is_within, between, gathered, Pair}
use Rattle.object_view.specs.Trees.{Branch, Item, spell, content, Ways, contents}
use Rattle.object_btree.specs.Steps.{Begins}
use Rattle.object_btree.proofs.Orders.{itself, upto_trans, below_upto, flip, flop}
use Rattle.object_btree.proofs.Paths.{Over, Under, ways_within, spans_within}

-- ---- gathering

true_or : (b : Bool) → (b ≡ true) ⊎ (b ≡ false)
true_or true = inl refl
true_or false = inr refl

le_or : (a b : ℕ) → (b ≤ a) ⊎ (a < b)
le_or zero zero = inl (omega arith)
le_or zero (suc b) = inr (omega arith)
le_or (suc a) zero = inl (omega arith)
le_or (suc a) (suc b) = elim (le_or a b) [ inl l ↦ inl (omega (arith, l)) | inr m ↦ inr (omega (arith, m)) ]

ltb_lt : (a b : ℕ) → ltb a b ≡ true → a < b
ltb_lt a b t = elim (le_or a b) [ inl l ↦ let f : ltb a b ≡ false = le-ltb a b l in absurd cc | inr m ↦ m ]

pub gather_full : (limit : ℕ) (out xs : List Pair) → limit ≤ length out → gathered limit out xs ≡ out
gather_full limit out [] h = refl
gather_full limit out (x ∷ xs) h =
    ap (λ (b : Bool). cond b (gathered limit (out ++ x ∷ []) xs) out) (le-ltb (length out) limit h)

gather_step : (limit : ℕ) (out : List Pair) (x : Pair) (xs ys : List Pair) (b : Bool) → b ≡ ltb (length out) limit
    → (gathered limit (gathered limit (out ++ x ∷ []) xs) ys ≡ gathered limit (out ++ x ∷ []) (xs ++ ys))
    → gathered limit (cond b (gathered limit (out ++ x ∷ []) xs) out) ys ≡ cond b
    (gathered limit (out ++ x ∷ []) (xs ++ ys)) out
gather_step limit out x xs ys true e ih = ih
gather_step limit out x xs ys false e ih = gather_full limit out ys (ltb-false (length out) limit (sym e))

pub gather_join : (limit : ℕ) (out xs ys : List Pair)
    → gathered limit (gathered limit out xs) ys ≡ gathered limit out (xs ++ ys)
gather_join limit out [] ys = refl
gather_join limit out (x ∷ xs) ys =
    gather_step limit out x xs ys (ltb (length out) limit) refl (gather_join limit (out ++ x ∷ []) xs ys)

ltb_yes : (a b : ℕ) → a < b → ltb a b ≡ true
ltb_yes a b h = elim (true_or (ltb a b)) [ inl t ↦ t | inr f ↦ let n = ltb-false a b f in absurd (omega (arith, n, h)) ]

pub gather_one : (limit : ℕ) (out : List Pair) (x : Pair) (xs : List Pair) → length out < limit
    → gathered limit (out ++ x ∷ []) xs ≡ gathered limit out (x ∷ xs)
gather_one limit out x xs h =
    sym (ap (λ (b : Bool). cond b (gathered limit (out ++ x ∷ []) xs) out) (ltb_yes (length out) limit h))

take_none : (xs : List Pair) (n : ℕ) → n ≡ 0 → take n xs ≡ []
take_none xs zero e = refl
take_none xs (suc n) e = absurd (omega (arith, e))

take_one : (x : Pair) (xs : List Pair) (n m : ℕ) → n ≡ suc m → take n (x ∷ xs) ≡ x ∷ take m xs
take_one x xs n m e = ap (λ (k : ℕ). take k (x ∷ xs)) e

take_nil : (n : ℕ) → take {A = Pair} n [] ≡ []
take_nil zero = refl
take_nil (suc n) = refl

pub gather_take : (limit : ℕ) (out xs : List Pair) → gathered limit out xs ≡ out ++ take (limit - length out) xs
gather_take limit out [] = sym (append-nil out) ∙ ap (λ (t : List Pair). out ++ t) (sym (take_nil (limit - length out)))
gather_take limit out (x ∷ xs) = elim (true_or (ltb (length out) limit)) [
  | inl t ↦
      let h : length out < limit = ltb_lt (length out) limit t in
      let l : length (out ++ x ∷ []) ≡ length out + 1 = length-append out (x ∷ []) in
      let n : limit - length out ≡ suc (limit - length (out ++ x ∷ [])) = omega (arith, h, l) in
      sym (gather_one limit out x xs h) ∙ gather_take limit (out ++ x ∷ []) xs
      ∙ append_assoc out (x ∷ []) (take (limit - length (out ++ x ∷ [])) xs)
      ∙ ap (λ (t : List Pair). out ++ t) (sym (take_one x xs (limit - length out) (limit - length (out ++ x ∷ [])) n))
  | inr f ↦
      let h : limit ≤ length out = ltb-false (length out) limit f in
      gather_full limit out (x ∷ xs) h ∙ sym (append-nil out)
      ∙ ap (λ (t : List Pair). out ++ t) (sym (take_none (x ∷ xs) (limit - length out) (omega (arith, h))))
]

pub gather_all : (limit : ℕ) (xs : List Pair) → gathered limit [] xs ≡ take limit xs
gather_all limit xs = gather_take limit [] xs ∙ ap (λ (n : ℕ). take n xs) (omega arith)

-- ---- between

between_step : (from to : List ℕ) (e : Entry) (xs ys : List Entry) (b : Bool)
    → (between from to (xs ++ ys) ≡ between from to xs ++ between from to ys)
    → cond b ((e.key, e.word) ∷ between from to (xs ++ ys)) (between from to (xs ++ ys)) ≡ cond b
    ((e.key, e.word) ∷ between from to xs) (between from to xs) ++ between from to ys
between_step from to e xs ys true ih = ap (λ (t : List Pair). (e.key, e.word) ∷ t) ih
between_step from to e xs ys false ih = ih

pub between_join : (from to : List ℕ) (xs ys : List Entry)
    → between from to (xs ++ ys) ≡ between from to xs ++ between from to ys
between_join from to [] ys = refl
between_join from to (e ∷ xs) ys =
    between_step from to e xs ys (is_within (compare e.key from) (compare e.key to)) (between_join from to xs ys)

within_less : (o p : Ordering) → o ≡ Less → is_within o p ≡ false
within_less Less p e = refl
within_less Equal p e = absurd cc
within_less Greater p e = absurd cc

not_lesser : (o p : Ordering) → is_less p ≡ false → is_within o p ≡ false
not_lesser Less p e = refl
not_lesser Equal p e = e
not_lesser Greater p e = e

pub within_yes : (o p : Ordering) → (o ≡ Less → ⊥) → p ≡ Less → is_within o p ≡ true
within_yes Less p n e = absurd (n refl)
within_yes Equal p n e = ap is_less e
within_yes Greater p n e = ap is_less e

pub between_skip : (from to : List ℕ) (e : Entry) (es : List Entry) → compare e.key from ≡ Less
    → between from to (e ∷ es) ≡ between from to es
between_skip from to e es l =
    ap (λ (b : Bool). cond b ((e.key, e.word) ∷ between from to es) (between from to es))
    (within_less (compare e.key from) (compare e.key to) l)

pub between_take : (from to : List ℕ) (e : Entry) (es : List Entry) → (compare e.key from ≡ Less → ⊥)
    → compare e.key to ≡ Less → between from to (e ∷ es) ≡ (e.key, e.word) ∷ between from to es
between_take from to e es n l =
    ap (λ (b : Bool). cond b ((e.key, e.word) ∷ between from to es) (between from to es))
    (within_yes (compare e.key from) (compare e.key to) n l)

-- all from the second bound on
less_greater : (a b : List ℕ) (p : Ordering) → p ≡ compare a b → (compare b a ≡ Greater → ⊥) → is_less p ≡ false
less_greater a b Less e n = absurd (n (flop a b (sym e)))
less_greater a b Equal e n = refl
less_greater a b Greater e n = refl

pub between_high : (from to : List ℕ) (lo : Bound) (es : List Entry) → UpTo (Some to) lo → Over lo es
    → between from to es ≡ []
between_high from to lo [] u o = refl
between_high from to lo (e ∷ es) u o =
    let n : compare to e.key ≡ Greater → ⊥ = upto_trans (Some to) lo (Some e.key) u o.0 in
    let f : is_less (compare e.key to) ≡ false = less_greater e.key to (compare e.key to) refl n in
    ap (λ (b : Bool). cond b ((e.key, e.word) ∷ between from to es) (between from to es))
    (not_lesser (compare e.key from) (compare e.key to) f) ∙ between_high from to lo es u o.1

-- all before the first
pub between_low : (from to : List ℕ) (hi : Bound) (es : List Entry) → UpTo hi (Some from) → Under hi es
    → between from to es ≡ []
between_low from to hi [] u o = refl
between_low from to hi (e ∷ es) u o = between_skip from to e es (below_upto e.key hi (Some from) o.0 u)
    ∙ between_low from to hi es u o.1

pub no_less : (a b : List ℕ) → is_less (compare a b) ≡ false → compare b a ≡ Greater → ⊥
no_less a b f g = let l : compare a b ≡ Less = flip b a g in let t : is_less (compare a b) ≡ true = ap is_less l in
    absurd cc

-- ---- items

upto_self : (k : List ℕ) → UpTo (Some k) (Some k)
upto_self k = itself k

-- a first item from the second bound on
pub item_high : (d : ℕ) (from to : List ℕ) (lo : Bound) (x : Item d) (xs : List (Item d)) (hi : Bound)
    → Ways d lo (x ∷ xs) hi → is_less (compare (spell d x).key to) ≡ false → between from to (contents d (x ∷ xs)) ≡ []
item_high zero from to lo x xs hi (m, s, rest) f =
    between_high from to (Some x.key) (contents zero (x ∷ xs)) (no_less x.key to f)
    (ways_within zero (Some x.key) (x ∷ xs) hi (m, (upto_self x.key, s.1), rest)).over
item_high (suc d) from to lo x xs hi (m, s, rest) f =
    between_high from to lo (contents (suc d) (x ∷ xs))
    (subst (λ (b : Bound). UpTo (Some to) b) (sym s.0) (no_less x.key to f))
    (ways_within (suc d) lo (x ∷ xs) hi (m, s, rest)).over

-- a branch before the next one, which begins at the first bound or before it
pub branch_low : (d : ℕ) (from to : List ℕ) (lo : Bound) (x : Branch (Item d)) (xs : List (Branch (Item d)))
    (hi : Bound) → Ways (suc d) lo (x ∷ xs) hi → Begins from (map (spell (suc d)) xs)
    → between from to (contents (suc d) (x ∷ xs)) ≡ between from to (contents (suc d) xs)
branch_low d from to lo x [] hi w b = absurd b
branch_low d from to lo x (y ∷ ys) hi (m, s, rest) b =
    let u : UpTo m (Some from) = subst (λ (t : Bound). UpTo t (Some from)) (sym rest.1.0) b in
    let none : between from to (content (suc d) x) ≡ [] =
    between_low from to m (content (suc d) x) u (spans_within (suc d) lo x m s).under in
    between_join from to (content (suc d) x) (contents (suc d) (y ∷ ys))
    ∙ ap (λ (t : List Pair). t ++ between from to (contents (suc d) (y ∷ ys))) none

false-true : false ≡ true → ⊥
false-true e = cc

pub not_true : (b : Bool) → not b ≡ true → b ≡ false
not_true true n = absurd (false-true n)
not_true false n = refl

pub not_false : (b : Bool) → not b ≡ false → b ≡ true
not_false true n = refl
not_false false n = absurd (false-true (sym n))

pub less_of : (o : Ordering) → is_less o ≡ true → o ≡ Less
less_of Less e = refl
less_of Equal e = absurd (false-true e)
less_of Greater e = absurd (false-true e)

pub less_no : (o : Ordering) → is_less o ≡ false → o ≡ Less → ⊥
less_no o f e = let t : is_less o ≡ true = ap is_less e in false-true (sym f ∙ t)
