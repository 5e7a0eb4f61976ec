-- Which half-edges stand behind one: among entries, and among a tree's pairs.
use Rattle.std.proofs.Common.{◌≡◌, ℕ, zero, suc, ◌%◌, ◌≤◌, ◌<◌, nat_lt, Bool, true, false, cond, List, [], ◌∷◌, ◌++◌, take, Some, None, Option, refl, sym, ap, subst, ◌∙◌, arith}
use Rattle.std.specs.Prelude.{map, ◌==◌}
use Rattle.std.specs.Int.{byte_at}
use Rattle.std.specs.Cmp.{nat_cmp_is}
use Rattle.std.specs.List.{AllByRecursion}
use Rattle.std.specs.Ordering.{nat_cmp, ordering_then}
use Rattle.std.specs.declared.cmp.Ordering.{Ordering}
use Rattle.std.specs.declared.cmp.Ordering.TheVariants.{Less, Equal, Greater}
use Rattle.std.proofs.lemmas.Bool.{ltb-false}
use Rattle.std.proofs.lemmas.Cmp.{nat_list_cmp_total, tied_itself}
use Rattle.std.proofs.lemmas.Map.Lookups.{exact_bytes}
use Rattle.std.proofs.lemmas.Nat.{mod_below}
use Rattle.a1_base.specs.declared.place.Addr.{Addr}
use Rattle.object_view.specs.Keys.{Bound, Below, compare, by_order, inserted}
use Rattle.object_view.specs.Layout.{Entry, word_of}
use Rattle.object_view.specs.Trees.{Ways}
use Rattle.object_btree.specs.Intervals.{is_less, between, Pair}
use Rattle.object_btree.proofs.Intervals.{between_skip, between_take, less_of, less_no}
use Rattle.object_btree.proofs.Orders.{itself, upto_below, below_upto, below_above, flip}
use Rattle.type_schema.specs.declared.objects.Half.{Half}
use Rattle.type_schema.specs.Objects.{half_key, half_entry}
use Rattle.type_schema.specs.Structures.{Rising, halves_behind}
use Rattle.half_edge_lists.specs.Changes.{from_half, least_key, last_key}
use Rattle.half_edge_lists.specs.Forms.{half_pair}

-- ---- among entries

abbrev behind : List ℕ → List Entry → List Entry
behind k [] = []
behind k (e ∷ es) = by_order (compare e.key k) (behind k es) es (e ∷ es)

behind_order : (o : Ordering) (x : Half) (xs ys : List Half) (ws : List Entry) → map half_entry ys ≡ ws
    → map half_entry (by_order o ys xs (x ∷ xs)) ≡ by_order o ws (map half_entry xs) (half_entry x ∷ map half_entry xs)
behind_order Less x xs ys ws e = e
behind_order Equal x xs ys ws e = refl
behind_order Greater x xs ys ws e = refl

halves_behind_are : (kind : ℕ) (far : Addr) (hs : List Half)
    → map half_entry (halves_behind kind far hs) ≡ behind (half_key kind far) (map half_entry hs)
halves_behind_are kind far [] = refl
halves_behind_are kind far (x ∷ xs) = behind_order (compare (half_key x.kind x.far) (half_key kind far)) x xs
    (halves_behind kind far xs) (behind (half_key kind far) (map half_entry xs)) (halves_behind_are kind far xs)

abbrev with : List ℕ → ℕ → Entry
with k v = record { key = k; word = v }

abbrev rest : List Entry → List Entry
rest [] = []
rest (e ∷ es) = es

abbrev first_or : Entry → List Entry → Entry
first_or d [] = d
first_or d (e ∷ es) = e

-- a place has one word
one_word : (k : List ℕ) (v w : ℕ) (xs ys : List Entry) → xs ++ with k v ∷ ys ≡ xs ++ with k w ∷ ys → v ≡ w
one_word k v w [] ys e = ap (λ (t : List Entry). (first_or (with k v) t).word) e
one_word k v w (x ∷ xs) ys e = one_word k v w xs ys (ap rest e)

two_words : (A : Type 0) (k : List ℕ) (es xs ys : List Entry) → ((v : ℕ) → es ≡ xs ++ with k v ∷ ys) → A
two_words A k es xs ys all = absurd (let z : 0 ≡ 1 = one_word k 0 1 xs ys (sym (all 0) ∙ all 1) in omega (arith, z))

not_less : (A : Type 0) (a k : List ℕ) → a ≡ k → compare a k ≡ Less → A
not_less A a k e l =
    let t : compare a k ≡ Equal = ap (λ (b : List ℕ). compare a b) (sym e) ∙ tied_itself nat_list_cmp_total a in
    absurd cc

high_order : (o : Ordering) (k : List ℕ) (e : Entry) (es low high : List Entry) → compare e.key k ≡ o
    → ((v : ℕ) → by_order o (e ∷ inserted k v es) (with k v ∷ es) (with k v ∷ e ∷ es) ≡ low ++ with k v ∷ high)
    → ((xs : List Entry) → ((v : ℕ) → inserted k v es ≡ xs ++ with k v ∷ high) → high ≡ behind k es)
    → high ≡ by_order o (behind k es) es (e ∷ es)
high_order Less k e es [] high o r on =
    not_less _ e.key k (ap (λ (t : List Entry). (first_or e t).key) (r 0)) o
high_order Less k e es (x ∷ xs) high o r on = on xs (λ v. ap rest (r v))
high_order Equal k e es [] high o r on = sym (ap rest (r 0))
high_order Equal k e es (x ∷ xs) high o r on = two_words _ k es xs high (λ v. ap rest (r v))
high_order Greater k e es [] high o r on = sym (ap rest (r 0))
high_order Greater k e es (x ∷ xs) high o r on = two_words _ k (e ∷ es) xs high (λ v. ap rest (r v))

high_is : (k : List ℕ) (es low high : List Entry) → ((v : ℕ) → inserted k v es ≡ low ++ with k v ∷ high)
    → high ≡ behind k es
high_is k [] [] high r = sym (ap rest (r 0))
high_is k [] (x ∷ xs) high r = two_words _ k [] xs high (λ v. ap rest (r v))
high_is k (e ∷ es) low high r =
    high_order (compare e.key k) k e es low high refl r (λ xs s. high_is k es xs high s)

-- what stands behind the place of a half-edge's key
pub placed_behind : (kind : ℕ) (far : Addr) (hs : List Half) (low high : List Entry)
    → ((v : ℕ) → inserted (half_key kind far) v (map half_entry hs) ≡ low ++ with (half_key kind far) v ∷ high)
    → high ≡ map half_entry (halves_behind kind far hs)
placed_behind kind far hs low high r =
    high_is (half_key kind far) (map half_entry hs) low high r ∙ sym (halves_behind_are kind far hs)

-- ---- among pairs

is_not : (p : Ordering) → (p ≡ Less → ⊥) → is_less p ≡ false
is_not Less n = absurd (n refl)
is_not Equal n = refl
is_not Greater n = refl

not_below_zero : (x : ℕ) (p : Ordering) → (p ≡ Less → ⊥) → is_less (ordering_then (nat_cmp x 0) p) ≡ false
not_below_zero zero p n = is_not p n
not_below_zero (suc x) p n =
    ap (λ (o : Ordering). is_less (ordering_then o p)) (sym (nat_cmp_is (suc x) 0 Greater (omega arith)))

nil_last : (xs : List ℕ) → compare xs [] ≡ Less → ⊥
nil_last [] e = cc
nil_last (x ∷ xs) e = cc

then_order : (o p q : Ordering) → is_less p ≡ by_order q true true false
    → is_less (ordering_then o p) ≡ by_order (ordering_then o q) true true false
then_order Less p q e = refl
then_order Equal p q e = e
then_order Greater p q e = refl

-- the least key behind another
next_key : (a k : List ℕ) → is_less (compare a (k ++ 0 ∷ [])) ≡ by_order (compare a k) true true false
next_key [] [] = refl
next_key [] (y ∷ ys) = refl
next_key (x ∷ xs) [] = not_below_zero x (compare xs []) (nil_last xs)
next_key (x ∷ xs) (y ∷ ys) = then_order (nat_cmp x y) (compare xs (ys ++ 0 ∷ [])) (compare xs ys) (next_key xs ys)

abbrev Under : List ℕ → List ℕ → Type 0
Under xs [] = ⊥
Under [] (y ∷ ys) = Unit {0}
Under (x ∷ xs) (y ∷ ys) = (x ≤ y) × Under xs ys

byte_order : (t : Bool) (x y : ℕ) (p : Ordering) → nat_lt x y ≡ t → x ≤ y → p ≡ Less
    → ordering_then (nat_cmp x y) p ≡ Less
byte_order true x y p e h l =
    ap (λ (b : Bool). ordering_then (cond b Less (cond (x == y) Equal Greater)) p) e
byte_order false x y p e h l =
    let n : y ≤ x = ltb-false x y e in
    ap (λ (o : Ordering). ordering_then o p) (sym (nat_cmp_is x y Equal (omega (arith, n, h)))) ∙ l

under_less : (xs ys : List ℕ) → Under xs ys → compare xs ys ≡ Less
under_less xs [] u = absurd u
under_less [] (y ∷ ys) u = refl
under_less (x ∷ xs) (y ∷ ys) u =
    byte_order (nat_lt x y) x y (compare xs ys) refl u.0 (under_less xs ys u.1)

low_byte : (i n : ℕ) → byte_at i n ≤ 255
low_byte zero n = let m : n % 256 < 256 = mod_below n 256 (omega arith) in omega (arith, m)
low_byte (suc i) n = let m : byte_at (suc i) n < 256 = mod_below _ 256 (omega arith) in omega (arith, m)

-- a half-edge's key is below the last
key_last : (kind : ℕ) (far : Addr) → compare (half_key kind far) last_key ≡ Less
key_last kind far =
    let w : ℕ = word_of far in
    under_less (half_key kind far) last_key (
      low_byte 3 kind,
      (
        low_byte 2 kind,
        (
          low_byte 1 kind,
          (
            low_byte 0 kind,
            (
              low_byte 7 w,
              (
                low_byte 6 w,
                (
                  low_byte 5 w,
                  (low_byte 4 w, (low_byte 3 w, (low_byte 2 w, (low_byte 1 w, (low_byte 0 w, tt))))),
                ),
              ),
            ),
          ),
        ),
      ),
    )

key_after : (k : List ℕ) (h : Half) (o : Ordering) → compare (half_key h.kind h.far) k ≡ o → (o ≡ Greater → ⊥)
    → compare (half_key h.kind h.far) (k ++ 0 ∷ []) ≡ Less
key_after k h Less e n = less_of _ (next_key (half_key h.kind h.far) k ∙ ap (λ (o : Ordering). by_order o true true false) e)
key_after k h Equal e n = less_of _ (next_key (half_key h.kind h.far) k ∙ ap (λ (o : Ordering). by_order o true true false) e)
key_after k h Greater e n = absurd (n refl)

key_from : (k : List ℕ) (h : Half) → compare (half_key h.kind h.far) k ≡ Greater
    → compare (half_key h.kind h.far) (k ++ 0 ∷ []) ≡ Less → ⊥
key_from k h e =
    less_no _ (next_key (half_key h.kind h.far) k ∙ ap (λ (o : Ordering). by_order o true true false) e)

-- all behind a key
all_pairs : (k : List ℕ) (lo hi : Bound) (hs : List Half) → Below k lo → Ways 0 lo (map half_entry hs) hi
    → between (k ++ 0 ∷ []) last_key (map half_entry hs) ≡ map half_pair hs
all_pairs k lo hi [] b w = refl
all_pairs k lo hi (x ∷ xs) b (m, s, w) =
    between_take (k ++ 0 ∷ []) last_key (half_entry x) (map half_entry xs)
    (key_from k x (below_above k lo (half_key x.kind x.far) b s.0)) (key_last x.kind x.far)
    ∙ ap (λ (t : List Pair). half_pair x ∷ t) (all_pairs k m hi xs
    (below_upto k lo m b (upto_below lo (half_key x.kind x.far) m s.0 s.1)) w)

pairs_order : (o : Ordering) (k : List ℕ) (x : Half) (xs ys : List Half) (m hi : Bound)
    → compare (half_key x.kind x.far) k ≡ o → Below (half_key x.kind x.far) m → Ways 0 m (map half_entry xs) hi
    → between (k ++ 0 ∷ []) last_key (map half_entry xs) ≡ map half_pair ys
    → between (k ++ 0 ∷ []) last_key (half_entry x ∷ map half_entry xs) ≡ map half_pair (by_order o ys xs (x ∷ xs))
pairs_order Less k x xs ys m hi o b w e =
    between_skip (k ++ 0 ∷ []) last_key (half_entry x) (map half_entry xs) (key_after k x Less o (λ z. cc)) ∙ e
pairs_order Equal k x xs ys m hi o b w e =
    between_skip (k ++ 0 ∷ []) last_key (half_entry x) (map half_entry xs) (key_after k x Equal o (λ z. cc))
    ∙ all_pairs k m hi xs
    (subst (λ (j : List ℕ). Below j m) (exact_bytes (half_key x.kind x.far) k o) b) w
pairs_order Greater k x xs ys m hi o b w e =
    all_pairs k (Some (half_key x.kind x.far)) hi (x ∷ xs) (flip (half_key x.kind x.far) k o)
    (m, (itself (half_key x.kind x.far), b), w)

behind_pairs : (kind : ℕ) (far : Addr) (lo hi : Bound) (hs : List Half) → Ways 0 lo (map half_entry hs) hi
    → between (half_key kind far ++ 0 ∷ []) last_key (map half_entry hs) ≡ map half_pair (halves_behind kind far hs)
behind_pairs kind far lo hi [] w = refl
behind_pairs kind far lo hi (x ∷ xs) (m, s, w) =
    pairs_order (compare (half_key x.kind x.far) (half_key kind far)) (half_key kind far) x xs
    (halves_behind kind far xs) m hi refl s.1 w (behind_pairs kind far m hi xs w)

whole_pairs : (hs : List Half) → between [] last_key (map half_entry hs) ≡ map half_pair hs
whole_pairs [] = refl
whole_pairs (x ∷ xs) =
    between_take [] last_key (half_entry x) (map half_entry xs) (nil_last (half_key x.kind x.far)) (key_last x.kind x.far)
    ∙ ap (λ (t : List Pair). half_pair x ∷ t) (whole_pairs xs)

-- a tree's pairs between the least key behind a half-edge and the last key are the half-edges behind it
pub from_pairs : (from : Option Half) (hs : List Half) → Rising (map half_entry hs)
    → between (least_key from) last_key (map half_entry hs) ≡ map half_pair (from_half from hs)
from_pairs None hs r = whole_pairs hs
from_pairs (Some h) hs r = behind_pairs h.kind h.far (Some []) None hs r

-- ---- the first of them

-- the first of what they are mapped to
pub take_map : {A B : Type 0} (f : A → B) (n : ℕ) (xs : List A) → take n (map f xs) ≡ map f (take n xs)
take_map f zero xs = refl
take_map f (suc n) [] = refl
take_map f (suc n) (x ∷ xs) = ap (λ t. f x ∷ t) (take_map f n xs)

-- what holds of all holds of the first
pub all_take : {A : Type 0} (P : A → Type 0) (n : ℕ) (xs : List A) → AllByRecursion P xs → AllByRecursion P (take n xs)
all_take P zero xs p = tt
all_take P (suc n) [] p = tt
all_take P (suc n) (x ∷ xs) p = (p.0, all_take P n xs p.1)

behind_all : (P : Half → Type 0) (o : Ordering) (x : Half) (xs ys : List Half) → AllByRecursion P (x ∷ xs)
    → AllByRecursion P ys → AllByRecursion P (by_order o ys xs (x ∷ xs))
behind_all P Less x xs ys p q = q
behind_all P Equal x xs ys p q = p.1
behind_all P Greater x xs ys p q = p

halves_all : (P : Half → Type 0) (kind : ℕ) (far : Addr) (hs : List Half) → AllByRecursion P hs
    → AllByRecursion P (halves_behind kind far hs)
halves_all P kind far [] p = p
halves_all P kind far (x ∷ xs) p = behind_all P (compare (half_key x.kind x.far) (half_key kind far)) x xs
    (halves_behind kind far xs) p (halves_all P kind far xs p.1)

-- what holds of all holds of those behind a half-edge
pub from_all : (P : Half → Type 0) (from : Option Half) (hs : List Half) → AllByRecursion P hs
    → AllByRecursion P (from_half from hs)
from_all P None hs p = p
from_all P (Some h) hs p = halves_all P h.kind h.far hs p
