-- Keys are in byte order as their values are in theirs, whatever stands behind them.
use Rattle.std.proofs.Common.{◌≡◌, ℕ, zero, suc, ◌+◌, ◌*◌, ◌/◌, ◌%◌, ◌^◌, ◌<◌, ◌≤◌, ℤ, pos, negsuc, List, [], ◌∷◌, ◌++◌, sym, refl, ap, ◌∙◌, arith, append-nil, Ordering, Less, Equal, Greater, nat_cmp, int_cmp, pow-suc, mod-lt, mul-le-mul_right, suc-mul, ◌<ℤ◌}
use Rattle.std.proofs.Math.Arith.{mod-mul}
use Rattle.std.proofs.Math.Nat.{div-one, mod-eq_of_lt, mod-one, pow-succ'}
use Rattle.std.specs.Int.{w64, to_be_bytes, byte_at, bytes_high_first}
use Rattle.std.specs.Int.RustNames.{FitsSigned}
use Rattle.std.specs.Cmp.{nat_cmp_is, ranks, int_ranks}
use Rattle.std.specs.Ordering.{ordering_then, MatchOrdering}
use Rattle.std.proofs.lemmas.Int.{ints}
use Rattle.a1_value.specs.declared.value.Value.{Value}
use Rattle.a1_value.specs.declared.value.Value.TheVariants.{Int, Text, Bytes}
use Rattle.a1_value.specs.Order.{byte_order, value_order}
use Rattle.a1_value.specs.Encoding.{IsValue, turned_over, escaped, key_bytes, KeysInOrder}

then_assoc : (a b c : Ordering) → ordering_then (ordering_then a b) c ≡ ordering_then a (ordering_then b c)
then_assoc Less b c = refl
then_assoc Equal b c = refl
then_assoc Greater b c = refl

then_level : (a : Ordering) → ordering_then a Equal ≡ a
then_level Less = refl
then_level Equal = refl
then_level Greater = refl

-- ---- numbers

-- by the high digits, and then by the low ones
split : (B q q' r r' : ℕ) → r < B → r' < B → ordering_then (nat_cmp q q') (nat_cmp r r') ≡ nat_cmp (q * B + r) (q' * B + r')
split B q q' r r' low low' = nat_cmp_is (q * B + r) (q' * B + r') _ (by (nat_cmp q q') (ranks q q') (nat_cmp r r') (ranks r r')) where
  less : (p p' s s' : ℕ) → p < p' → s < B → p * B + s < p' * B + s'
  less p p' s s' lt rest =
      let a : suc p * B ≤ p' * B = mul-le-mul_right B lt in
      let b : suc p * B ≡ p * B + B = suc-mul p B in
      omega arith

  by : (a : Ordering) → MatchOrdering a (q < q') (q ≡ q') (q' < q) → (c : Ordering) → MatchOrdering c (r < r') (r ≡ r') (r' < r)
      → MatchOrdering (ordering_then a c) (q * B + r < q' * B + r') (q * B + r ≡ q' * B + r') (q' * B + r' < q * B + r)
  by Less p c s = less q q' r r' p low
  by Greater p c s = less q' q r' r p low'
  by Equal p Less s = let e = ap (λ z. z * B) p in omega (arith, e)
  by Equal p Equal s = let e = ap (λ z. z * B) p in omega (arith, e)
  by Equal p Greater s = let e = ap (λ z. z * B) p in omega (arith, e)

low_power : (k : ℕ) → 0 < 256 ^ k
low_power zero = omega arith
low_power (suc k) = let h : 0 < 256 ^ k = low_power k in let e = pow-suc 256 k in omega arith

byte_at_is : (k n : ℕ) → byte_at k n ≡ n / 256 ^ k % 256
byte_at_is zero n = ap (λ z. z % 256) (sym (div-one n))
byte_at_is (suc k) n = refl

-- a number's digits to the base 256, the highest first
digits : (k n : ℕ) → n % 256 ^ suc k ≡ byte_at k n * 256 ^ k + n % 256 ^ k
digits k n = ap (λ z. n % z) (pow-succ' 256 k) ∙ (mod-mul n {m = 256} (omega arith) (low_power k) ∙ ap (λ z. z * 256 ^ k + n % 256 ^ k) (sym (byte_at_is k n)))

be_code : (k n m : ℕ) (r s : List ℕ) → byte_order (bytes_high_first k n ++ r) (bytes_high_first k m ++ s) ≡ ordering_then (nat_cmp (n % 256 ^ k) (m % 256 ^ k)) (byte_order r s)
be_code zero n m r s = ap (λ o. ordering_then o (byte_order r s)) (sym (ap (λ z. nat_cmp z (m % 1)) (mod-one n) ∙ ap (nat_cmp 0) (mod-one m)))
be_code (suc k) n m r s =
    ap (λ o. ordering_then (nat_cmp (byte_at k n) (byte_at k m)) o) (be_code k n m r s)
    ∙ (sym (then_assoc (nat_cmp (byte_at k n) (byte_at k m)) (nat_cmp (n % 256 ^ k) (m % 256 ^ k)) (byte_order r s))
    ∙ ap (λ o. ordering_then o (byte_order r s)) (split (256 ^ k) (byte_at k n) (byte_at k m) (n % 256 ^ k) (m % 256 ^ k) (mod-lt n (low_power k)) (mod-lt m (low_power k))
    ∙ (ap (λ z. nat_cmp z (byte_at k m * 256 ^ k + m % 256 ^ k)) (sym (digits k n)) ∙ ap (λ z. nat_cmp (n % 256 ^ suc k) z) (sym (digits k m)))))

number_code : (n m : ℕ) (r s : List ℕ) → n < 2 ^ 64 → m < 2 ^ 64 → byte_order (to_be_bytes w64 n ++ r) (to_be_bytes w64 m ++ s) ≡ ordering_then (nat_cmp n m) (byte_order r s)
number_code n m r s a b = be_code 8 n m r s ∙ ap (λ o. ordering_then o (byte_order r s)) (ap (λ z. nat_cmp z (m % 2 ^ 64)) (mod-eq_of_lt a) ∙ ap (nat_cmp n) (mod-eq_of_lt b))

-- ---- values

low_first : (y : ℕ) (after : Ordering) → ordering_then (nat_cmp 0 (suc y)) after ≡ Less
low_first y after = ap (λ o. ordering_then o after) (sym (nat_cmp_is 0 (suc y) Less (omega arith)))

low_last : (x : ℕ) (after : Ordering) → ordering_then (nat_cmp (suc x) 0) after ≡ Greater
low_last x after = ap (λ o. ordering_then o after) (sym (nat_cmp_is (suc x) 0 Greater (omega arith)))

escaped_code : (a b r s : List ℕ) → byte_order ((escaped a ++ 0 ∷ 0 ∷ []) ++ r) ((escaped b ++ 0 ∷ 0 ∷ []) ++ s) ≡ ordering_then (byte_order a b) (byte_order r s)
escaped_code [] [] r s = refl
escaped_code [] (zero ∷ b) r s = refl
escaped_code [] (suc y ∷ b) r s = low_first y _
escaped_code (zero ∷ a) [] r s = refl
escaped_code (suc x ∷ a) [] r s = low_last x _
escaped_code (zero ∷ a) (zero ∷ b) r s = escaped_code a b r s
escaped_code (zero ∷ a) (suc y ∷ b) r s = low_first y _ ∙ sym (ap (λ o. ordering_then o (byte_order r s)) (low_first y (byte_order a b)))
escaped_code (suc x ∷ a) (zero ∷ b) r s = low_last x _ ∙ sym (ap (λ o. ordering_then o (byte_order r s)) (low_last x (byte_order a b)))
escaped_code (suc x ∷ a) (suc y ∷ b) r s =
    ap (λ o. ordering_then (nat_cmp (suc x) (suc y)) o) (escaped_code a b r s) ∙ sym (then_assoc (nat_cmp (suc x) (suc y)) (byte_order a b) (byte_order r s))

turned_less : (a b : ℤ) → FitsSigned w64 a → FitsSigned w64 b → (o : Ordering) → MatchOrdering o (a <ℤ b) (a ≡ b) (b <ℤ a) → MatchOrdering o (turned_over a < turned_over b) (turned_over a ≡ turned_over b) (turned_over b < turned_over a)
turned_less (pos n) (pos m) p q Less h = omega (arith, ints)
turned_less (pos n) (pos m) p q Equal h = ap turned_over h
turned_less (pos n) (pos m) p q Greater h = omega (arith, ints)
turned_less (pos n) (negsuc m) p q Less h = absurd (omega (arith, ints))
turned_less (pos n) (negsuc m) p q Equal h = ap turned_over h
turned_less (pos n) (negsuc m) p q Greater h = omega arith
turned_less (negsuc n) (pos m) p q Less h = omega arith
turned_less (negsuc n) (pos m) p q Equal h = ap turned_over h
turned_less (negsuc n) (pos m) p q Greater h = absurd (omega (arith, ints))
turned_less (negsuc n) (negsuc m) p q Less h = let k : m < n = omega (arith, ints) in let l : n < 9223372036854775808 = omega (arith, ints) in omega arith
turned_less (negsuc n) (negsuc m) p q Equal h = ap turned_over h
turned_less (negsuc n) (negsuc m) p q Greater h = let k : n < m = omega (arith, ints) in let l : m < 9223372036854775808 = omega (arith, ints) in omega arith

pub turned_low : (a : ℤ) → FitsSigned w64 a → turned_over a < 2 ^ 64
turned_low (pos n) p = omega (arith, ints)
turned_low (negsuc n) p = omega arith

pub value_code : (a b : Value) (r s : List ℕ) → IsValue a → IsValue b → byte_order (key_bytes a ++ r) (key_bytes b ++ s) ≡ ordering_then (value_order a b) (byte_order r s)
value_code (Int a) (Int b) r s p q = number_code (turned_over a) (turned_over b) r s (turned_low a p) (turned_low b q)
    ∙ ap (λ o. ordering_then o (byte_order r s)) (sym (nat_cmp_is (turned_over a) (turned_over b) (int_cmp a b) (turned_less a b p q (int_cmp a b) (int_ranks a b))))
value_code (Int a) (Text b) r s p q = refl
value_code (Int a) (Bytes b) r s p q = refl
value_code (Text a) (Int b) r s p q = refl
value_code (Text a) (Text b) r s p q = escaped_code a b r s
value_code (Text a) (Bytes b) r s p q = refl
value_code (Bytes a) (Int b) r s p q = refl
value_code (Bytes a) (Text b) r s p q = refl
value_code (Bytes a) (Bytes b) r s p q = escaped_code a b r s

pub in_order : KeysInOrder
in_order a b p q =
    sym (ap (λ z. byte_order z (key_bytes b ++ [])) (append-nil (key_bytes a)) ∙ ap (λ z. byte_order (key_bytes a) z) (append-nil (key_bytes b)))
    ∙ (value_code a b [] [] p q ∙ then_level (value_order a b))
