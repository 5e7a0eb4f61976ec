-- Bytes in lower-case hexadecimal.
use Rattle.std.proofs.Common.{◌≡◌, ℕ, zero, suc, ◌+◌, ◌*◌, ◌/◌, ◌%◌, ◌<◌, ◌≤◌, List, [], ◌∷◌, length, Option, Some, None, Result, Ok, Err, Bool, true, false, refl, sym, ap, ◌∙◌, arith}
use Rattle.std.specs.Prelude.{◌||◌, slice_index}
use Rattle.std.specs.List.{list_any}
use Rattle.std.specs.Char.{is_ascii_uppercase}
use Rattle.std.specs.Result.{result_unwrap_or}
use Rattle.std.proofs.lemmas.Bool.{false≢true, or_from, or_parts}
use Rattle.std.proofs.lemmas.Bool.Decides.{nat_tests}
use Rattle.hex.specs.Hex.{lower_digits, encode_lower, encode_with, decode_of, decode_pairs, pair_value, value_at, digit_or_error, hex_digit_value, ◌>>=◌}
use Rattle.hex.specs.declared.error.FromHexError.{FromHexError}
use Rattle.hex.proofs.HexLemmas.{length-encode_with, IsDigits-lower_digits, decode_of-encode_lower, decode_of-even, decode_of-ok}
use Rattle.steps_text.specs.Reading.{Refuses, IsContent}

-- ---- letters

-- a test that fails of all items of a list, and of what stands past its end
fails_at : (p : ℕ → Bool) (t : List ℕ) (v : ℕ) → list_any p t ≡ false → p 0 ≡ false → p (slice_index t v) ≡ false
fails_at p [] v h k = k
fails_at p (x ∷ t) zero h k = (or_parts (p x) (list_any p t) h).0
fails_at p (x ∷ t) (suc v) h k = fails_at p t v (or_parts (p x) (list_any p t) h).1 k

lower_digit : (v : ℕ) → is_ascii_uppercase (slice_index lower_digits v) ≡ false
lower_digit v = fails_at is_ascii_uppercase lower_digits v refl refl

encoding_lower : (bytes : List ℕ) → list_any is_ascii_uppercase (encode_lower bytes) ≡ false
unfolding encode_with
encoding_lower [] = refl
encoding_lower (b ∷ bytes) = or_from _ _ (lower_digit (b / 16)) (or_from _ _ (lower_digit (b % 16)) (encoding_lower bytes))

-- ---- digits

same_digit : (c d v : ℕ) → hex_digit_value c ≡ Some v → hex_digit_value d ≡ Some v → is_ascii_uppercase c ≡ false → is_ascii_uppercase d ≡ false → c ≡ d
same_digit c d v h k lower_c lower_d = grind (arith, nat_tests)

small_digit : (c v : ℕ) → hex_digit_value c ≡ Some v → v < 16
small_digit c v h = grind (arith)

digit_back : (c v : ℕ) → hex_digit_value c ≡ Some v → is_ascii_uppercase c ≡ false → slice_index lower_digits v ≡ c
digit_back c v h lower = same_digit (slice_index lower_digits v) c v (IsDigits-lower_digits v (small_digit c v h)) h (lower_digit v) lower

digit_read : (c i v : ℕ) (o : Option ℕ) → digit_or_error c i o ≡ Ok v → o ≡ Some v
digit_read c i v (Some w) h = ap Some (ap (λ (r : Result ℕ FromHexError). result_unwrap_or r 0) h)
digit_read c i v None h = cc h

bind_ok : {A B : Type 0} (r : Result A FromHexError) (f : A → Result B FromHexError) (y : B) → (r >>= f) ≡ Ok y → (x : A) × (r ≡ Ok x) × (f x ≡ Ok y)
bind_ok (Ok x) f y h = (x, refl, h)
bind_ok (Err e) f y h = cc h

-- ---- what decodes without an upper-case letter is the text of its bytes

encode_back : (i : ℕ) (word bytes : List ℕ) → decode_pairs i word ≡ Ok bytes → list_any is_ascii_uppercase word ≡ false → encode_lower bytes ≡ word
unfolding decode_pairs encode_with
encode_back i [] bytes h lower =
    let e : [] ≡ bytes = ap (λ (r : Result (List ℕ) FromHexError). result_unwrap_or r []) h in
    rw (← e) refl
encode_back i (a ∷ []) bytes h lower = cc h
encode_back i (a ∷ b ∷ rest) bytes h lower =
    let byte = bind_ok (pair_value a b i) _ bytes h in
    let high = bind_ok (value_at a i) _ byte.0 byte.1 in
    let low = bind_ok (value_at b (i + 1)) _ byte.0 high.2 in
    let more = bind_ok (decode_pairs (i + 2) rest) _ bytes byte.2 in
    let whole : byte.0 ∷ more.0 ≡ bytes = ap (λ (r : Result (List ℕ) FromHexError). result_unwrap_or r []) more.2 in
    let sum : high.0 * 16 + low.0 ≡ byte.0 = ap (λ (r : Result ℕ FromHexError). result_unwrap_or r 0) low.2 in
    let high_read = digit_read a i high.0 (hex_digit_value a) high.1 in
    let low_read = digit_read b (i + 1) low.0 (hex_digit_value b) low.1 in
    let behind = (or_parts (is_ascii_uppercase a) (is_ascii_uppercase b || list_any is_ascii_uppercase rest) lower).1 in
    let high_small = small_digit a high.0 high_read in
    let low_small = small_digit b low.0 low_read in
    let upper_half : byte.0 / 16 ≡ high.0 = omega arith in
    let lower_half : byte.0 % 16 ≡ low.0 = omega arith in
    let front : slice_index lower_digits (byte.0 / 16) ≡ a = ap (slice_index lower_digits) upper_half ∙ digit_back a high.0 high_read (or_parts (is_ascii_uppercase a) (is_ascii_uppercase b || list_any is_ascii_uppercase rest) lower).0 in
    let back : slice_index lower_digits (byte.0 % 16) ≡ b = ap (slice_index lower_digits) lower_half ∙ digit_back b low.0 low_read (or_parts (is_ascii_uppercase b) (list_any is_ascii_uppercase rest) behind).0 in
    let tail : encode_lower more.0 ≡ rest = encode_back (i + 2) rest more.0 more.1 (or_parts (is_ascii_uppercase b) (list_any is_ascii_uppercase rest) behind).1 in
    ap encode_lower (sym whole) ∙ cc

-- ---- an object

pub content_read : (word bytes : List ℕ) → decode_of word ≡ Ok bytes → list_any is_ascii_uppercase word ≡ false → 0 < length word → length word ≤ 131072 → (encode_lower bytes ≡ word) × IsContent bytes
content_read word bytes h lower some few =
    let ok = decode_of-ok word bytes h in
    (encode_back 0 word bytes (sym (decode_of-even word ok.0) ∙ h) lower, ((omega (arith, ok.2), omega (arith, ok.2)), ok.3))

pub content_upper : (word : List ℕ) → list_any is_ascii_uppercase word ≡ true → Refuses encode_lower IsContent word
content_upper word h = record { none = λ bytes v e. false≢true (sym (encoding_lower bytes) ∙ ap (list_any is_ascii_uppercase) e ∙ h) }

pub content_empty : (word : List ℕ) → length word ≡ 0 → Refuses encode_lower IsContent word
content_empty word h = record { none = λ bytes v e. let len = ap length (sym e) ∙ length-encode_with lower_digits bytes in omega arith }

pub content_long : (word : List ℕ) → 131072 < length word → Refuses encode_lower IsContent word
content_long word h = record { none = λ bytes v e. let len = ap length (sym e) ∙ length-encode_with lower_digits bytes in omega arith }

pub content_bad : (word : List ℕ) (e : FromHexError) → decode_of word ≡ Err e → Refuses encode_lower IsContent word
content_bad word e h = record { none = λ bytes v same. let good : decode_of word ≡ Ok bytes = ap decode_of (sym same) ∙ decode_of-encode_lower bytes v.1 in cc }
