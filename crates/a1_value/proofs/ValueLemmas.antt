-- What is read as a value is spelled so, and what is spelled so is read.
use Rattle.std.proofs.Common.{◌≡◌, ℕ, zero, suc, ◌<◌, ◌≤◌, ◌^◌, Bool, true, false, cond, List, [], ◌∷◌, ◌++◌, length, Option, Some, None, Result, Ok, Err, refl, sym, ap, ◌∙◌, arith, nat_lt, nat_eq}
use Rattle.std.proofs.Math.Bool.{not}
use Rattle.std.specs.Prelude.{option_map, option_and_then, ok_or, IfOk}
use Rattle.std.specs.Result.{result_ok}
use Rattle.std.specs.Int.{w32, w64, to_be_bytes, cast_signed, cast_unsigned}
use Rattle.std.specs.Str.{is_utf8}
use Rattle.std.proofs.lemmas.Int.{to_z-of_z, of_z-to_z}
use Rattle.std.proofs.Math.Facts.{sfits_to_z, Fits-of_z, Fits-of_lt, Fits-lt-pow}
use Rattle.std.proofs.lemmas.Option.{none-some}
use Rattle.std.proofs.lemmas.Bool.{ltb-false, le-ltb, ne_eqb}
use Rattle.a1_base.specs.declared.limits.TheConstants.{TEXT_LIMIT}
use Rattle.a1_base.specs.Fronts.{IsBytes, Front, part, number, made, tested, sized, whole, Exact}
use Rattle.a1_base.proofs.Exact.{number32_exact, number64_exact, tested_exact, sized_exact, whole_exact, bytes_behind}
use Rattle.a1_value.specs.declared.fault.ValueFault.{ValueFault}
use Rattle.a1_value.specs.declared.fault.ValueFault.TheVariants as fault
use Rattle.a1_value.specs.declared.value.Value.{Value}
use Rattle.a1_value.specs.declared.value.Value.TheVariants.{Int, Text, Bytes}
use Rattle.a1_value.specs.Encoding.{IsStored, value_bytes, passing, content, value_of_kind, value_front, decoded, Decodes}
use Rattle.a1_value.proofs.OfKind.{kind_takes}

-- ---- readings that name their fault, seen without it

passing_ok : {A B : Type 0} (r : Result A ValueFault) (next : A → Result B ValueFault) → result_ok (passing r next) ≡ option_and_then (λ a. result_ok (next a)) (result_ok r)
passing_ok (Ok a) next = refl
passing_ok (Err f) next = refl

ok_or_ok : {A : Type 0} (o : Option A) (f : ValueFault) → result_ok (ok_or o f) ≡ o
ok_or_ok (Some a) f = refl
ok_or_ok None f = refl

cond_ok : {A : Type 0} (b : Bool) (r : Result A ValueFault) (f : ValueFault) → result_ok (cond b r (Err f)) ≡ cond b (result_ok r) None
cond_ok true r f = refl
cond_ok false r f = refl

ok_from : {A : Type 0} (r : Result A ValueFault) (a : A) → result_ok r ≡ Some a → r ≡ Ok a
ok_from (Ok b) a e = cc
ok_from (Err f) a e = absurd cc

-- ---- a length of at most 4,096 and that many bytes

abbrev short : ℕ → Bool
short n = not (nat_lt TEXT_LIMIT n)

short_is : (n : ℕ) → short n ≡ true → n ≤ TEXT_LIMIT
short_is n e = ltb-false TEXT_LIMIT n (by (nat_lt TEXT_LIMIT n) e) where
  by : (b : Bool) → not b ≡ true → b ≡ false
  by true e = sym e
  by false e = refl

abbrev block : Front (List ℕ)
block = sized (tested short (number w32))

abbrev block_bytes : List ℕ → List ℕ
block_bytes b = to_be_bytes w32 (length b) ++ b

abbrev IsBlock : List ℕ → Type 0
IsBlock b = (length b < 2 ^ 32) × (short (length b) ≡ true)

block_exact : Exact block block_bytes IsBlock
block_exact = sized_exact (tested short (number w32)) (to_be_bytes w32) (λ n. (n < 2 ^ 32) × (short n ≡ true)) (tested_exact (number w32) (to_be_bytes w32) (λ n. n < 2 ^ 32) number32_exact short)

is_block : (b : List ℕ) → length b ≤ TEXT_LIMIT → IsBlock b
is_block b h = (omega arith, ap not (le-ltb TEXT_LIMIT (length b) h))

content_ok : (bytes : List ℕ) → result_ok (content bytes) ≡ block bytes
unfolding content
content_ok bytes = by (number w32 bytes) where
  cut : (n : ℕ × List ℕ) (b : Bool) → result_ok (cond b (Err fault.Long) (ok_or (part n.0 n.1) fault.Short)) ≡ option_and_then (λ m. part m.0 m.1) (cond (not b) (Some n) None)
  cut n true = refl
  cut n false = ok_or_ok (part n.0 n.1) fault.Short

  by : (o : Option (ℕ × List ℕ)) → result_ok (passing (ok_or o fault.Short) (λ n. cond (nat_lt TEXT_LIMIT n.0) (Err fault.Long) (ok_or (part n.0 n.1) fault.Short)))
      ≡ option_and_then (λ m. part m.0 m.1) (option_and_then (λ a. cond (short a.0) (Some a) None) o)
  by None = refl
  by (Some n) = cut n (nat_lt TEXT_LIMIT n.0)

text_ok : (bytes : List ℕ) → result_ok (passing (content bytes) (λ t. cond (is_utf8 t.0) (Ok (Text t.0, t.1)) (Err fault.Utf8))) ≡ made Text (tested is_utf8 block) bytes
text_ok bytes = passing_ok (content bytes) (λ t. cond (is_utf8 t.0) (Ok (Text t.0, t.1)) (Err fault.Utf8)) ∙ (rw content_ok (by (block bytes))) where
  by : (o : Option (List ℕ × List ℕ)) → option_and_then {U = Value × List ℕ} (λ t. result_ok (cond (is_utf8 t.0) (Ok (Text t.0, t.1)) (Err fault.Utf8))) o ≡ option_map {U = Value × List ℕ} (λ a. (Text a.0, a.1)) (option_and_then (λ a. cond (is_utf8 a.0) (Some a) None) o)
  by None = refl
  by (Some t) = chosen (is_utf8 t.0) where
    chosen : (b : Bool) → result_ok {T = Value × List ℕ} (cond b (Ok (Text t.0, t.1)) (Err fault.Utf8)) ≡ option_map (λ (a : List ℕ × List ℕ). (Text a.0, a.1)) (cond b (Some t) None)
    chosen true = refl
    chosen false = refl

bytes_ok : (bytes : List ℕ) → result_ok (passing (content bytes) (λ b. Ok (Bytes b.0, b.1))) ≡ made Bytes block bytes
bytes_ok bytes = passing_ok (content bytes) (λ b. Ok (Bytes b.0, b.1)) ∙ rw content_ok (by (block bytes)) where
  by : (o : Option (List ℕ × List ℕ)) → option_and_then {U = Value × List ℕ} (λ b. Some (Bytes b.0, b.1)) o ≡ option_map {U = Value × List ℕ} (λ b. (Bytes b.0, b.1)) o
  by None = refl
  by (Some b) = refl

-- ---- values

number_is : (n : ℕ) → n < 2 ^ 64 → IsBytes (to_be_bytes w64 n) → IsStored (Int (cast_signed w64 n)) × (1 ∷ to_be_bytes w64 n ≡ value_bytes (Int (cast_signed w64 n)))
number_is n h fits = ((sfits_to_z (Fits-of_lt {w = w64} {n = n} h), omega arith), ap (λ k. 1 ∷ to_be_bytes w64 k) (sym (of_z-to_z w64 n h)))

text_is : (t : List ℕ) → IsBlock t × (is_utf8 t ≡ true) → IsBytes (block_bytes t) → IsStored (Text t) × (2 ∷ block_bytes t ≡ value_bytes (Text t))
text_is t h fits = ((h.1, short_is (length t) h.0.1), refl)

bytes_is : (b : List ℕ) → IsBlock b → IsBytes (block_bytes b) → IsStored (Bytes b) × (3 ∷ block_bytes b ≡ value_bytes (Bytes b))
bytes_is b h fits = ((bytes_behind (to_be_bytes w32 (length b)) b fits, short_is (length b) h.1), refl)

text_exact : Exact (tested is_utf8 block) block_bytes (λ t. IsBlock t × (is_utf8 t ≡ true))
text_exact = tested_exact block block_bytes IsBlock block_exact is_utf8

no_kind : (k : ℕ) (bytes : List ℕ) → 3 < k → value_of_kind k bytes ≡ Err (fault.Kind k)
unfolding value_of_kind
no_kind k bytes h = rw (ne_eqb k 1 (omega arith), ne_eqb k 2 (omega arith), ne_eqb k 3 (omega arith)) refl

value_takes : (bytes : List ℕ) (v : Value × List ℕ) → IsBytes bytes → result_ok (value_front bytes) ≡ Some v → IsStored v.0 × (bytes ≡ value_bytes v.0 ++ v.1)
unfolding value_front value_of_kind
value_takes [] v fits e = absurd (none-some v e)
value_takes (zero ∷ bytes) v fits e = absurd (none-some v e)
value_takes (suc zero ∷ bytes) v fits e =
    kind_takes (number w64) (to_be_bytes w64) (λ n. n < 2 ^ 64) number64_exact value_bytes IsStored 1 (λ n. Int (cast_signed w64 n)) number_is bytes v fits (sym (ok_or_ok (made (λ n. Int (cast_signed w64 n)) (number w64) bytes) fault.Short) ∙ e)
value_takes (suc (suc zero) ∷ bytes) v fits e =
    kind_takes (tested is_utf8 block) block_bytes (λ t. IsBlock t × (is_utf8 t ≡ true)) text_exact value_bytes IsStored 2 Text text_is bytes v fits (sym (text_ok bytes) ∙ e)
value_takes (suc (suc (suc zero)) ∷ bytes) v fits e =
    kind_takes block block_bytes IsBlock block_exact value_bytes IsStored 3 Bytes bytes_is bytes v fits (sym (bytes_ok bytes) ∙ e)
value_takes (suc (suc (suc (suc k))) ∷ bytes) v fits e = absurd (none-some v (sym (ap result_ok (no_kind (suc (suc (suc (suc k)))) bytes (omega arith))) ∙ e))

value_again : (v : Value) (rest : List ℕ) → IsStored v → result_ok (value_front (value_bytes v ++ rest)) ≡ Some (v, rest)
unfolding value_front value_of_kind
value_again (Int z) rest h =
    ok_or_ok (made (λ n. Int (cast_signed w64 n)) (number w64) (to_be_bytes w64 (cast_unsigned w64 z) ++ rest)) fault.Short
    ∙ (ap (option_map (λ (a : ℕ × List ℕ). (Int (cast_signed w64 a.0), a.1))) (number64_exact.again (cast_unsigned w64 z) rest (Fits-lt-pow {w = w64} {n = cast_unsigned w64 z} (Fits-of_z {w = w64} {z = z} h.0)))
    ∙ ap (λ n. Some (Int n, rest)) (to_z-of_z w64 z h.0))
value_again (Text t) rest h = text_ok (block_bytes t ++ rest) ∙ ap (option_map (λ (a : List ℕ × List ℕ). (Text a.0, a.1))) (text_exact.again t rest (is_block t h.1, h.0))
value_again (Bytes b) rest h = bytes_ok (block_bytes b ++ rest) ∙ ap (option_map (λ (a : List ℕ × List ℕ). (Bytes a.0, a.1))) (block_exact.again b rest (is_block b h.1))

pub value_exact : Exact (λ bytes. result_ok (value_front bytes)) value_bytes IsStored
value_exact = record { takes = value_takes; again = value_again }

-- ---- whole values

decoded_ok : (bytes : List ℕ) → result_ok (decoded bytes) ≡ whole (λ b. result_ok (value_front b)) bytes
unfolding decoded
decoded_ok bytes = passing_ok (value_front bytes) (λ v. cond (nat_eq (length v.1) 0) (Ok v.0) (Err fault.Spare)) ∙ by (result_ok (value_front bytes)) where
  by : (o : Option (Value × List ℕ)) → option_and_then (λ v. result_ok (cond (nat_eq (length v.1) 0) (Ok v.0) (Err fault.Spare))) o ≡ option_and_then (λ v. cond (nat_eq (length v.1) 0) (Some v.0) None) o
  by None = refl
  by (Some v) = cond_ok (nat_eq (length v.1) 0) (Ok v.0) fault.Spare

pub is_found : (bytes : List ℕ) (r : Result Value ValueFault) → IsBytes bytes → Decodes (λ v. v) r (decoded bytes) → IfOk r (λ v. IsStored v × (bytes ≡ value_bytes v))
is_found bytes (Ok v) fits e = (whole_exact (λ b. result_ok (value_front b)) value_bytes IsStored value_exact).takes bytes v fits (sym (decoded_ok bytes) ∙ ap result_ok e)
is_found bytes (Err f) fits e = tt

pub is_decoded : (v : Value) → IsStored v → decoded (value_bytes v) ≡ Ok v
is_decoded v h = ok_from (decoded (value_bytes v)) v (decoded_ok (value_bytes v) ∙ (whole_exact (λ b. result_ok (value_front b)) value_bytes IsStored value_exact).again v h)
