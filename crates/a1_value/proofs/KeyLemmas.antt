-- What is read as a key is spelled so, and what is spelled so is read.
use Rattle.std.proofs.Common.{◌≡◌, ℕ, zero, suc, ◌-◌, ◌+◌, ◌<◌, ◌≤◌, ◌^◌, ℤ, pos, negsuc, Bool, true, false, cond, List, [], ◌∷◌, ◌++◌, length, Option, Some, None, refl, sym, ap, subst, ◌∙◌, arith, nat_lt, nat_eq}
use Rattle.std.specs.Prelude.{option_map, option_and_then}
use Rattle.std.specs.Int.{w64, to_be_bytes}
use Rattle.std.specs.Int.RustNames.{FitsSigned}
use Rattle.std.specs.Str.{is_utf8}
use Rattle.std.proofs.lemmas.Int.{ints}
use Rattle.std.proofs.lemmas.Option.{none-some, same_Some, cond_some, option_and_then_some}
use Rattle.std.proofs.lemmas.Bool.{ltb-true, ltb-false, lt-ltb, le-ltb, eqb-true, ne_eqb}
use Rattle.a1_base.specs.declared.limits.TheConstants.{KEY_LIMIT}
use Rattle.a1_base.specs.Fronts.{IsBytes, Front, number, tested, Exact}
use Rattle.a1_base.proofs.Exact.{number64_exact, tested_exact, mapped_some}
use Rattle.a1_value.specs.declared.value.Value.{Value}
use Rattle.a1_value.specs.declared.value.Value.TheVariants.{Int, Text, Bytes}
use Rattle.a1_value.specs.Encoding.{IsKey, turned_over, turned_back, escaped, next_escaped, going_on, unescaped, key_bytes, key_of_kind, key_front}
use Rattle.a1_value.proofs.OfKind.{kind_takes}
use Rattle.a1_value.proofs.KeyOrder.{turned_low}

-- ---- escaped bytes

-- how a byte or the end stands
abbrev mark : Option ℕ → List ℕ
mark None = 0 ∷ 0 ∷ []
mark (Some b) = escaped (b ∷ [])

abbrev ended : List ℕ → List ℕ
ended b = escaped b ++ 0 ∷ 0 ∷ []

next_other : (b : ℕ) (rest : List ℕ) → next_escaped (suc b ∷ rest) ≡ Some (Some (suc b), rest)
next_other b rest = rw (ne_eqb (suc b) 0 (omega arith)) refl

next_second : (b : ℕ) (rest : List ℕ) → next_escaped (0 ∷ suc b ∷ rest) ≡ cond (nat_eq (suc b) 255) (Some (Some 0, rest)) None
next_second b rest = rw (ne_eqb (suc b) 0 (omega arith)) refl

next_takes : (bytes : List ℕ) (n : Option ℕ × List ℕ) → next_escaped bytes ≡ Some n → bytes ≡ mark n.0 ++ n.1
next_takes [] n e = absurd (none-some n e)
next_takes (zero ∷ []) n e = absurd (none-some n e)
next_takes (zero ∷ zero ∷ rest) n e = subst (λ (m : Option ℕ × List ℕ). 0 ∷ 0 ∷ rest ≡ mark m.0 ++ m.1) (same_Some (None, rest) n e) refl
next_takes (zero ∷ suc b ∷ rest) n e =
    let c = cond_some (nat_eq (suc b) 255) (Some 0, rest) n (sym (next_second b rest) ∙ e) in
    ap (λ k. 0 ∷ k ∷ rest) (eqb-true (suc b) 255 c.0) ∙ subst (λ (m : Option ℕ × List ℕ). 0 ∷ 255 ∷ rest ≡ mark m.0 ++ m.1) c.1 refl
next_takes (suc b ∷ rest) n e = subst (λ (m : Option ℕ × List ℕ). suc b ∷ rest ≡ mark m.0 ++ m.1) (same_Some (Some (suc b), rest) n (sym (next_other b rest) ∙ e)) refl

next_again : (n : Option ℕ) (rest : List ℕ) → next_escaped (mark n ++ rest) ≡ Some (n, rest)
next_again None rest = refl
next_again (Some zero) rest = refl
next_again (Some (suc b)) rest = next_other b rest

front_more : (b : ℕ) (content rest : List ℕ) → escaped (b ∷ []) ++ (ended content ++ rest) ≡ ended (b ∷ content) ++ rest
front_more zero content rest = refl
front_more (suc b) content rest = refl

going_takes : (more : Front (List ℕ)) (room : ℕ) → ((bytes : List ℕ) (y : List ℕ × List ℕ) → more bytes ≡ Some y → (length y.0 < room) × (bytes ≡ ended y.0 ++ y.1))
    → (bytes : List ℕ) (x : List ℕ × List ℕ) → option_and_then (λ n. going_on more n.0 n.1) (next_escaped bytes) ≡ Some x → (length x.0 ≤ room) × (bytes ≡ ended x.0 ++ x.1)
going_takes more room takes bytes x e = option_and_then_some (λ n. going_on more n.0 n.1) (next_escaped bytes) x e (λ n read rest. by n.0 n.1 (next_takes bytes n read) rest) where
  by : (o : Option ℕ) (after : List ℕ) → bytes ≡ mark o ++ after → going_on more o after ≡ Some x → (length x.0 ≤ room) × (bytes ≡ ended x.0 ++ x.1)
  by None after is rest = subst (λ (y : List ℕ × List ℕ). (length y.0 ≤ room) × (bytes ≡ ended y.0 ++ y.1)) (same_Some ([], after) x rest) (omega arith, is)
  by (Some b) after is rest = mapped_some (λ (p : List ℕ × List ℕ). (b ∷ p.0, p.1)) (more after) x rest (λ y read same.
      let two = takes after y read in
      subst (λ (z : List ℕ × List ℕ). (length z.0 ≤ room) × (bytes ≡ ended z.0 ++ z.1)) same (omega (arith, two.0), is ∙ (ap (λ z. escaped (b ∷ []) ++ z) two.1 ∙ front_more b y.0 y.1)))

unescaped_takes : (room : ℕ) (bytes : List ℕ) (x : List ℕ × List ℕ) → unescaped room bytes ≡ Some x → (length x.0 ≤ room) × (bytes ≡ ended x.0 ++ x.1)
unfolding unescaped
unescaped_takes zero bytes x e = going_takes (λ _. None) 0 (λ after y none. absurd (none-some y none)) bytes x e
unescaped_takes (suc room) bytes x e = going_takes (unescaped room) (suc room) (λ after y read. let h = unescaped_takes room after y read in (omega (arith, h.0), h.1)) bytes x e

unescaped_again : (room : ℕ) (content rest : List ℕ) → length content ≤ room → unescaped room (ended content ++ rest) ≡ Some (content, rest)
unfolding unescaped
unescaped_again zero [] rest h = refl
unescaped_again (suc room) [] rest h = refl
unescaped_again zero (b ∷ content) rest h = absurd (omega arith)
unescaped_again (suc room) (b ∷ content) rest h = ap (unescaped (suc room)) (sym (front_more b content rest)) ∙ rw (next_again (Some b) (ended content ++ rest), unescaped_again room content rest (omega arith)) refl

unescaped_exact : Exact (unescaped KEY_LIMIT) ended (λ b. length b ≤ KEY_LIMIT)
unescaped_exact = record { takes = λ bytes x fits e. unescaped_takes KEY_LIMIT bytes x e; again = unescaped_again KEY_LIMIT }

escaped_fits : (b rest : List ℕ) → IsBytes (escaped b ++ rest) → IsBytes b
escaped_fits [] rest fits i = omega arith
escaped_fits (zero ∷ b) rest fits zero = omega arith
escaped_fits (zero ∷ b) rest fits (suc i) = escaped_fits b rest (λ k. fits (suc (suc k))) i
escaped_fits (suc x ∷ b) rest fits zero = fits 0
escaped_fits (suc x ∷ b) rest fits (suc i) = escaped_fits b rest (λ k. fits (suc k)) i

-- ---- numbers

turned_is : (n : ℕ) → n < 2 ^ 64 → FitsSigned w64 (turned_back n) × (turned_over (turned_back n) ≡ n)
turned_is n h = by (nat_lt n 9223372036854775808) refl where
  by : (b : Bool) → nat_lt n 9223372036854775808 ≡ b → FitsSigned w64 (cond b (negsuc (9223372036854775807 - n)) (pos (n - 9223372036854775808))) × (turned_over (cond b (negsuc (9223372036854775807 - n)) (pos (n - 9223372036854775808))) ≡ n)
  by true e = let lt : n < 9223372036854775808 = ltb-true n 9223372036854775808 e in (omega (arith, ints), omega arith)
  by false e = let le : 9223372036854775808 ≤ n = ltb-false n 9223372036854775808 e in (omega (arith, ints), omega arith)

turned_again : (z : ℤ) → FitsSigned w64 z → turned_back (turned_over z) ≡ z
turned_again (pos n) h = rw (le-ltb (n + 9223372036854775808) 9223372036854775808 (omega arith)) (ap pos (omega arith))
turned_again (negsuc n) h =
    let low : n < 9223372036854775808 = omega (arith, ints) in
    rw (lt-ltb (9223372036854775807 - n) 9223372036854775808 (omega arith)) (ap negsuc (omega arith))

-- ---- keys

number_is : (n : ℕ) → n < 2 ^ 64 → IsBytes (to_be_bytes w64 n) → IsKey (Int (turned_back n)) × (1 ∷ to_be_bytes w64 n ≡ key_bytes (Int (turned_back n)))
number_is n h fits = let t = turned_is n h in ((t.0, omega arith), ap (λ k. 1 ∷ to_be_bytes w64 k) (sym t.1))

text_is : (t : List ℕ) → (length t ≤ KEY_LIMIT) × (is_utf8 t ≡ true) → IsBytes (ended t) → IsKey (Text t) × (2 ∷ ended t ≡ key_bytes (Text t))
text_is t h fits = ((h.1, h.0), refl)

bytes_is : (b : List ℕ) → length b ≤ KEY_LIMIT → IsBytes (ended b) → IsKey (Bytes b) × (3 ∷ ended b ≡ key_bytes (Bytes b))
bytes_is b h fits = ((escaped_fits b (0 ∷ 0 ∷ []) fits, h), refl)

text_exact : Exact (tested is_utf8 (unescaped KEY_LIMIT)) ended (λ t. (length t ≤ KEY_LIMIT) × (is_utf8 t ≡ true))
text_exact = tested_exact (unescaped KEY_LIMIT) ended (λ b. length b ≤ KEY_LIMIT) unescaped_exact is_utf8

no_kind : (k : ℕ) (bytes : List ℕ) → 3 < k → key_of_kind k bytes ≡ None
unfolding key_of_kind
no_kind k bytes h = rw (ne_eqb k 1 (omega arith), ne_eqb k 2 (omega arith), ne_eqb k 3 (omega arith)) refl

key_takes : (bytes : List ℕ) (v : Value × List ℕ) → IsBytes bytes → key_front bytes ≡ Some v → IsKey v.0 × (bytes ≡ key_bytes v.0 ++ v.1)
unfolding key_front key_of_kind
key_takes [] v fits e = absurd (none-some v e)
key_takes (zero ∷ bytes) v fits e = absurd (none-some v e)
key_takes (suc zero ∷ bytes) v fits e = kind_takes (number w64) (to_be_bytes w64) (λ n. n < 2 ^ 64) number64_exact key_bytes IsKey 1 (λ n. Int (turned_back n)) number_is bytes v fits e
key_takes (suc (suc zero) ∷ bytes) v fits e = kind_takes (tested is_utf8 (unescaped KEY_LIMIT)) ended (λ t. (length t ≤ KEY_LIMIT) × (is_utf8 t ≡ true)) text_exact key_bytes IsKey 2 Text text_is bytes v fits e
key_takes (suc (suc (suc zero)) ∷ bytes) v fits e = kind_takes (unescaped KEY_LIMIT) ended (λ b. length b ≤ KEY_LIMIT) unescaped_exact key_bytes IsKey 3 Bytes bytes_is bytes v fits e
key_takes (suc (suc (suc (suc k))) ∷ bytes) v fits e = absurd (none-some v (sym (no_kind (suc (suc (suc (suc k)))) bytes (omega arith)) ∙ e))

key_again : (v : Value) (rest : List ℕ) → IsKey v → key_front (key_bytes v ++ rest) ≡ Some (v, rest)
unfolding key_front key_of_kind
key_again (Int z) rest h =
    ap (option_map (λ (a : ℕ × List ℕ). (Int (turned_back a.0), a.1))) (number64_exact.again (turned_over z) rest (turned_low z h.0))
    ∙ ap (λ n. Some (Int n, rest)) (turned_again z h.0)
key_again (Text t) rest h = ap (option_map (λ (a : List ℕ × List ℕ). (Text a.0, a.1))) (text_exact.again t rest (h.1, h.0))
key_again (Bytes b) rest h = ap (option_map (λ (a : List ℕ × List ℕ). (Bytes a.0, a.1))) (unescaped_exact.again b rest h.1)

pub key_exact : Exact key_front key_bytes IsKey
key_exact = record { takes = key_takes; again = key_again }
