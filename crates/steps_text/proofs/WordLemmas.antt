-- Texts that are cut at a mark, and numbers.
use Rattle.std.proofs.Common.{◌≡◌, ◌≢◌, ℕ, ◌*◌, ◌^◌, ◌<◌, ◌≤◌, List, [], ◌∷◌, ◌++◌, length, get_or, suc, Option, Some, None, Result, Ok, Err, refl, sym, ap, subst, ◌∙◌, arith, MatchOption, inl, inr}
use Rattle.std.specs.Prelude.{decimal}
use Rattle.std.specs.Result.{result_ok}
use Rattle.std.specs.Int.{IsInRange}
use Rattle.std.specs.Str.Parse.{AllDigits, digits_value, ParsesUnsigned}
use denote.Ref.{Bor}
use Rattle.std.proofs.lemmas.Str.Pattern.{IsSplitOnceResult, split_parts}
use Rattle.std.proofs.lemmas.Str.Parse.{IsNumeralModel, numerals_by_value, tells_digits, parse_plain, not_in_digits}
use Rattle.std.proofs.lemmas.Fmt.{decimal_is_IsNumeral, parse-decimal, decimal-digits_value, decimal_digit, first_decimal, decimal_injective}
use Rattle.std.proofs.lemmas.Bool.{cases_eq}
use Rattle.a1_base.specs.declared.limits.TheConstants.{ACTOR_LIMIT, REGION_LIMIT, REGION_WIDTH}
use Rattle.a1_base.specs.declared.place.Addr.{Addr}
use Rattle.a1_base.specs.declared.place.TxnId.{TxnId}
use Rattle.object_region.specs.Occupancy.{region_count, width}
use Rattle.steps_text.specs.EventText.{txn_text, addr_text, FitsAddr}
use Rattle.steps_text.specs.Reading.{Lacks, IsCut, Refuses, Parses, IsTxn, IsTextAddr}

-- ---- cuts

-- no place of it has the mark
lacks : (mark : ℕ) (xs : List ℕ) → ((i : ℕ) → i < length xs → get_or xs i 0 ≢ mark) → Lacks mark xs
lacks mark [] h = tt
lacks mark (x ∷ xs) h = (h 0 (omega arith), lacks mark xs (λ i lt. h (suc i) (omega arith)))

pub cut_gives : (mark : ℕ) (text : List ℕ) (r : Option (Bor (List ℕ) × Bor (List ℕ))) → IsSplitOnceResult mark text r → mark < 128 → MatchOption r (Lacks mark text) (λ x. IsCut mark text x.0.now x.1.now)
cut_gives mark text None h small = lacks mark text (split_parts mark text None h small)
cut_gives mark text (Some x) h small =
    let parts = split_parts mark text (Some x) h small in
    record { whole = parts.0; first = lacks mark x.0.now parts.1 }

pub lacks_append : (mark : ℕ) (xs ys : List ℕ) → Lacks mark xs → Lacks mark ys → Lacks mark (xs ++ ys)
lacks_append mark [] ys h k = k
lacks_append mark (x ∷ xs) ys h k = (h.0, lacks_append mark xs ys h.1 k)

pub has_mark : (mark : ℕ) (front back : List ℕ) → Lacks mark (front ++ mark ∷ back) → ⊥
has_mark mark [] back h = h.0 refl
has_mark mark (x ∷ front) back h = has_mark mark front back h.1

-- a text has one first mark
pub one_cut : (mark : ℕ) (a b c d : List ℕ) → Lacks mark a → Lacks mark c → a ++ mark ∷ b ≡ c ++ mark ∷ d → (a ≡ c) × (b ≡ d)
one_cut mark [] b [] d la lc e = (refl, cc)
one_cut mark [] b (y ∷ c) d la lc e = absurd (lc.0 (cc))
one_cut mark (x ∷ a) b [] d la lc e = absurd (la.0 (cc))
one_cut mark (x ∷ a) b (y ∷ c) d la lc e =
    let rest = one_cut mark a b c d la.1 lc.1 (cc) in
    (cc, rest.1)

pub refused_uncut : {A : Type 0} (mark : ℕ) (front back : A → List ℕ) (IsValue : A → Type 0) (text : List ℕ) → Lacks mark text → Refuses (λ x. front x ++ mark ∷ back x) IsValue text
refused_uncut mark front back IsValue text h = record { none = λ x v e. has_mark mark (front x) (back x) (rw e h) }

pub refused_front : {A B : Type 0} (mark : ℕ) (front : A → List ℕ) (part : B → A) (back : B → List ℕ) (IsPart : A → Type 0) (IsValue : B → Type 0) (text a b : List ℕ)
    → ((x : A) → IsPart x → Lacks mark (front x)) → ((y : B) → IsValue y → IsPart (part y)) → IsCut mark text a b → Refuses front IsPart a
    → Refuses (λ y. front (part y) ++ mark ∷ back y) IsValue text
refused_front mark front part back IsPart IsValue text a b clean is_part cut h = record {
  none = λ y v e. h.none (part y) (is_part y v) (one_cut mark (front (part y)) (back y) a b (clean (part y) (is_part y v)) cut.first (e ∙ cut.whole)).0;
}

pub refused_back : {A B : Type 0} (mark : ℕ) (front : B → List ℕ) (part : B → A) (back : A → List ℕ) (IsPart : A → Type 0) (IsValue : B → Type 0) (text a b : List ℕ)
    → ((y : B) → IsValue y → Lacks mark (front y)) → ((y : B) → IsValue y → IsPart (part y)) → IsCut mark text a b → Refuses back IsPart b
    → Refuses (λ y. front y ++ mark ∷ back (part y)) IsValue text
refused_back mark front part back IsPart IsValue text a b clean is_part cut h = record {
  none = λ y v e. h.none (part y) (is_part y v) (one_cut mark (front y) (back (part y)) a b (clean y v) cut.first (e ∙ cut.whole)).1;
}

-- ---- numbers

own : IsNumeralModel (AllDigits 10) (digits_value 10)
own = numerals_by_value (AllDigits 10) tells_digits

-- no mark stands in a number
pub decimal_lacks : (mark n : ℕ) → (IsInRange 48 57 mark → ⊥) → n < 2 ^ 64 → Lacks mark (decimal n)
decimal_lacks mark n other small = lacks mark (decimal n) (not_in_digits own (decimal n) mark (decimal_is_IsNumeral n small).0.1 other)

pub refused_sign : (word : List ℕ) → get_or word 0 0 ≡ 43 → Refuses decimal (λ n. n < 2 ^ 64) word
refused_sign word plus = record {
  none = λ n small e.
      let digits = (decimal_is_IsNumeral n small).0 in
      not_in_digits own (decimal n) 43 digits.1 (λ r. omega arith) 0 digits.0 (ap (λ xs. get_or xs 0 0) e ∙ plus);
}

-- zero is written with one digit
pub zero_read : decimal 0 ≡ 48 ∷ []
zero_read = decimal_digit 0 (omega arith)

pub refused_zero : (word : List ℕ) → get_or word 0 0 ≡ 48 → (word ≡ 48 ∷ [] → ⊥) → Refuses decimal (λ n. n < 2 ^ 64) word
refused_zero word zero_first other = record {
  none = λ n small e.
      elim (cases_eq n 0) [
        | inl z ↦ other (sym e ∙ ap decimal z ∙ zero_read)
        | inr more ↦
            let above = first_decimal n (omega arith) small in
            let first : get_or (decimal n) 0 0 ≡ 48 = ap (λ xs. get_or xs 0 0) e ∙ zero_first in
            omega arith
      ];
}

pub number_read : {E : Type 0} (word : List ℕ) (r : Result ℕ E) → ParsesUnsigned 64 10 word r → get_or word 0 0 ≢ 43 → get_or word 0 0 ≢ 48 → Parses decimal (λ n. n < 2 ^ 64) word (result_ok r)
number_read {E} word (Ok x) h plain leading =
    let p = parse_plain own {E = E} 64 word (Ok x) h plain in
    let value : x ≡ digits_value 10 word = p.1 in
    let text : decimal (digits_value 10 word) ≡ word = decimal-digits_value own word p.0.0 p.0.1 (λ z. absurd (leading z)) p.0.2 in
    (ap decimal value ∙ text, rw value p.0.2)
number_read {E} word (Err e) h plain leading = record { none = λ n small same. let bad : Err e ≡ Ok n = parse-decimal {E = E} 64 n word (Err e) small small (sym same) h in cc }

-- the text of another number
other_number : (IsValue : ℕ → Type 0) (n : ℕ) (word : List ℕ) → n < 2 ^ 64 → ((m : ℕ) → IsValue m → m < 2 ^ 64) → (IsValue n → ⊥) → decimal n ≡ word → Refuses decimal IsValue word
other_number IsValue n word small within other same = record {
  none = λ m v e. other (subst IsValue (decimal_injective m n (within m v) small (e ∙ sym same)) v);
}

pub above_limit : (limit n : ℕ) (word : List ℕ) → n < 2 ^ 64 → limit ≤ n → decimal n ≡ word → Refuses decimal (λ n. (n < limit) × (n < 2 ^ 32)) word
above_limit limit n word small above same = other_number (λ n. (n < limit) × (n < 2 ^ 32)) n word small (λ m v. omega arith) (λ v. omega arith) same

pub above_type : (limit n : ℕ) (word : List ℕ) → n < 2 ^ 64 → 2 ^ 32 ≤ n → decimal n ≡ word → Refuses decimal (λ n. (n < limit) × (n < 2 ^ 32)) word
above_type limit n word small above same = other_number (λ n. (n < limit) × (n < 2 ^ 32)) n word small (λ m v. omega arith) (λ v. omega arith) same

pub no_actor : (n : ℕ) (word : List ℕ) → n ≤ 0 → decimal n ≡ word → Refuses decimal (λ n. (0 < n) × (n ≤ ACTOR_LIMIT)) word
no_actor n word zero_number same = other_number (λ n. (0 < n) × (n ≤ ACTOR_LIMIT)) n word (omega arith) (λ m v. omega arith) (λ v. omega arith) same

-- ---- transactions

pub txn_uncut : (word : List ℕ) → Lacks 46 word → Refuses txn_text IsTxn word
txn_uncut word h = refused_uncut 46 (λ (t : TxnId). decimal t.actor) (λ t. decimal t.number) IsTxn word h

pub actor_clean : (n : ℕ) → (0 < n) × (n ≤ ACTOR_LIMIT) → Lacks 46 (decimal n)
actor_clean n h = decimal_lacks 46 n (λ r. omega arith) (omega arith)

pub txn_actor : (word a b : List ℕ) → IsCut 46 word a b → Refuses decimal (λ n. (0 < n) × (n ≤ ACTOR_LIMIT)) a → Refuses txn_text IsTxn word
txn_actor word a b cut h = refused_front 46 decimal (λ t. t.actor) (λ t. decimal t.number) (λ n. (0 < n) × (n ≤ ACTOR_LIMIT)) IsTxn word a b actor_clean (λ t v. v.0) cut h

pub txn_number : (word a b : List ℕ) → IsCut 46 word a b → Refuses decimal (λ n. n < 2 ^ 64) b → Refuses txn_text IsTxn word
txn_number word a b cut h = refused_back 46 (λ t. decimal t.actor) (λ t. t.number) decimal (λ n. n < 2 ^ 64) IsTxn word a b (λ t v. actor_clean t.actor v.0) (λ t v. v.1) cut h

-- ---- addresses

pub region_clean : (a : Addr) → FitsAddr a → Lacks 58 (decimal a.region)
region_clean a h = decimal_lacks 58 a.region (λ r. omega arith) (omega arith)

pub addr_uncut : (nodes : ℕ) (word : List ℕ) → Lacks 58 word → Refuses addr_text (IsTextAddr nodes) word
addr_uncut nodes word h = refused_uncut 58 (λ a. decimal a.region) (λ a. decimal a.offset) (IsTextAddr nodes) word h

pub addr_region : (nodes limit : ℕ) (word a b : List ℕ) → limit ≡ REGION_LIMIT * nodes → IsCut 58 word a b → Refuses decimal (λ n. (n < limit) × (n < 2 ^ 32)) a → Refuses addr_text (IsTextAddr nodes) word
unfolding region_count
addr_region nodes limit word a b e cut h =
    refused_front 58 decimal (λ p. p.region) (λ p. decimal p.offset) (λ n. (n < limit) × (n < 2 ^ 32)) (IsTextAddr nodes) word a b
    (λ n v. decimal_lacks 58 n (λ r. omega arith) (omega arith)) (λ p v. (omega arith, v.1)) cut h

pub addr_offset : (nodes : ℕ) (word a b : List ℕ) → IsCut 58 word a b → Refuses decimal (λ n. (n < REGION_WIDTH) × (n < 2 ^ 32)) b → Refuses addr_text (IsTextAddr nodes) word
unfolding width
addr_offset nodes word a b cut h =
    refused_back 58 (λ p. decimal p.region) (λ p. p.offset) decimal (λ n. (n < REGION_WIDTH) × (n < 2 ^ 32)) (IsTextAddr nodes) word a b
    (λ p v. region_clean p v.1) (λ p v. (v.0.1, let h : p.offset < REGION_WIDTH = v.0.1 in omega arith)) cut h

pub addr_read : (nodes limit region offset : ℕ) (word a b : List ℕ) → limit ≡ REGION_LIMIT * nodes → IsCut 58 word a b
    → (decimal region ≡ a) × ((region < limit) × (region < 2 ^ 32)) → (decimal offset ≡ b) × ((offset < REGION_WIDTH) × (offset < 2 ^ 32))
    → let at : Addr = record { region = region; offset = offset } in (addr_text at ≡ word) × IsTextAddr nodes at
unfolding region_count width
addr_read nodes limit region offset word a b e cut r o = (rw (r.0, o.0) (sym cut.whole), ((omega arith, o.1.0), r.1.1))

-- why a word is no transaction
pub ruleset no_txn = (txn_uncut, txn_actor, txn_number)

-- why a word is no address
pub ruleset no_addr = (addr_uncut, addr_region, addr_offset)
