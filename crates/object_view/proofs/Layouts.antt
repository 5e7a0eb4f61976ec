-- What was spelled is read again.
use Rattle.std.proofs.Common.{◌≡◌, ℕ, ◌+◌, ◌^◌, ◌<◌, ◌≤◌, Bool, false, cond, ltb, eq-eqb, List, [], ◌∷◌, ◌++◌, length, take, drop, Option, Some, None, refl, sym, ap, ◌∙◌, append_assoc, arith}
use Rattle.std.specs.Int.{w16, w64, from_be_bytes, to_be_bytes}
use Rattle.std.specs.List.{AllByRecursion}
use Rattle.std.proofs.lemmas.Bool.{le-ltb}
use Rattle.std.proofs.lemmas.List.{take_at, drop_at, length-append}
use Rattle.std.proofs.lemmas.Nat.{from_be_bytes-to_be_bytes_2, from_be_bytes-to_be_bytes_8}
use Rattle.object_view.specs.Layout.{Entry, IsEntry, entry, entries, entry_at, key_at, owner_at, head_at, object_bytes}

key_again : (k : List ℕ) (w : ℕ) (rest : List ℕ) → w < 2 ^ 64
    → key_at (length k) (k ++ (to_be_bytes w64 w ++ rest)) ≡ Some (record { key = k; word = w }, rest)
unfolding key_at
key_again k w rest lt =
    let word : List ℕ = to_be_bytes w64 w in
    let len : length word ≡ 8 = refl in
    let long : ltb (length (k ++ (word ++ rest))) (length k + 8) ≡ false = le-ltb _ _ (omega (
      arith,
      length-append k
          (word ++ rest),
      length-append word rest,
      len,
    )) in
    let front : take (length k) (k ++ (word ++ rest)) ≡ k = take_at k (word ++ rest) (length k) refl in
    let back : drop (length k) (k ++ (word ++ rest)) ≡ word ++ rest = drop_at k (word ++ rest) (length k) refl in
    let number : from_be_bytes w64 (take 8 (word ++ rest)) ≡ w = ap (λ (b : List ℕ). from_be_bytes w64 b)
    (take_at word rest 8 refl) ∙ from_be_bytes-to_be_bytes_8 w lt in
    rw (long, front, back) (ap (λ (n : ℕ). Some (record { key = k; word = n }, rest)) number)

head_again : (n : ℕ) (body : List ℕ) → n < 2 ^ 16 → entry_at (to_be_bytes w16 n ++ body) ≡ key_at n body
unfolding entry_at
head_again n body lt =
    let len : length (to_be_bytes w16 n) ≡ 2 = refl in
    let long : ltb (length (to_be_bytes w16 n ++ body)) 2 ≡ false = le-ltb _ _ (omega (
      arith,
      length-append
          (to_be_bytes w16 n) body,
      len,
    )) in
    ap (λ (b : Bool). cond b None (key_at (from_be_bytes w16 (to_be_bytes w16 n)) body)) long ∙
    ap (λ (m : ℕ). key_at m body) (from_be_bytes-to_be_bytes_2 n lt)

short : (e : Entry) → IsEntry e → length e.key < 2 ^ 16
short e fits = let f : length e.key ≤ 1100 = fits.key in omega (arith, f)

pub entry_again : (e : Entry) (rest : List ℕ) → IsEntry e → entry_at (entry e ++ rest) ≡ Some (e, rest)
entry_again e rest fits =
    let regrouped : (e.key ++ to_be_bytes w64 e.word) ++ rest ≡ e.key ++
    (to_be_bytes w64 e.word ++ rest) = append_assoc e.key (to_be_bytes w64 e.word) rest in
    ap (λ (b : List ℕ). entry_at (to_be_bytes w16 (length e.key) ++ b)) regrouped ∙
    head_again (length e.key) (e.key ++ (to_be_bytes w64 e.word ++ rest)) (short e fits) ∙
    key_again e.key e.word rest fits.word

pub entry_long : (e : Entry) (rest : List ℕ) → 0 < length (entry e ++ rest)
entry_long e rest = omega (
  arith,
  length-append (to_be_bytes w16 (length e.key))
      ((e.key ++ to_be_bytes w64 e.word) ++ rest),
)

-- bytes that are left begin with an entry
pub none_left : (bytes : List ℕ) (es : List Entry) → AllByRecursion IsEntry es → bytes ≡ entries es
    → 0 < length bytes → entry_at bytes ≡ None → ⊥
none_left bytes [] fits h long none = let z : length bytes ≡ 0 = ap length h in omega arith
none_left bytes (e ∷ es) fits h long none = let one : entry_at bytes ≡ Some (e, entries es) = ap entry_at h ∙
    entry_again e (entries es) fits.0 in cc

pub some_is : {A : Type 0} (x y : A) → ◌≡◌ {A = Option A} (Some x) (Some y) → x ≡ y
some_is x y h = cc

pub record Left (es : List Entry) (e : Entry) (after : List ℕ) : Type 0 where
  pub more : List Entry
  pub are : es ≡ e ∷ more
  pub fit : AllByRecursion IsEntry more
  pub spelled : after ≡ entries more

pub some_left : (bytes : List ℕ) (es : List Entry) (e : Entry) (after : List ℕ) → AllByRecursion IsEntry es
    → bytes ≡ entries es → 0 < length bytes → entry_at bytes ≡ Some (e, after) → Left es e after
some_left bytes [] e after fits h long some = let z : length bytes ≡ 0 = ap length h in absurd (omega arith)
some_left bytes (f ∷ es) e after fits h long some =
    let one : entry_at bytes ≡ Some (f, entries es) = ap entry_at h ∙ entry_again f (entries es) fits.0 in
    let pair : ◌≡◌ {A = Entry × List ℕ} (f, entries es) (e, after) = some_is _ _ (sym one ∙ some) in
    record {
      more = es;
      are = ap (λ (p : Entry × List ℕ). p.0 ∷ es) pair;
      fit = fits.1;
      spelled = sym (ap (λ
          (p : Entry × List ℕ). p.1) pair);
    }

pub none_more : (bytes : List ℕ) (es : List Entry) → bytes ≡ entries es → length bytes ≤ 0 → es ≡ []
none_more bytes [] h short = refl
none_more bytes (e ∷ es) h short = let z : length bytes ≡ length (entry e ++ entries es) = ap length h in absurd
    (omega (arith, entry_long e (entries es)))

pub owner_again : (w : ℕ) (rest : List ℕ) → w < 2 ^ 64 → owner_at (to_be_bytes w64 w ++ rest) ≡ Some (w, rest)
unfolding owner_at
owner_again w rest lt =
    let len : length (to_be_bytes w64 w) ≡ 8 = refl in
    let long : ltb (length (to_be_bytes w64 w ++ rest)) 8 ≡ false = le-ltb _ _ (omega (
      arith,
      length-append
          (to_be_bytes w64 w) rest,
      len,
    )) in
    ap (λ (b : Bool). cond b None (Some (from_be_bytes w64 (to_be_bytes w64 w), rest))) long ∙
    ap (λ (m : ℕ). Some (m, rest)) (from_be_bytes-to_be_bytes_8 w lt)

pub head_of_object : (kind w : ℕ) (rest bytes : List ℕ) → w < 2 ^ 64 → bytes ≡ object_bytes kind w rest
    → head_at kind bytes ≡ Some (w, rest)
head_of_object kind w rest bytes lt h = ap (head_at kind) h ∙
    ap (λ (b : Bool). cond b (owner_at (to_be_bytes w64 w ++ rest)) None) (eq-eqb kind kind refl) ∙
    owner_again w rest lt

pub owner_is : (bytes : List ℕ) (w : ℕ) (rest : List ℕ) → w < 2 ^ 64 → bytes ≡ to_be_bytes w64 w ++ rest
    → owner_at bytes ≡ Some (w, rest)
owner_is bytes w rest lt h = ap owner_at h ∙ owner_again w rest lt
