-- Lines of a script.
use Rattle.std.proofs.Common.{◌≡◌, ◌<◌, ◌≤◌, ◌+◌, ◌-◌, ◌*◌, ℕ, List, [], ◌∷◌, ◌++◌, length, map, Bool, true, false, Some, None, Option, refl, sym, ap, ◌∙◌, append_assoc, append-nil, arith, if◌then◌else◌}
use Rattle.std.specs.Prelude.{◌==◌, ◌&&◌, nat_lt, option_and_then}
use Rattle.std.proofs.lemmas.Bool.Decides.{nat_tests}
use Rattle.run_text.specs.Script.{onto, lines_in, is_digit, number_on, numbered, of_session, requests_of, with_requests, sessions_of}
use Rattle.run_text.specs.Reading.{in_first}

pub onto_onto : (front : List ℕ) (b : ℕ) (lines : List (List ℕ)) → onto front (onto (b ∷ []) lines) ≡ onto (front ++ b ∷ []) lines
onto_onto front b [] = refl
onto_onto front b (line ∷ lines) = ap (λ xs. xs ∷ lines) (sym (append_assoc front (b ∷ []) line))

nothing_onto : (b : ℕ) (lines : List (List ℕ)) → onto (b ∷ []) lines ≡ onto [] (onto (b ∷ []) lines)
nothing_onto b [] = refl
nothing_onto b (line ∷ lines) = refl

-- a text with a byte has a first line
pub lines_begin : (bytes : List ℕ) → 0 < length bytes → lines_in bytes ≡ onto [] (lines_in bytes)
lines_begin [] h = absurd (omega arith)
lines_begin (b ∷ bs) h = by (nothing_onto b (lines_in bs)) (b == 10)
  where
    by : onto (b ∷ []) (lines_in bs) ≡ onto [] (onto (b ∷ []) (lines_in bs)) → (t : Bool) → (if t then [] ∷ lines_in bs else onto (b ∷ []) (lines_in bs)) ≡ onto [] (if t then [] ∷ lines_in bs else onto (b ∷ []) (lines_in bs))
    by k true = refl
    by k false = k

pub requests_first : (rs : List (List ℕ)) → requests_of (map in_first rs) 1 ≡ rs
requests_first [] = refl
requests_first (r ∷ rs) = ap (λ xs. r ∷ xs) (requests_first rs)

-- the requests of session 1 are all that there are
pub first_alone : (rs : List (List ℕ)) → sessions_of (map in_first rs) ≡ with_requests 1 rs
first_alone rs = ap (λ xs. with_requests 1 xs ++ []) (requests_first rs) ∙ append-nil (with_requests 1 rs)

-- ---- lines that are not session 1's

-- no session is served by what was found
Unserved : Option (ℕ × List ℕ) → Type 0
Unserved found = option_and_then of_session found ≡ None

chosen : (t : Bool) (x y : Option (ℕ × List ℕ)) → (t ≡ true → Unserved x) → (t ≡ false → Unserved y) → Unserved (if t then x else y)
chosen true x y f g = f refl
chosen false x y f g = g refl

large : (n : ℕ) (bs : List ℕ) → 2 ≤ n → Unserved (Some (n, bs))
unfolding Unserved
large n bs h = let e : (n == 1) ≡ false = grind (arith, nat_tests) in rw e

large_on : (bs : List ℕ) (n : ℕ) → 2 ≤ n → Unserved (number_on n bs)
unfolding Unserved
large_on [] n h = refl
large_on (b ∷ bs) n h =
    chosen (b == 32) (Some (n, bs)) (if is_digit b then number_on (10 * n + (b - 48)) bs else None) (λ e. large n bs h)
    (λ e. chosen (is_digit b) (number_on (10 * n + (b - 48)) bs) None (λ d. large_on bs (10 * n + (b - 48)) (omega arith)) (λ d. refl))

two_digits : (a b : ℕ) (rest : List ℕ) → 48 < a → ((b == 32) ≡ true → ⊥) → Unserved (number_on (a - 48) (b ∷ rest))
unfolding Unserved
two_digits a b rest h blank =
    chosen (b == 32) (Some (a - 48, rest)) (if is_digit b then number_on (10 * (a - 48) + (b - 48)) rest else None) (λ e. absurd (blank e))
    (λ e. chosen (is_digit b) (number_on (10 * (a - 48) + (b - 48)) rest) None (λ d. large_on rest (10 * (a - 48) + (b - 48)) (omega arith)) (λ d. refl))

begun : (a b : ℕ) (rest : List ℕ) → 48 < a → ((a ≡ 49) → (b == 32) ≡ true → ⊥) → (t : Bool) → (a == 49) ≡ t → Unserved (number_on (a - 48) (b ∷ rest))
begun a b rest h other true e = two_digits a b rest h (other (grind (arith, nat_tests)))
begun a b rest h other false e = let above : 2 ≤ a - 48 = grind (arith, nat_tests) in large_on (b ∷ rest) (a - 48) above

-- a line that does not begin with `1` and a blank is no session's
pub numbered_other : (line : List ℕ) → ((rest : List ℕ) → line ≡ 49 ∷ 32 ∷ rest → ⊥) → option_and_then of_session (numbered line) ≡ None
unfolding Unserved
numbered_other [] h = refl
numbered_other (a ∷ []) h = chosen (is_digit a && nat_lt 48 a) None None (λ e. refl) (λ e. refl)
numbered_other (a ∷ b ∷ rest) h =
    chosen (is_digit a && nat_lt 48 a) (number_on (a - 48) (b ∷ rest)) None
    (λ e. begun a b rest (above a e) (λ one blank. h rest (ap (λ x. x ∷ b ∷ rest) one ∙ ap (λ x. 49 ∷ x ∷ rest) (grind (arith, nat_tests)))) (a == 49) refl)
    (λ e. refl)
  where
    above : (a : ℕ) → (is_digit a && nat_lt 48 a) ≡ true → 48 < a
    above a e = grind (arith, nat_tests)
