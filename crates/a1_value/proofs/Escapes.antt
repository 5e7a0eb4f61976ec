-- Bytes that are escaped one after the other, and read back so.
use Rattle.std.proofs.Common.{◌≡◌, ℕ, zero, suc, ◌+◌, ◌<◌, ◌≤◌, ◌≢◌, cond, arith, append-nil, List, [], ◌∷◌, ◌++◌, length, take, get_or, Option, Some, None, refl, sym, ap, ◌∙◌, append_assoc}
use Rattle.std.specs.Prelude.{option_map, ◌==◌, count_by}
use Rattle.std.proofs.lemmas.List.Sums.{count_by-le-length}
use Rattle.std.proofs.lemmas.Bool.{ne_eqb}
use Rattle.std.proofs.lemmas.List.Recursion.{is_count_by}
use Rattle.std.proofs.lemmas.List.{take_more, length-append}
use Rattle.a1_value.specs.Encoding.{escaped, next_escaped, unescaped}

escaped_append : (a b : List ℕ) → escaped (a ++ b) ≡ escaped a ++ escaped b
escaped_append [] b = refl
escaped_append (zero ∷ a) b = ap (λ z. 0 ∷ 255 ∷ z) (escaped_append a b)
escaped_append (suc x ∷ a) b = ap (λ z. suc x ∷ z) (escaped_append a b)

-- one byte more
pub escaped_more : (bytes : List ℕ) (i : ℕ) → i < length bytes → escaped (take (i + 1) bytes) ≡ escaped (take i bytes) ++ escaped (get_or bytes i 0 ∷ [])
escaped_more bytes i lt = ap escaped (take_more bytes i 0 lt) ∙ escaped_append (take i bytes) (get_or bytes i 0 ∷ [])

-- a byte that is not 00 stands for itself
pub escaped_other : (b : ℕ) → b ≢ 0 → escaped (b ∷ []) ≡ b ∷ []
escaped_other zero h = absurd (h refl)
escaped_other (suc b) h = refl

-- what was read before, and what is still read
abbrev pub with_front : List ℕ → Option (List ℕ × List ℕ) → Option (List ℕ × List ℕ)
with_front front read = option_map (λ p. (front ++ p.0, p.1)) read

regroup : (front : List ℕ) (b : ℕ) (read : Option (List ℕ × List ℕ)) → with_front front (option_map (λ p. (b ∷ p.0, p.1)) read) ≡ with_front (front ++ b ∷ []) read
regroup front b None = refl
regroup front b (Some p) = ap (λ z. Some (z, p.1)) (sym (append_assoc front (b ∷ []) p.0))

module _ (front rest : List ℕ) (total : Option (List ℕ × List ℕ)) where
  pub fails : (room : ℕ) → next_escaped rest ≡ None → with_front front (unescaped room rest) ≡ total → total ≡ None
  unfolding unescaped
  fails zero e so_far = sym so_far ∙ rw e refl
  fails (suc room) e so_far = sym so_far ∙ rw e refl

  pub ends : (room : ℕ) (after : List ℕ) → next_escaped rest ≡ Some (None, after) → with_front front (unescaped room rest) ≡ total → total ≡ Some (front, after)
  unfolding unescaped
  ends zero after e so_far = sym so_far ∙ rw e (ap (λ z. Some (z, after)) (append-nil front))
  ends (suc room) after e so_far = sym so_far ∙ rw e (ap (λ z. Some (z, after)) (append-nil front))

  pub is_full : (room b : ℕ) (after : List ℕ) → next_escaped rest ≡ Some (Some b, after) → room ≡ 0 → with_front front (unescaped room rest) ≡ total → total ≡ None
  unfolding unescaped
  is_full room b after e none so_far = sym so_far ∙ rw (none, e) refl

  pub goes_on : (room less b : ℕ) (after : List ℕ) → next_escaped rest ≡ Some (Some b, after) → room ≡ suc less → with_front front (unescaped room rest) ≡ total → with_front (front ++ b ∷ []) (unescaped less after) ≡ total
  unfolding unescaped
  goes_on room less b after e one so_far = sym (regroup front b (unescaped less after)) ∙ (sym (rw (one, e) refl) ∙ so_far)

-- ---- how long escaped bytes are

zeros : List ℕ → ℕ
zeros [] = 0
zeros (zero ∷ bytes) = 1 + zeros bytes
zeros (suc b ∷ bytes) = zeros bytes

with_zeros : (bytes : List ℕ) → length (escaped bytes) ≡ length bytes + zeros bytes
unfolding zeros
with_zeros [] = refl
with_zeros (zero ∷ bytes) = let e = with_zeros bytes in omega (arith, e)
with_zeros (suc b ∷ bytes) = let e = with_zeros bytes in omega (arith, e)

zeros_counted : (bytes : List ℕ) → zeros bytes ≡ count_by (λ b. b == 0) bytes
unfolding zeros
zeros_counted bytes = is_count_by zeros (λ b. b == 0) refl step bytes where
  step : (b : ℕ) (more : List ℕ) → zeros (b ∷ more) ≡ cond (b == 0) (1 + zeros more) (zeros more)
  step zero more = refl
  step (suc b) more = sym (ap (λ t. cond t (1 + zeros more) (zeros more)) (ne_eqb (suc b) 0 (λ e. cc)))

-- each 00 takes a byte more, and the end two
pub escaped_length : (bytes : List ℕ) → length (escaped bytes ++ 0 ∷ 0 ∷ []) ≡ 2 + length bytes + count_by (λ b. b == 0) bytes
escaped_length bytes = omega (arith, with_zeros bytes, zeros_counted bytes, length-append (escaped bytes) (0 ∷ 0 ∷ []))

pub few_zeros : (bytes : List ℕ) → count_by (λ b. b == 0) bytes ≤ length bytes
few_zeros bytes = count_by-le-length (λ b. b == 0) bytes
