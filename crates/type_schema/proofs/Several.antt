-- Reading so many values one behind the other, as a loop does.
use Rattle.std.proofs.Common.{◌≡◌, ℕ, suc, ◌+◌, ◌-◌, ◌≤◌, ◌<◌, List, [], ◌∷◌, ◌++◌, Option, Some, None, refl, sym, ap, ◌∙◌, append_assoc, append-nil, arith}
use Rattle.std.specs.Prelude.{option_map}
use Rattle.a1_base.specs.declared.fronts.ReadFault.{ReadFault}
use Rattle.a1_base.specs.declared.fronts.ReadFault.TheVariants.{Malformed, Memory}
use Rattle.a1_base.specs.Fronts.{Front, several, FailsToRead}

-- the values read before, and those still to be read
abbrev pub with_front : {A : Type 0} → List A → Option (List A × List ℕ) → Option (List A × List ℕ)
with_front front read = option_map (λ x. (front ++ x.0, x.1)) read

module _ {A : Type 0} (p : Front A) where
  regroup : (front : List A) (a : A) (read : Option (List A × List ℕ)) → with_front front (option_map (λ b. (a ∷ b.0, b.1)) read) ≡ with_front (front ++ a ∷ []) read
  regroup front a (Some x) = ap (λ (xs : List A). Some (xs, x.1)) (sym (append_assoc front (a ∷ []) x.0))
  regroup front a None = refl

  pub goes_on : (front : List A) (count i : ℕ) (bytes : List ℕ) (a : A) (after : List ℕ) (total : Option (List A × List ℕ)) → i < count → p bytes ≡ Some (a, after)
      → with_front front (several (count - i) p bytes) ≡ total → with_front (front ++ a ∷ []) (several (count - (i + 1)) p after) ≡ total
  unfolding several
  goes_on front count i bytes a after total lt h so_far =
      let k : count - i ≡ suc (count - (i + 1)) = omega arith in
      let one : with_front front (several (count - i) p bytes) ≡ with_front (front ++ a ∷ []) (several (count - (i + 1)) p after) = rw (k, h) (regroup front a (several (count - (i + 1)) p after)) in
      sym one ∙ so_far

  pub ends : (fault : ReadFault) (front : List A) (count i : ℕ) (bytes : List ℕ) (total : Option (List A × List ℕ)) → i < count → FailsToRead fault (p bytes)
      → with_front front (several (count - i) p bytes) ≡ total → FailsToRead fault total
  unfolding several
  ends Memory front count i bytes total lt h so_far = tt
  ends Malformed front count i bytes total lt h so_far =
      let k : count - i ≡ suc (count - (i + 1)) = omega arith in
      let one : with_front front (several (count - i) p bytes) ≡ None = rw (k, h) refl in
      sym so_far ∙ one

  pub is_done : (front : List A) (count i : ℕ) (bytes : List ℕ) (total : Option (List A × List ℕ)) → count ≤ i → with_front front (several (count - i) p bytes) ≡ total → total ≡ Some (front, bytes)
  unfolding several
  is_done front count i bytes total le so_far =
      let k : count - i ≡ 0 = omega arith in
      let one : with_front front (several (count - i) p bytes) ≡ Some (front, bytes) = rw k (ap (λ (xs : List A). Some (xs, bytes)) (append-nil front)) in
      sym so_far ∙ one
