-- How often a number stands in a list, and the lanes.
use Rattle.std.proofs.Common.{◌==◌, ◌≡◌, ◌≢◌, ℕ, zero, suc, ◌+◌, ◌<◌, ◌≤◌, cond, List, [], ◌∷◌, ◌++◌, length, refl, ap, ◌∙◌, sym, arith, eq-eqb, ne_eqb}
use Rattle.std.proofs.lemmas.Bool.{cond-true, cond-false}
use Rattle.std.proofs.lemmas.Bool.Decides.{nat_tests}
use Rattle.std.proofs.lemmas.List.Sums.{sum_by-append}
use Rattle.a1_base.proofs.Sums.{sum_one}
use mathlib.Core.Logic.{dite}
use native.Mathlib.Decide.{ℕ_discrete}
use Rattle.snapshot_stamps.specs.Watched.{lanes_from}
use Rattle.snapshot_stamps.specs.Clock.{times, once_between}

pub times_append : (x : ℕ) (xs ys : List ℕ) → times x (xs ++ ys) ≡ times x xs + times x ys
times_append x = sum_by-append (λ y. cond (y == x) 1 0)

times_here : (x : ℕ) → times x (x ∷ []) ≡ 1
times_here x = sum_one (λ y. cond (y == x) 1 0) x ∙ cond-true _ _ _ (eq-eqb x x refl)

times_else : (x y : ℕ) → y ≢ x → times x (y ∷ []) ≡ 0
times_else x y ne = sum_one (λ y. cond (y == x) 1 0) y ∙ cond-false _ _ _ (ne_eqb y x ne)

between_here : (low high : ℕ) → low ≤ high → once_between low (high + 1) (high + 1) ≡ once_between low high (high + 1) + 1
between_here low high le = grind (arith, nat_tests)

between_else : (low high x : ℕ) → low ≤ high → high + 1 ≢ x → once_between low (high + 1) x ≡ once_between low high x
between_else low high x le ne = grind (arith, nat_tests)

between_first : (low high x : ℕ) → low < high → once_between low high x ≡ times x ((low + 1) ∷ []) + once_between (low + 1) high x
between_first low high x lt = dite (ℕ_discrete (low + 1) x)
    (λ (here : low + 1 ≡ x). let o : times x ((low + 1) ∷ []) ≡ 1 = ap (λ (z : ℕ). times x (z ∷ [])) here ∙ times_here x in grind (arith, nat_tests))
    (λ (away : low + 1 ≢ x). let o = times_else x (low + 1) away in grind (arith, nat_tests))

-- the number above the last is one more
pub between_next : (low high x : ℕ) → low ≤ high → once_between low (high + 1) x ≡ once_between low high x + times x ((high + 1) ∷ [])
between_next low high x le = dite (ℕ_discrete (high + 1) x)
    (λ (here : high + 1 ≡ x).
    let o : times x ((high + 1) ∷ []) ≡ 1 = ap (λ (z : ℕ). times x (z ∷ [])) here ∙ times_here x in
    let a : once_between low (high + 1) x ≡ once_between low high x + 1 = ap (λ (z : ℕ). once_between low (high + 1) z) (sym here) ∙ between_here low high le ∙ ap (λ (z : ℕ). once_between low high z + 1) here in
    omega arith)
    (λ (away : high + 1 ≢ x). let o = times_else x (high + 1) away in let a = between_else low high x le away in omega arith)

pub no_between : (low high x : ℕ) → high ≤ low → once_between low high x ≡ 0
no_between low high x le = grind (arith, nat_tests)

pub lanes_length : (first n : ℕ) → length (lanes_from first n) ≡ n
lanes_length first zero = refl
lanes_length first (suc n) = let r = lanes_length (suc first) n in omega arith

pub lanes_times : (low n x : ℕ) → times x (lanes_from (suc low) n) ≡ once_between low (low + n) x
lanes_times low zero x = sym (no_between low (low + 0) x (omega arith))
lanes_times low (suc n) x =
    let r = lanes_times (suc low) n x in
    let a = between_first low (low + suc n) x (omega arith) in
    let b : once_between (low + 1) (low + suc n) x ≡ once_between (suc low) (suc low + n) x = ap (λ (z : ℕ). once_between z (low + suc n) x) (omega arith) ∙ ap (λ (z : ℕ). once_between (suc low) z x) (omega arith) in
    let c : times x ((low + 1) ∷ []) ≡ times x (suc low ∷ []) = ap (λ (z : ℕ). times x (z ∷ [])) (omega arith) in
    let d = times_append x (suc low ∷ []) (lanes_from (suc (suc low)) n) in
    omega arith

pub lanes_snoc : (first n : ℕ) → lanes_from first (suc n) ≡ lanes_from first n ++ (first + n) ∷ []
lanes_snoc first zero = ap (λ (z : ℕ). z ∷ []) (omega arith)
lanes_snoc first (suc n) = ap (λ (z : List ℕ). first ∷ z) (lanes_snoc (suc first) n ∙ ap (λ (z : ℕ). lanes_from (suc first) n ++ z ∷ []) (omega arith))
