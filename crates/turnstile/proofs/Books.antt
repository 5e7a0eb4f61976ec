-- Writers and their numbers, for the tests.
use Rattle.std.proofs.Common.{◌≡◌, ◌≢◌, ℕ, zero, suc, ◌-◌, ◌<◌, ◌≤◌, List, [], ◌∷◌, ◌++◌, sym, refl, ap, ◌∙◌, subst, inl, inr, arith, eq-eqb, ne_eqb}
use Rattle.turnstile.specs.Entries.{without, up_to, HasAll}
use Rattle.a1_base.specs.Lists.{IsAmong, entries_of}
use Rattle.turnstile.specs.Book.{Mark, writer, HaveWritten, HasEach, marks}
use mathlib.Core.Logic.{dite}
use native.Mathlib.Decide.{dec_le}
use Rattle.std.proofs.lemmas.Bool.{cond-true, cond-false}
use Rattle.turnstile.proofs.Histories.{up_to_has}

-- what is not among the numbers need not be taken out
without_none : (k : ℕ) (ns : List ℕ) → (IsAmong k ns → ⊥) → without k ns ≡ ns
without_none k [] not = refl
without_none k (x ∷ xs) not =
    cond-false _ _ _ (ne_eqb x k (λ (e : x ≡ k). not (inl e))) ∙ ap (λ (z : List ℕ). x ∷ z) (without_none k xs (λ h. not (inr h)))

without_last : (n : ℕ) → without (suc n) (up_to (suc n)) ≡ up_to n
without_last n =
    cond-true _ _ _ (eq-eqb (suc n) (suc n) refl) ∙ without_none (suc n) (up_to n) (λ h. let r = (up_to_has (suc n) n h).1 in omega arith)

-- the last writer apart
pub parted : (n : ℕ) (numbers left : List ℕ) → 1 < n → numbers ≡ up_to n → left ≡ without n numbers → left ≡ up_to (n - 1)
parted zero numbers left two all is = absurd (omega arith)
parted (suc n) numbers left two all is = is ∙ (ap (without (suc n)) all ∙ (without_last n ∙ ap up_to (let e : n ≡ suc n - 1 = omega arith in e)))

pub another : (n : ℕ) (numbers : List ℕ) → 1 < n → numbers ≡ up_to n → IsAmong n numbers × ((k : ℕ) × IsAmong k numbers × (k ≢ n))
another zero numbers two all = absurd (omega arith)
another (suc zero) numbers two all = absurd (omega arith)
another (suc (suc n)) numbers two all =
    subst (λ (z : List ℕ). IsAmong (suc (suc n)) z × ((k : ℕ) × IsAmong k z × (k ≢ suc (suc n)))) (sym all)
    (inl refl, (suc n, inr (inl refl), λ e. omega arith))

pub up_to_all : (k n : ℕ) → 0 < k → k ≤ n → IsAmong k (up_to n)
up_to_all k zero pos le = absurd (omega arith)
up_to_all k (suc n) pos le = dite (dec_le k n)
    (λ (low : k ≤ n). inr (up_to_all k n pos low))
    (λ (high : k ≤ n → ⊥). inl (omega arith))

pub all_up_to : (n : ℕ) (numbers : List ℕ) → numbers ≡ up_to n → HasAll n numbers
all_up_to n numbers is k pos le = subst (IsAmong k) (sym is) (up_to_all k n pos le)

-- the first entry is of no writer
skip_first : (k : ℕ) (items : List Mark) → 0 < k → entries_of writer k ((0, 0) ∷ items) ≡ entries_of writer k items
skip_first k items pos = cond-false _ _ _ (ne_eqb 0 k (λ (e : 0 ≡ k). omega arith))

-- the marks of a book that has been closed
pub closed : (writers times : ℕ) (items before log : List Mark) → before ≡ (0, 0) ∷ [] → log ≡ (0, 0) ∷ items
    → HaveWritten writers times before log → HasEach writers times items
closed writers times items before log is whole wrote k pos le =
    sym (skip_first k items pos)
    ∙ (sym (ap (entries_of writer k) whole)
    ∙ (wrote k (up_to_all k writers pos le)
    ∙ (ap (λ (z : List Mark). entries_of writer k z ++ marks k times) is ∙ ap (λ (z : List Mark). z ++ marks k times) (skip_first k [] pos))))
