-- Lists of entries that several callers add to, each under numbers of its own.
use Rattle.std.specs.Prelude.{◌≡◌, ℕ, zero, suc, ◌<◌, ◌≤◌, ◌==◌, cond, nat_lt, List, [], ◌∷◌, length}
use Rattle.std.specs.List.{AllByRecursion}
use Rattle.a1_base.specs.Lists.{IsAmong, entries_of}

-- the numbers but k
abbrev pub without : ℕ → List ℕ → List ℕ
without k [] = []
without k (x ∷ xs) = cond (x == k) (without k xs) (x ∷ without k xs)

-- the numbers from 1 to n, the greatest first
abbrev pub up_to : ℕ → List ℕ
up_to zero = []
up_to (suc n) = suc n ∷ up_to n

-- no number stands twice
abbrev pub EachOnce : List ℕ → Type 0
EachOnce [] = Unit {0}
EachOnce (x ∷ xs) = (IsAmong x xs → ⊥) × EachOnce xs

-- the numbers from 1 to n are among these
abbrev pub HasAll : ℕ → List ℕ → Type 0
HasAll n numbers = (k : ℕ) → 0 < k → k ≤ n → IsAmong k numbers

module _ {E : Type 0} where
  abbrev pub longer : List E → List E → List E
  longer a b = cond (nat_lt (length a) (length b)) b a

  abbrev pub shorter : List E → List E → List E
  shorter a b = cond (nat_lt (length a) (length b)) a b

module _ {E : Type 0} (number : E → ℕ) where
  -- each entry's number is one of these
  abbrev pub AllOf : List ℕ → List E → Type 0
  AllOf numbers es = AllByRecursion (λ e. IsAmong (number e) numbers) es

  -- both lists have the same entries of each of these numbers
  abbrev pub SameOwn : List ℕ → List E → List E → Type 0
  SameOwn numbers before after = (k : ℕ) → IsAmong k numbers → entries_of number k after ≡ entries_of number k before
