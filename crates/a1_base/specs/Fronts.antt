-- Values read from the front of some bytes.
use Rattle.std.specs.Prelude.{◌≡◌, ℕ, zero, suc, ◌<◌, List, [], ◌∷◌, ◌++◌, length, take, drop, slice_index, Bool, nat_lt, ◌==◌, if◌then◌else◌, Option, Some, None, option_map, option_and_then, Result, Ok, Err, ⊤}
use Rattle.std.specs.Int.{Width, byte_len, from_be_bytes}
use Rattle.std.specs.Borrow.{Bor}
use Rattle.a1_base.specs.declared.fronts.ReadFault.{ReadFault}
use Rattle.a1_base.specs.declared.fronts.ReadFault.TheVariants.{Malformed, Memory}

-- every element is a byte
abbrev pub IsBytes : List ℕ → Type 0
IsBytes bytes = (i : ℕ) → slice_index bytes i < 256

-- the value that the bytes begin with and the bytes behind it, or none
abbrev pub Front : Type 0 → Type 0
Front A = List ℕ → Option (A × List ℕ)

-- one byte
abbrev pub byte : Front ℕ
byte [] = None
byte (b ∷ rest) = Some (b, rest)

-- so many bytes
abbrev pub part : ℕ → Front (List ℕ)
part n bytes = if nat_lt (length bytes) n then None else Some (take n bytes, drop n bytes)

-- a number of this width, the highest byte first
abbrev pub number : Width → Front ℕ
number w bytes = option_map (λ p. (from_be_bytes w p.0, p.1)) (part (byte_len w) bytes)

-- the number of this width that stands from a place on
abbrev pub number_at : Width → ℕ → List ℕ → Option ℕ
number_at w at bytes = option_map (λ p. p.0) (number w (drop at bytes))

-- a value, and another behind it
abbrev pub both : {A B : Type 0} → Front A → Front B → Front (A × B)
both p q bytes = option_and_then (λ a. option_map (λ b. ((a.0, b.0), b.1)) (q a.1)) (p bytes)

-- the value, made into another
abbrev pub made : {A B : Type 0} → (A → B) → Front A → Front B
made f p bytes = option_map (λ a. (f a.0, a.1)) (p bytes)

-- the value, where it passes the test
abbrev pub tested : {A : Type 0} → (A → Bool) → Front A → Front A
tested test p bytes = option_and_then (λ a. if test a.0 then Some a else None) (p bytes)

-- so many values, one behind the other
unfoldable pub several : {A : Type 0} → ℕ → Front A → Front (List A)
several zero p bytes = Some ([], bytes)
several (suc n) p bytes = option_and_then (λ a. option_map (λ b. (a.0 ∷ b.0, b.1)) (several n p a.1)) (p bytes)

-- a byte for the number of values, and each
abbrev pub counted : {A : Type 0} → Front A → Front (List A)
counted p bytes = option_and_then (λ n. several n.0 p n.1) (byte bytes)

-- a length, and that many bytes
abbrev pub sized : Front ℕ → Front (List ℕ)
sized size bytes = option_and_then (λ n. part n.0 n.1) (size bytes)

-- the value that all of the bytes are
abbrev pub whole : {A : Type 0} → Front A → List ℕ → Option A
whole p bytes = option_and_then (λ a. if length a.1 == 0 then Some a.0 else None) (p bytes)

-- the value that all of a part is
abbrev pub inside : {A : Type 0} → Front (List ℕ) → (List ℕ → Option A) → Front A
inside outer read bytes = option_and_then (λ b. option_map (λ a. (a, b.1)) (read b.0)) (outer bytes)

-- ---- exact readings

-- what is read is spelled so, and what is spelled so is read, whatever stands behind it
pub record Exact {A : Type 0} (front : Front A) (spelling : A → List ℕ) (IsA : A → Type 0) : Type 0 where
  pub takes : (bytes : List ℕ) (a : A × List ℕ) →
      IsBytes bytes → front bytes ≡ Some a → IsA a.0 × (bytes ≡ spelling a.0 ++ a.1)
  pub again : (a : A) (rest : List ℕ) → IsA a → front (spelling a ++ rest) ≡ Some (a, rest)

-- the same of a reading of all of some bytes
pub record ExactWhole {A : Type 0} (read : List ℕ → Option A) (spelling : A → List ℕ) (IsA : A → Type 0) : Type 0 where
  pub takes : (bytes : List ℕ) (a : A) → IsBytes bytes → read bytes ≡ Some a → IsA a × (bytes ≡ spelling a)
  pub again : (a : A) → IsA a → read (spelling a) ≡ Some a

-- ---- what a reader answers

abbrev pub FailsToRead : {A : Type 0} → ReadFault → Option A → Type 0
FailsToRead Malformed wanted = wanted ≡ None
FailsToRead Memory wanted = ⊤

-- the result, seen so, is what is wanted: none exactly where it is `Malformed`, unless memory was wanting
abbrev pub Reads : {X A : Type 0} → (X → A) → Result X ReadFault → Option A → Type 0
Reads view (Ok x) wanted = wanted ≡ Some (view x)
Reads view (Err fault) wanted = FailsToRead fault wanted

-- of a value and the bytes behind it
abbrev pub ReadsFront : {A : Type 0} → Result (A × Bor (List ℕ)) ReadFault → Option (A × List ℕ) → Type 0
ReadsFront result wanted = Reads (λ x. (x.0, x.1.now)) result wanted

-- of a value alone
abbrev pub ReadsWhole : {A : Type 0} → Result A ReadFault → Option A → Type 0
ReadsWhole result wanted = Reads (λ x. x) result wanted
