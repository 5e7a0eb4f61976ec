-- Numbers in words, and how many nodes a command has.
use Rattle.std.proofs.Common.{◌≡◌, ◌≢◌, ℕ, ◌^◌, ◌<◌, ◌≤◌, List, [], ◌∷◌, Bool, true, false, Result, Ok, Err, Option, Some, None, refl, sym, subst, ap, ◌∙◌, arith, slice_index}
use Rattle.std.specs.Prelude.{nat_le, ◌&&◌, ⊤, IfSome, if◌then◌else◌, option_and_then, option_map, codes}
use Rattle.std.specs.Result.{result_ok}
use Rattle.std.specs.Str.{bytes_eq, all_ascii_digits}
use Rattle.std.specs.Str.Parse.{digits_value, without_leading_plus, ParsesUnsigned}
use Rattle.std.proofs.lemmas.Str.Parse.{IsNumeralModel, numerals_by_value, tells_all_ascii_digits, parse_digits, without_leading_plus_none}
use Rattle.std.proofs.lemmas.Bool.Decides.{nat_tests}
use Rattle.clap.specs.declared.parser.matches.ArgMatches.{ArgMatches}
use Rattle.a1_base.specs.declared.limits.TheConstants.{NODE_LIMIT}
use Rattle.a1.specs.declared.options.TheConstants.{DEFAULT_NODES}
use Rattle.a1.specs.declared.options.StepsOptions.{StepsOptions}
use Rattle.a1.specs.declared.words.Command.{Command}
use Rattle.a1.specs.declared.words.Command.TheVariants as command
use Rattle.a1.specs.Words.{Use, uses_in, value_of, read_or, number_in, nodes_of, run_of, steps_names, steps_options, steps_of, command_of}
use Rattle.a1.specs.Found.{HasUses, IsFoundBy}

numerals : IsNumeralModel (λ ds. all_ascii_digits ds ≡ true) (digits_value 10)
numerals = numerals_by_value _ tells_all_ascii_digits

at_most : (a b : ℕ) → a ≤ b → nat_le a b ≡ true
at_most a b h = grind (arith, nat_tests)

above : (a b : ℕ) → b < a → nat_le a b ≡ false
above a b h = grind (arith, nat_tests)

beyond : (v high : ℕ) → (v < 2 ^ 32 → ⊥) → high < 2 ^ 32 → high < v
beyond v high large fits = omega (arith, large)

and_false : (p : Bool) → (p && false) ≡ false
and_false true = refl
and_false false = refl

module _ {E : Type 0} (low high : ℕ) where
  -- what is no number of 32 bits is none in a range of such
  pub no_number : (word : List ℕ) (r : Result ℕ E) → ParsesUnsigned 32 10 word r → result_ok r ≡ None → high < 2 ^ 32 → None ≡ number_in low high word
  no_number word (Ok n) h is fits = absurd cc
  no_number [] (Err e) h is fits = refl
  no_number (b ∷ bs) (Err e) h is fits = by (all_ascii_digits (b ∷ bs)) refl
    where
      by : (t : Bool) → all_ascii_digits (b ∷ bs) ≡ t → None ≡ number_in low high (b ∷ bs)
      by false other = rw other refl
      by true digits =
          let too_large = parse_digits numerals 32 (b ∷ bs) (Err e) h digits in
          let value : high < digits_value 10 (b ∷ bs) = beyond (digits_value 10 (b ∷ bs)) high (λ small. too_large (omega arith, small)) fits in
          rw (digits, above (digits_value 10 (b ∷ bs)) high value, and_false (nat_le low (digits_value 10 (b ∷ bs)))) refl

  pub number_read : (word : List ℕ) (n : ℕ) (r : Result ℕ E) → ParsesUnsigned 32 10 word r → result_ok r ≡ Some n → slice_index word 0 ≢ 43 → low ≤ n → n ≤ high → Some n ≡ number_in low high word
  number_read word n (Err e) h is plain over under = absurd cc
  number_read [] n (Ok m) h is plain over under = absurd (omega (arith, h.0.0.0))
  number_read (b ∷ bs) n (Ok m) h is plain over under =
      let word : List ℕ = b ∷ bs in
      let same : without_leading_plus word ≡ word = without_leading_plus_none word plain in
      let read = rw same at h in
      let digits : all_ascii_digits word ≡ true = numerals.from word read.0.0.1 in
      let value : n ≡ digits_value 10 word = (let e : Some m ≡ Some n = is in let k : m ≡ n = cc in sym k ∙ read.1) in
      rw (digits, at_most low (digits_value 10 word) (subst (λ v. low ≤ v) value over), at_most (digits_value 10 word) high (subst (λ v. v ≤ high) value under)) (ap Some value)

-- ---- what is found

module _ {T : Type 0} where
  pub uses_some : (uses : Option (List Use)) (found : ArgMatches) (f : List Use → Option T) (r : Option T) → IsFoundBy uses (Some found) → ((given : List Use) → HasUses given found → r ≡ f given) → r ≡ option_and_then f uses
  uses_some None found f r fits told = absurd fits
  uses_some (Some given) found f r fits told = told given fits

  pub uses_none : (uses : Option (List Use)) (f : List Use → Option T) → IsFoundBy uses None → None ≡ option_and_then f uses
  uses_none None f fits = refl
  uses_none (Some given) f fits = absurd fits

-- ---- the number of nodes of `steps`

module _ {A : Type 0} where
  if_one : (P : A → Type 0) (test : Bool) (first second : Option A) → IfSome first P → IfSome second P → IfSome (if test then first else second) P
  if_one P true first second f s = f
  if_one P false first second f s = s

  then_some : {B : Type 0} (P : A → Type 0) (Q : B → Type 0) (f : A → Option B) (r : Option A) → IfSome r P → ((a : A) → P a → IfSome (f a) Q) → IfSome (option_and_then f r) Q
  then_some P Q f None h keeps = tt
  then_some P Q f (Some a) h keeps = keeps a h

  map_some : {B : Type 0} (P : A → Type 0) (Q : B → Type 0) (f : A → B) (r : Option A) → IfSome r P → ((a : A) → P a → Q (f a)) → IfSome (option_map f r) Q
  map_some P Q f None h keeps = tt
  map_some P Q f (Some a) h keeps = keeps a h

  any : (r : Option A) → IfSome r (λ _. ⊤)
  any None = tt
  any (Some a) = tt

abbrev AreNodes : ℕ → Type 0
AreNodes n = (1 ≤ n) × (n ≤ NODE_LIMIT)

at_most_if : (a b : ℕ) → nat_le a b ≡ true → a ≤ b
at_most_if a b h = grind (arith, nat_tests)

tests : (p q r : Bool) → (p && q && r) ≡ true → (q ≡ true) × (r ≡ true)
tests true true true h = (refl, refl)
tests true true false h = absurd cc
tests true false r h = absurd cc
tests false q r h = absurd cc

within : (low high n : ℕ) (digits : Bool) → IfSome (if digits && nat_le low n && nat_le n high then Some n else None) (λ n. (low ≤ n) × (n ≤ high))
within low high n digits = by (digits && nat_le low n && nat_le n high) refl
  where
    by : (t : Bool) → (digits && nat_le low n && nat_le n high) ≡ t → IfSome (if t then Some n else None) (λ n. (low ≤ n) × (n ≤ high))
    by false is = tt
    by true is = let parts = tests digits (nat_le low n) (nat_le n high) is in (at_most_if low n parts.0, at_most_if n high parts.1)

number_within : (low high : ℕ) (word : List ℕ) → IfSome (number_in low high word) (λ n. (low ≤ n) × (n ≤ high))
number_within low high [] = tt
number_within low high (b ∷ bs) = within low high (digits_value 10 (b ∷ bs)) (all_ascii_digits (b ∷ bs))

nodes_or : (value : Option (List ℕ)) → IfSome (read_or DEFAULT_NODES (number_in 1 NODE_LIMIT) value) AreNodes
nodes_or None = (omega arith, omega arith)
nodes_or (Some word) = number_within 1 NODE_LIMIT word

abbrev HasNodes : StepsOptions → Type 0
HasNodes options = AreNodes options.nodes

abbrev HasStepsNodes : Command → Type 0
HasStepsNodes (command.Run options) = ⊤
HasStepsNodes (command.Steps options) = HasNodes options

of_words : (words : List (List ℕ)) → IfSome (command_of words) HasStepsNodes
of_words [] = tt
of_words (word ∷ words) = if_one HasStepsNodes (bytes_eq word (codes "run")) _ _
    (map_some (λ _. ⊤) HasStepsNodes command.Run (run_of words) (any (run_of words)) (λ options is. tt))
    (if_one HasStepsNodes (bytes_eq word (codes "steps")) _ None
    (map_some HasNodes HasStepsNodes command.Steps (steps_of words)
    (then_some (λ _. ⊤) HasNodes steps_options (uses_in steps_names words) (any (uses_in steps_names words))
    (λ given is. map_some AreNodes HasNodes _ (nodes_of given) (nodes_or (value_of (codes "nodes") given)) (λ n is. is)))
    (λ options is. is)) tt)

-- `steps` has a number of nodes that a farm can have
pub steps_nodes : (words : List (List ℕ)) (options : StepsOptions) → command_of words ≡ Some (command.Steps options) → (1 ≤ options.nodes) × (options.nodes ≤ NODE_LIMIT)
steps_nodes words options is = subst (λ c. IfSome c HasStepsNodes) is (of_words words)

pub same_options : (one other : StepsOptions) → Some (command.Steps one) ≡ Some (command.Steps other) → one ≡ other
same_options one other is = cc
