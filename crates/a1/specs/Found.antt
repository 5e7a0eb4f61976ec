-- What `clap` finds in the words, by the words' own definition.
use Rattle.std.specs.Prelude.{◌≡◌, ℕ, ⊤, true, List, map, Option, Some, None}
use Rattle.clap.specs.Words.{App, Rule, new_app, new_rule, first_value, found_of}
use Rattle.clap.specs.declared.parser.matches.ArgMatches.{ArgMatches}
use Rattle.a1.specs.Words.{Use, uses_in, value_of}

-- an option with one value
abbrev pub option_rule : List ℕ → Rule
option_rule name = record (new_rule name) { long = Some name }

-- a command of these options, and no other word
abbrev pub line_of : List ℕ → List (List ℕ) → App
line_of label names = record (new_app label) {
  top = record (new_app label).top { rules = map option_rule names; no_binary_name = true; disable_help_flag = true };
}

-- it has just the values that these uses give
abbrev pub HasUses : List Use → ArgMatches → Type 0
HasUses given found = (name : List ℕ) → first_value (found_of found) name ≡ value_of name given

abbrev pub IsFoundBy : Option (List Use) → Option ArgMatches → Type 0
IsFoundBy None None = ⊤
IsFoundBy (Some given) (Some found) = HasUses given found
IsFoundBy uses found = ⊥

abbrev pub IsFound : List (List ℕ) → List (List ℕ) → Option ArgMatches → Type 0
IsFound names words = IsFoundBy (uses_in names words)
