-- Which command the words name, and which options they give it.
use Rattle.std.specs.Prelude.{◌&&◌, ◌==◌, ℕ, Bool, true, not, List, [], ◌∷◌, ◌++◌, map, fold, find, Option, Some, None}
use Rattle.std.specs.Prelude.{if◌then◌else◌, is_some, nat_le, false, codes, option_map, option_and_then, String, string_bytes}
use Rattle.std.specs.declared.alloc.Global.{Global}
use Rattle.std.specs.List.{list_any, before_first, after_first}
use Rattle.std.specs.Str.{bytes_eq, all_ascii_digits}
use Rattle.std.specs.Str.Parse.{digits_value}
use Rattle.a1_base.specs.declared.limits.TheConstants.{NODE_LIMIT}
use Rattle.a1.specs.declared.options.TheConstants.{DEFAULT_NODES, DEFAULT_RETRIES, RETRIES_LIMIT}
use Rattle.a1.specs.declared.options.RunOptions.{RunOptions}
use Rattle.a1.specs.declared.options.StepsOptions.{StepsOptions}
use Rattle.a1.specs.declared.words.Command.{Command}
use Rattle.a1.specs.declared.words.Command.TheVariants as command

-- the bytes of each word
abbrev pub texts_of : List (String Global) → List (List ℕ)
texts_of = map string_bytes

-- ---- the form of a word

-- what stands behind a hyphen in front
abbrev pub behind_hyphen : List ℕ → Option (List ℕ)
behind_hyphen [] = None
behind_hyphen (byte ∷ bytes) = if byte == 45 then Some bytes else None

abbrev pub is_equals : ℕ → Bool
is_equals byte = byte == 61

-- a name, and the value behind its first `=` if there is one
abbrev pub name_and_value : List ℕ → Option (List ℕ × Option (List ℕ))
name_and_value [] = None
name_and_value (byte ∷ bytes) = let text = byte ∷ bytes in
    Some (before_first is_equals text, if list_any is_equals text then Some (after_first is_equals text) else None)

-- of `--name` the name, of `--name=value` the value too
abbrev pub option_of : List ℕ → Option (List ℕ × Option (List ℕ))
option_of word = option_and_then name_and_value (option_and_then behind_hyphen (behind_hyphen word))

-- the word begins with a hyphen, and is not of these forms
abbrev pub is_stray : List ℕ → Bool
is_stray word = is_some (behind_hyphen word) && not (is_some (option_of word))

-- ---- which options are given

-- an option's name, and its value
abbrev pub Use : Type 0
Use = List ℕ × List ℕ

-- what the words so far give, and the name whose value is the next word
pub record Reading : Type 0 where
  pub given : List Use
  pub waiting : Option (List ℕ)

abbrev pub settled : List Use → Reading
settled given = record { given = given; waiting = None }

abbrev pub is_name : List (List ℕ) → List ℕ → Bool
is_name names name = list_any (λ n. bytes_eq n name) names

-- one use more, of a name that has none
abbrev pub with_use : List Use → List ℕ → List ℕ → Option Reading
with_use given name value = if list_any (λ u. bytes_eq u.0 name) given then None else
    Some (settled (given ++ (name, value) ∷ []))

abbrev pub opened : List (List ℕ) → List Use → List ℕ → Option (List ℕ) → Option Reading
opened names given name (Some value) = if is_name names name then with_use given name value else None
opened names given name None = if is_name names name then Some (record { given = given; waiting = Some name }) else None

-- one word more: it is an option's where nothing waits, and a value else
abbrev pub read_on : List (List ℕ) → Option (List ℕ) → List Use → List ℕ → Option (List ℕ × Option (List ℕ)) → Option Reading
read_on names None given word (Some option) = opened names given option.0 option.1
read_on names None given word None = None
read_on names (Some name) given word (Some option) = None
read_on names (Some name) given word None = with_use given name word

abbrev pub read_word : List (List ℕ) → Option Reading → List ℕ → Option Reading
read_word names None word = None
read_word names (Some reading) word = if is_stray word then None else
    read_on names reading.waiting reading.given word (option_of word)

abbrev pub ended : Reading → Option (List Use)
ended reading = if is_some reading.waiting then None else Some reading.given

-- the uses of these names that the words give, from the first word to the last
abbrev pub uses_in : List (List ℕ) → List (List ℕ) → Option (List Use)
uses_in names words = option_and_then ended (fold (read_word names) (Some (settled [])) words)

-- ---- values

abbrev pub value_of : List ℕ → List Use → Option (List ℕ)
value_of name given = option_map (λ u. u.1) (find (λ u. bytes_eq u.0 name) given)

-- the number that the word writes in decimal digits and nothing else, where it is from low to high
abbrev pub number_in : ℕ → ℕ → List ℕ → Option ℕ
number_in low high [] = None
number_in low high (byte ∷ bytes) = let word = byte ∷ bytes in
    if all_ascii_digits word && nat_le low (digits_value 10 word) && nat_le (digits_value 10 word) high
    then Some (digits_value 10 word) else None

abbrev pub yes_or_no : List ℕ → Option Bool
yes_or_no word =
    if bytes_eq word (codes "yes") then Some true else
    if bytes_eq word (codes "no") then Some false else
    None

-- a value as it reads, or what stands without it
module _ {T : Type 0} where
  abbrev pub read_or : T → (List ℕ → Option T) → Option (List ℕ) → Option T
  read_or default read None = Some default
  read_or default read (Some word) = read word

abbrev pub nodes_of : List Use → Option ℕ
nodes_of given = read_or DEFAULT_NODES (number_in 1 NODE_LIMIT) (value_of (codes "nodes") given)

abbrev pub retries_of : List Use → Option ℕ
retries_of given = read_or DEFAULT_RETRIES (number_in 0 RETRIES_LIMIT) (value_of (codes "retries") given)

abbrev pub beside_of : List Use → Option Bool
beside_of given = read_or true yes_or_no (value_of (codes "beside") given)

-- ---- commands

abbrev pub run_names : List (List ℕ)
run_names = codes "nodes" ∷ codes "retries" ∷ codes "beside" ∷ []

abbrev pub run_options : List Use → Option RunOptions
run_options given =
    option_and_then (λ nodes. option_and_then (λ retries. option_map
    (λ beside. record { nodes = nodes; retries = retries; beside = beside })
    (beside_of given)) (retries_of given)) (nodes_of given)

abbrev pub steps_names : List (List ℕ)
steps_names = codes "nodes" ∷ []

abbrev pub steps_options : List Use → Option StepsOptions
steps_options given = option_map (λ nodes. record { nodes = nodes }) (nodes_of given)

abbrev pub run_of : List (List ℕ) → Option RunOptions
run_of words = option_and_then run_options (uses_in run_names words)

abbrev pub steps_of : List (List ℕ) → Option StepsOptions
steps_of words = option_and_then steps_options (uses_in steps_names words)

-- the first word names a command, and the others give its options
abbrev pub command_of : List (List ℕ) → Option Command
command_of [] = None
command_of (word ∷ words) =
    if bytes_eq word (codes "run") then option_map command.Run (run_of words) else
    if bytes_eq word (codes "steps") then option_map command.Steps (steps_of words) else
    None
