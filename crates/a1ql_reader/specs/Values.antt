-- What the values in a pattern say, apart from the patterns inside it.
use Rattle.std.specs.Prelude.{ℕ, ℤ, List, [], ◌∷◌, ◌++◌, Bool, false, Option, Some, None, option_map, if◌then◌else◌, codes}
use Rattle.std.specs.Str.{bytes_eq}
use Rattle.a1_json.specs.declared.tree.Json.{Json}
use Rattle.a1_json.specs.Fields.{Fields, fields_in, items_in, as_text, as_int}
use Rattle.a1_value.specs.declared.given.Given.{Given}
use Rattle.a1_value.specs.declared.given.Given.TheVariants as given
use Rattle.a1ql_reader.specs.declared.patterns.Comparison.{Comparison}
use Rattle.a1ql_reader.specs.declared.patterns.Comparison.TheVariants.{Eq}
use Rattle.a1ql_reader.specs.declared.patterns.Test.{Test}
use Rattle.a1ql_reader.specs.declared.patterns.Select.{Select}
use Rattle.a1ql_reader.specs.declared.patterns.Select.TheVariants.{All, Count, Names}
use Rattle.a1ql_reader.specs.Places.{comparison_named, is_reserved}

-- ---- comparisons

abbrev pub number_or_text : Option ℤ → Option (List ℕ) → Option Given
number_or_text (Some n) text = Some (given.Int n)
number_or_text None text = option_map given.Text text

-- a number or a text, as it is given
abbrev pub given_of : Json → Option Given
given_of json = number_or_text (as_int json) (as_text json)

-- a comparison, where there is one, and then the others
abbrev pub test_before : List ℕ → Option Comparison → Option Given → List Test → List Test
test_before attr (Some op) (Some value) tests = record { attr = attr; op = op; value = value } ∷ tests
test_before attr op value tests = tests

-- the comparisons of an attribute with the members of an object
abbrev pub compared : List ℕ → Fields → List Test
compared attr [] = []
compared attr (m ∷ fields) = test_before attr (comparison_named m.0) (given_of m.1) (compared attr fields)

abbrev pub one_or : List ℕ → Option Given → List Test → List Test
one_or attr None tests = tests
one_or attr (Some value) tests = record { attr = attr; op = Eq; value = value } ∷ []

-- a number or text stands for `{"_eq":..}`
abbrev pub tests_at : List ℕ → Json → List Test
tests_at attr json = one_or attr (given_of json) (compared attr (fields_in json))

-- the comparisons of a pattern: of each member whose name does not begin with `_`
abbrev pub tests_in : Fields → List Test
tests_in [] = []
tests_in (m ∷ fields) = (if is_reserved m.0 then [] else tests_at m.0 m.1) ++ tests_in fields

-- ---- what is selected

abbrev pub text_before : Option (List ℕ) → List (List ℕ) → List (List ℕ)
text_before None texts = texts
text_before (Some text) texts = text ∷ texts

-- the items that are texts
abbrev pub texts_of : List Json → List (List ℕ)
texts_of [] = []
texts_of (j ∷ js) = text_before (as_text j) (texts_of js)

abbrev pub is_count_text : Option (List ℕ) → Bool
is_count_text None = false
is_count_text (Some text) = bytes_eq text (codes "_count(*)")

-- `["_count(*)"]`
abbrev pub is_count : List Json → Bool
is_count (j ∷ []) = is_count_text (as_text j)
is_count js = false

abbrev pub selected : List Json → Select
selected js = if is_count js then Count else Names (texts_of js)

-- the whole record, where nothing is said
abbrev pub select_in : Option Json → Select
select_in None = All
select_in (Some json) = selected (items_in json)
