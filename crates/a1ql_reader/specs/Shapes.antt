-- The shape of a pattern.
use Rattle.std.specs.Prelude.{ℕ, List, [], ◌∷◌, length, Bool, true, false, not, ◌&&◌, ◌||◌, nat_le, Option, Some, None, is_some, codes}
use Rattle.std.specs.List.{list_all, list_any}
use Rattle.std.specs.Str.{bytes_eq}
use Rattle.a1_json.specs.declared.tree.Json.{Json}
use Rattle.a1_json.specs.declared.tree.Json.TheOpen.{Json-F}
use Rattle.a1_json.specs.Fields.{Fields, fields_in, items_in, as_text}
use Rattle.a1ql_reader.specs.declared.places.Place.{Place}
use Rattle.a1ql_reader.specs.declared.places.Place.TheVariants as at
use Rattle.a1ql_reader.specs.declared.places.TheConstants.{SELECT_LIMIT}
use Rattle.a1ql_reader.specs.Places.{place_of}
use Rattle.a1ql_reader.specs.Walk.{Parts, walk}

-- ---- a list of different texts

abbrev pub same_text : Option (List ℕ) → Option (List ℕ) → Bool
same_text (Some one) (Some two) = bytes_eq one two
same_text one two = false

-- no text stands twice
abbrev pub differ : List Json → Bool
differ [] = true
differ (j ∷ js) = not (list_any (λ k. same_text (as_text k) (as_text j)) js) && differ js

abbrev pub is_empty : {X : Type 0} → List X → Bool
is_empty [] = true
is_empty (x ∷ xs) = false

-- 1 to `SELECT_LIMIT` different texts
abbrev pub are_selected : List Json → Bool
are_selected js =
    not (is_empty js) && (nat_le (length js) SELECT_LIMIT && (list_all (λ j. is_some (as_text j)) js && differ js))

-- ---- which members are there

abbrev pub has : List ℕ → Fields → Bool
has name fields = list_any (λ m. bytes_eq m.0 name) fields

abbrev pub is_one : {X : Type 0} → List X → Bool
is_one (x ∷ []) = true
is_one xs = false

-- a type; of two hops and what is selected at most one
abbrev pub is_vertex : Fields → Bool
is_vertex fields =
    has (codes "_type") fields
    && (not (has (codes "_out_edge") fields && has (codes "_in_edge") fields)
    && not (has (codes "_select") fields && (has (codes "_out_edge") fields || has (codes "_in_edge") fields)))

abbrev pub is_edge : Fields → Bool
is_edge fields = has (codes "_type") fields && has (codes "_vertex") fields

-- what an object at this place must have is there, and nothing beside that excludes it
abbrev pub is_complete : Place → Fields → Bool
is_complete (at.Vertex inside) fields = is_vertex fields
is_complete (at.Edge inside) fields = is_edge fields
is_complete at.Entry fields = is_one fields
is_complete at.Compared fields = not (is_empty fields)
is_complete at.Matches fields = false
is_complete at.Kind fields = false
is_complete at.Operand fields = false
is_complete at.Selected fields = false

-- ---- the whole tree

-- whether a value fits a place
abbrev pub Fits : Type 0
Fits = Place → Bool

abbrev pub is_operand : Place → Bool
is_operand at.Compared = true
is_operand at.Operand = true
is_operand place = false

abbrev pub is_text_place : Place → Bool
is_text_place at.Kind = true
is_text_place place = is_operand place

abbrev pub list_fits : Place → List Json → List Fits → Bool
list_fits at.Matches js inner = not (is_empty inner) && list_all (λ fits. fits at.Entry) inner
list_fits at.Selected js inner = are_selected js
list_fits place js inner = false

-- a member that an object at the place has, and its value fits there
abbrev pub member_fits : Option Place → Fits → Bool
member_fits None fits = false
member_fits (Some place) fits = fits place

abbrev pub members_fit : Place → Parts Fits → Bool
members_fit place inner = list_all (λ m. member_fits (place_of place m.0) m.1) inner

abbrev pub object_fits : Place → Fields → Parts Fits → Bool
object_fits place fields inner = is_complete place fields && members_fit place inner

abbrev pub fits_step : Json → Json-F Fits → Fits
fits_step json Json-F.Null place = false
fits_step json (Json-F.Bool b) place = false
fits_step json (Json-F.Int n) place = is_operand place
fits_step json (Json-F.Text t) place = is_text_place place
fits_step json (Json-F.List inner) place = list_fits place (items_in json) inner
fits_step json (Json-F.Members inner) place = object_fits place (fields_in json) inner

-- the value fits the place
abbrev pub fits : Json → Fits
fits = walk fits_step

-- the tree has the shape of a pattern
abbrev pub has_shape : Json → Bool
has_shape json = fits json (at.Vertex false)
