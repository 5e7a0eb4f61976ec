-- The names in a pattern.
use Rattle.std.specs.Prelude.{ℕ, List, Bool, true, false, Option, Some, None}
use Rattle.std.specs.List.{list_all}
use Rattle.a1_json.specs.declared.tree.Json.{Json}
use Rattle.a1_json.specs.declared.tree.Json.TheOpen.{Json-F}
use Rattle.type_schema.specs.Names.{is_name}
use Rattle.a1ql_reader.specs.declared.places.Place.{Place}
use Rattle.a1ql_reader.specs.declared.places.Place.TheVariants as at
use Rattle.a1ql_reader.specs.Places.{place_of}
use Rattle.a1ql_reader.specs.Walk.{Parts, walk}

-- whether a value at a place has a name wherever a name is to stand
abbrev pub Named : Type 0
Named = Place → Bool

abbrev pub text_named : List ℕ → Place → Bool
text_named text at.Kind = is_name text
text_named text place = true

abbrev pub list_named : Place → List Named → Bool
list_named at.Matches inner = list_all (λ named. named at.Entry) inner
list_named place inner = true

abbrev pub member_named : Option Place → Named → Bool
member_named None named = true
member_named (Some place) named = named place

abbrev pub object_named : Place → Parts Named → Bool
object_named place inner = list_all (λ m. member_named (place_of place m.0) m.1) inner

abbrev pub named_step : Json → Json-F Named → Named
named_step json Json-F.Null place = true
named_step json (Json-F.Bool b) place = true
named_step json (Json-F.Int n) place = true
named_step json (Json-F.Text t) place = text_named t place
named_step json (Json-F.List inner) place = list_named place inner
named_step json (Json-F.Members inner) place = object_named place inner

abbrev pub named : Json → Named
named = walk named_step

-- each `_type` in the pattern is a name
abbrev pub has_names : Json → Bool
has_names json = named json (at.Vertex false)
