-- The form of a request's objects, and of the names in them.
use Rattle.std.specs.Prelude.{ℕ, List, [], ◌∷◌, map, Bool, true, false, not, ◌&&◌, ◌||◌, Option, Some, None, is_some, option_and_then, if◌then◌else◌}
use Rattle.std.specs.List.{list_all, list_any}
use Rattle.std.specs.Str.{bytes_eq}
use Rattle.std.specs.Borrow.{Bor}
use Rattle.a1_json.specs.declared.tree.Json.{Json}
use Rattle.a1_json.specs.Fields.{Fields, member_of, as_members, as_list, fields_in, items_in, as_text, as_int, as_flag}
use Rattle.type_schema.specs.Names.{is_name, graph_whole}
use Rattle.request_reader.specs.declared.forms.Place.{Place}
use Rattle.request_reader.specs.declared.forms.Place.TheVariants as place
use Rattle.request_reader.specs.declared.forms.Verb.{Verb}
use Rattle.request_reader.specs.declared.forms.Verb.TheVariants as verb
use Rattle.request_reader.specs.declared.forms.TheConstants.{VERBS, TYPE, PUT, SET, ADD, DROP, LINK, UNLINK, END, ATTRIBUTE}

-- ---- the tables of `src/forms.rt`

-- members: the name of each, what stands there, and whether it must be there
abbrev pub Form : Type 0
Form = List (List ℕ × Place × Bool)

-- the form that a slice of a table spells
abbrev pub form_in : List (Bor (List ℕ) × Place × Bool) → Form
form_in members = map (λ m. (m.0.now, m.1, m.2)) members

abbrev pub verb_in : List (List ℕ × Verb) → List ℕ → Option Verb
verb_in [] name = None
verb_in (v ∷ verbs) name = if bytes_eq v.0 name then Some v.1 else verb_in verbs name

-- the operation of this name
unfoldable pub verb_of : List ℕ → Option Verb
verb_of name = verb_in (map (λ v. (v.0.now, v.1)) VERBS.now) name

abbrev pub end_form : Form
end_form = map (λ m. (m.0.now, m.1, m.2)) END.now

abbrev pub attribute_form : Form
attribute_form = map (λ m. (m.0.now, m.1, m.2)) ATTRIBUTE.now

-- the form of an operation's object; the first three have none
abbrev pub form_of : Verb → Form
form_of verb.CreateTenant = []
form_of verb.CreateGraph = []
form_of verb.DropGraph = []
form_of verb.CreateVertexType = map (λ m. (m.0.now, m.1, m.2)) TYPE.now
form_of verb.CreateEdgeType = map (λ m. (m.0.now, m.1, m.2)) TYPE.now
form_of verb.Put = map (λ m. (m.0.now, m.1, m.2)) PUT.now
form_of verb.Set = map (λ m. (m.0.now, m.1, m.2)) SET.now
form_of verb.Add = map (λ m. (m.0.now, m.1, m.2)) ADD.now
form_of verb.Drop = map (λ m. (m.0.now, m.1, m.2)) DROP.now
form_of verb.Link = map (λ m. (m.0.now, m.1, m.2)) LINK.now
form_of verb.Unlink = map (λ m. (m.0.now, m.1, m.2)) UNLINK.now

-- ---- shape

-- a number or a text
abbrev pub is_given : Json → Bool
is_given json = is_some (as_int json) || is_some (as_text json)

-- it is of the place's JSON kind; the objects in an end or in attributes are looked at apart
abbrev pub fits : Place → Json → Bool
fits place.Name json = is_some (as_text json)
fits place.Graph json = is_some (as_text json)
fits place.Text json = is_some (as_text json)
fits place.Key json = is_given json
fits place.Number json = is_some (as_int json)
fits place.Flag json = is_some (as_flag json)
fits place.Values json = is_some (as_members json) && list_all (λ m. is_given m.1) (fields_in json)
fits place.End json = is_some (as_members json)
fits place.Attributes json = is_some (as_list json)

-- what must be there is there, and what is there fits
abbrev pub member_fits : Place → Bool → Option Json → Bool
member_fits place must None = not must
member_fits place must (Some json) = fits place json

abbrev pub members_fit : Form → Fields → Bool
members_fit form fields = list_all (λ m. member_fits m.1 m.2 (member_of m.0 fields)) form

abbrev pub is_known : Form → List ℕ → Bool
is_known form name = list_any (λ m. bytes_eq m.0 name) form

-- an object of the form's members, and no others
unfoldable pub has_form : Form → Json → Bool
has_form form json =
    is_some (as_members json)
    && (members_fit form (fields_in json) && list_all (λ m. is_known form m.0) (fields_in json))

-- an end has its form, and so has each attribute
abbrev pub part_fits : Place → Option Json → Bool
part_fits place.End (Some json) = has_form end_form json
part_fits place.Attributes (Some json) = list_all (has_form attribute_form) (items_in json)
part_fits place json = true

abbrev pub parts_fit : Form → Fields → Bool
parts_fit form fields = list_all (λ m. part_fits m.1 (member_of m.0 fields)) form

-- what stands at an operation's name has its form
unfoldable pub body_fits : Verb → Json → Bool
body_fits verb.CreateTenant json = fits place.Name json
body_fits verb.CreateGraph json = fits place.Graph json
body_fits verb.DropGraph json = fits place.Graph json
body_fits verb json =
    has_form (form_of verb) json && parts_fit (form_of verb) (fields_in json)

-- ---- names

abbrev pub text_is_name : Option (List ℕ) → Bool
text_is_name None = false
text_is_name (Some text) = is_name text

abbrev pub text_is_graph : Option (List ℕ) → Bool
text_is_graph text = is_some (option_and_then graph_whole text)

-- in the place of a name or of a graph stands one
abbrev pub is_named : Place → Option Json → Bool
is_named place.Name json = text_is_name (option_and_then as_text json)
is_named place.Graph json = text_is_graph (option_and_then as_text json)
is_named place json = true

abbrev pub members_named : Form → Fields → Bool
members_named form fields = list_all (λ m. is_named m.1 (member_of m.0 fields)) form

unfoldable pub all_named : Form → Json → Bool
all_named form json = members_named form (fields_in json)

-- the same within an end, and within each attribute
abbrev pub part_named : Place → Option Json → Bool
part_named place.End (Some json) = all_named end_form json
part_named place.Attributes (Some json) = list_all (all_named attribute_form) (items_in json)
part_named place json = true

abbrev pub parts_named : Form → Fields → Bool
parts_named form fields = list_all (λ m. part_named m.1 (member_of m.0 fields)) form

unfoldable pub body_named : Verb → Json → Bool
body_named verb.CreateTenant json = is_named place.Name (Some json)
body_named verb.CreateGraph json = is_named place.Graph (Some json)
body_named verb.DropGraph json = is_named place.Graph (Some json)
body_named verb json =
    all_named (form_of verb) json && parts_named (form_of verb) (fields_in json)
