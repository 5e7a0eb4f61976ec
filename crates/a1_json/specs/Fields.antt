-- Looking into a tree.
use Rattle.std.specs.Prelude.{ℕ, ℤ, List, [], ◌∷◌, Bool, Option, Some, None, if◌then◌else◌}
use Rattle.std.specs.Str.{bytes_eq}
use Rattle.a1_json.specs.declared.tree.Json.{Json, out-Json}
use Rattle.a1_json.specs.declared.tree.Json.TheOpen.{Json-F}

-- the members of an object, by the bytes of their names
abbrev pub Fields : Type 0
Fields = List (List ℕ × Json)

-- the value of the first member of this name
abbrev pub member_of : List ℕ → Fields → Option Json
member_of name [] = None
member_of name (m ∷ ms) = if bytes_eq m.0 name then Some m.1 else member_of name ms

abbrev pub members_at : Json-F Json → Option Fields
members_at Json-F.Null = None
members_at (Json-F.Bool b) = None
members_at (Json-F.Int z) = None
members_at (Json-F.Text s) = None
members_at (Json-F.List js) = None
members_at (Json-F.Members ms) = Some ms

-- the members, where it is an object
abbrev pub as_members : Json → Option Fields
as_members json = members_at (out-Json json)

abbrev pub list_at : Json-F Json → Option (List Json)
list_at Json-F.Null = None
list_at (Json-F.Bool b) = None
list_at (Json-F.Int z) = None
list_at (Json-F.Text s) = None
list_at (Json-F.List js) = Some js
list_at (Json-F.Members ms) = None

-- the items, where it is a list
abbrev pub as_list : Json → Option (List Json)
as_list json = list_at (out-Json json)

abbrev pub fields_or_none : Option Fields → Fields
fields_or_none None = []
fields_or_none (Some fields) = fields

-- its members, or none where it is no object
abbrev pub fields_in : Json → Fields
fields_in json = fields_or_none (as_members json)

abbrev pub items_or_none : Option (List Json) → List Json
items_or_none None = []
items_or_none (Some items) = items

-- its items, or none where it is no list
abbrev pub items_in : Json → List Json
items_in json = items_or_none (as_list json)

abbrev pub text_at : Json-F Json → Option (List ℕ)
text_at Json-F.Null = None
text_at (Json-F.Bool b) = None
text_at (Json-F.Int z) = None
text_at (Json-F.Text s) = Some s
text_at (Json-F.List js) = None
text_at (Json-F.Members ms) = None

-- the text, where it is one
abbrev pub as_text : Json → Option (List ℕ)
as_text json = text_at (out-Json json)

abbrev pub int_at : Json-F Json → Option ℤ
int_at Json-F.Null = None
int_at (Json-F.Bool b) = None
int_at (Json-F.Int z) = Some z
int_at (Json-F.Text s) = None
int_at (Json-F.List js) = None
int_at (Json-F.Members ms) = None

-- the number, where it is one
abbrev pub as_int : Json → Option ℤ
as_int json = int_at (out-Json json)

abbrev pub flag_at : Json-F Json → Option Bool
flag_at Json-F.Null = None
flag_at (Json-F.Bool b) = Some b
flag_at (Json-F.Int z) = None
flag_at (Json-F.Text s) = None
flag_at (Json-F.List js) = None
flag_at (Json-F.Members ms) = None

-- the truth value, where it is one
abbrev pub as_flag : Json → Option Bool
as_flag json = flag_at (out-Json json)
