-- What a line asks for, read over its JSON tree.
use Rattle.std.specs.Prelude.{◌≡◌, ℕ, ℤ, pos, negsuc, nat_le, List, [], ◌∷◌, Bool, true, false, not, ◌&&◌, Option, Some, None, option_map, option_and_then, Result, Ok, Err, if◌then◌else◌, codes, ⊤}
use Rattle.std.specs.List.{list_all}
use Rattle.std.specs.Str.{bytes_eq}
use Rattle.a1_json.specs.declared.tree.Json.{Json}
use Rattle.a1_json.specs.declared.tree.JsonFault.{JsonFault}
use Rattle.a1_json.specs.declared.tree.JsonFault.TheVariants as json_fault
use Rattle.a1_json.specs.Tree.{json_of}
use Rattle.a1_json.specs.Fields.{Fields, member_of, as_members, as_list, fields_or_none, items_or_none, fields_in, items_in, as_text, as_int, as_flag}
use Rattle.a1_base.specs.declared.limits.TheConstants.{SESSION_LIMIT}
use Rattle.a1_value.specs.declared.given.Given.{Given}
use Rattle.type_schema.specs.declared.names.GraphName.{GraphName}
use Rattle.type_schema.specs.declared.rows.TypeSchema.{TypeSchema}
use Rattle.type_schema.specs.declared.rows.TypeSchema.TheVariants.{OfVertices, OfEdges}
use Rattle.type_schema.specs.declared.schema.Attr.{Attr}
use Rattle.type_schema.specs.declared.schema.Kind.{Kind}
use Rattle.type_schema.specs.declared.schema.Kind.TheVariants as kind
use Rattle.type_schema.specs.Names.{Name, graph_whole}
use Rattle.type_schema.specs.Refusals.{need, passing, unless}
use Rattle.type_schema.specs.Schemas.{Schema, Members}
use Rattle.type_schema.specs.Formed.{is_type}
use Rattle.a1ql_reader.specs.Pattern.{PatternWord, Shape, Name as NoName, pattern_of}
use Rattle.a1ql_reader.specs.Values.{given_of}
use Rattle.request_reader.specs.declared.forms.Verb.{Verb}
use Rattle.request_reader.specs.declared.forms.Verb.TheVariants as verb
use Rattle.request_reader.specs.declared.operation.End.{End}
use Rattle.request_reader.specs.declared.operation.Op.{Op}
use Rattle.request_reader.specs.declared.operation.Op.TheVariants as op
use Rattle.request_reader.specs.declared.request.Request.{Request}
use Rattle.request_reader.specs.declared.request.Request.TheVariants.{Do, Ask as Asks, After}
use Rattle.request_reader.specs.declared.request.BadWord.{BadWord}
use Rattle.request_reader.specs.declared.request.BadWord.TheVariants as bad
use Rattle.request_reader.specs.declared.request.RequestFault.{RequestFault}
use Rattle.request_reader.specs.declared.request.RequestFault.TheVariants as fault
use Rattle.request_reader.specs.Forms.{verb_of, body_fits, body_named}

-- ---- form

-- an operation's name with what stands there, where the object has one member
abbrev pub only_member : Fields → Option (List ℕ × Json)
only_member [] = None
only_member (m ∷ []) = Some m
only_member (m ∷ n ∷ fields) = None

-- an operation with its object
abbrev pub of_verb : List ℕ × Json → Option (Verb × Json)
of_verb m = option_map (λ v. (v, m.1)) (verb_of m.0)

unfoldable pub operation : Json → Option (Verb × Json)
operation json = option_and_then of_verb (only_member (fields_in json))

abbrev pub operation_fits : Option (Verb × Json) → Bool
operation_fits None = false
operation_fits (Some o) = body_fits o.0 o.1

abbrev pub operation_named : Option (Verb × Json) → Bool
operation_named None = false
operation_named (Some o) = body_named o.0 o.1

abbrev pub items_named : List ℕ → Option (List ℕ × Json) → List Json
items_named name None = []
items_named name (Some m) = if bytes_eq m.0 name then items_in m.1 else []

-- the items of an object whose one member is a list of this name, or none
unfoldable pub listed : List ℕ → Json → List Json
listed name json = items_named name (only_member (fields_in json))

-- the operations of `{"do":[..]}`
abbrev pub operations : Json → List Json
operations json = listed (codes "do") json

abbrev pub is_some_list : List Json → Bool
is_some_list [] = false
is_some_list (j ∷ js) = true

-- ---- what an operation says: that each part is there was looked at before

-- what is read in each of some values, or the first fault
abbrev pub each_of : {X : Type 0} → (Json → Result X BadWord) → List Json → Result (List X) BadWord
each_of read [] = Ok []
each_of read (j ∷ js) = passing (read j) (λ x. passing (each_of read js) (λ xs. Ok (x ∷ xs)))

abbrev pub text_in : List ℕ → Fields → Result (List ℕ) BadWord
text_in name fields = need (option_and_then as_text (member_of name fields)) bad.Attrs Ok

abbrev pub graph_in : List ℕ → Fields → Result GraphName BadWord
graph_in name fields =
    need (option_and_then graph_whole (option_and_then as_text (member_of name fields))) bad.Attrs Ok

abbrev pub number_in : List ℕ → Fields → Result ℤ BadWord
number_in name fields = need (option_and_then as_int (member_of name fields)) bad.Attrs Ok

abbrev pub given_in : List ℕ → Fields → Result Given BadWord
given_in name fields = need (option_and_then given_of (member_of name fields)) bad.Attrs Ok

abbrev pub given_before : Name → Option Given → Members → Members
given_before name None members = members
given_before name (Some g) members = (name, g) ∷ members

-- the members that are numbers or texts
abbrev pub given_members : Fields → Members
given_members [] = []
given_members (m ∷ fields) = given_before m.0 (given_of m.1) (given_members fields)

-- the members of the object at this name, or none where nothing is there
abbrev pub fields_at : List ℕ → Fields → Fields
fields_at name fields = fields_or_none (option_and_then as_members (member_of name fields))

abbrev pub values_in : List ℕ → Fields → Members
values_in name fields = given_members (fields_at name fields)

abbrev pub end_of : Fields → Result End BadWord
end_of fields =
    passing (text_in (codes "type") fields) (λ kind.
    passing (given_in (codes "id") fields) (λ id.
    Ok (record { kind = kind; id = id })))

unfoldable pub end_in : List ℕ → Fields → Result End BadWord
end_in name fields = end_of (fields_at name fields)

-- ---- attributes

-- `int`, `text` or `bytes`
abbrev pub kind_named : List ℕ → Option Kind
kind_named text =
    if bytes_eq text (codes "int") then Some kind.Int
    else if bytes_eq text (codes "text") then Some kind.Text
    else if bytes_eq text (codes "bytes") then Some kind.Bytes
    else None

-- the flag, which is false where it is absent
abbrev pub is_indexed : Option Bool → Bool
is_indexed None = false
is_indexed (Some flag) = flag

unfoldable pub attr_of : Fields → Result Attr BadWord
attr_of fields =
    passing (text_in (codes "name") fields) (λ name.
    need (option_and_then kind_named (option_and_then as_text (member_of (codes "kind") fields))) bad.Attrs (λ kind.
    Ok (record {
      name = name;
      kind = kind;
      index = is_indexed (option_and_then as_flag (member_of (codes "index") fields));
    })))

abbrev pub attrs_of : List Json → Result Schema BadWord
attrs_of js = each_of (λ j. attr_of (fields_in j)) js

-- the schema, where it obeys the rule of its kind of type
abbrev pub ruled : TypeSchema → Result TypeSchema BadWord
ruled schema = unless (not (is_type schema)) bad.Attrs (Ok schema)

unfoldable pub attrs_in : List ℕ → Fields → Result Schema BadWord
attrs_in name fields = attrs_of (items_or_none (option_and_then as_list (member_of name fields)))

-- ---- operations

-- a new type: its schema as what it is of
abbrev pub type_of : (Schema → TypeSchema) → Fields → Result Op BadWord
type_of of fields =
    passing (graph_in (codes "graph") fields) (λ graph.
    passing (text_in (codes "type") fields) (λ name.
    passing (attrs_in (codes "attrs") fields) (λ attrs.
    passing (ruled (of attrs)) (λ schema.
    Ok (op.CreateType graph name schema)))))

abbrev pub text_of : Json → Result (List ℕ) BadWord
text_of json = need (as_text json) bad.Attrs Ok

abbrev pub graph_of : Json → Result GraphName BadWord
graph_of json = need (option_and_then graph_whole (as_text json)) bad.Attrs Ok

-- the graph and the type that an operation names, and the rest of it
abbrev pub of_kind : Fields → (GraphName → Name → Result Op BadWord) → Result Op BadWord
of_kind fields rest =
    passing (graph_in (codes "graph") fields) (λ graph. passing (text_in (codes "type") fields) (λ kind. rest graph kind))

abbrev pub with_id : Fields → (Given → Result Op BadWord) → Result Op BadWord
with_id fields rest = passing (given_in (codes "id") fields) rest

abbrev pub with_ends : Fields → (End → End → Result Op BadWord) → Result Op BadWord
with_ends fields rest = passing (end_in (codes "from") fields) (λ from. passing (end_in (codes "to") fields) (λ to. rest from to))

-- what the operation of this name says
unfoldable pub said : Verb → Json → Result Op BadWord
said verb.CreateTenant json = passing (text_of json) (λ name. Ok (op.CreateTenant name))
said verb.CreateGraph json = passing (graph_of json) (λ graph. Ok (op.CreateGraph graph))
said verb.DropGraph json = passing (graph_of json) (λ graph. Ok (op.DropGraph graph))
said verb.CreateVertexType json = type_of OfVertices (fields_in json)
said verb.CreateEdgeType json = type_of OfEdges (fields_in json)
said verb.Put json = of_kind (fields_in json) (λ graph kind. Ok (op.Put graph kind (values_in (codes "v") (fields_in json))))
said verb.Set json = of_kind (fields_in json) (λ graph kind.
    with_id (fields_in json) (λ id. Ok (op.Set graph kind id (values_in (codes "v") (fields_in json)))))
said verb.Add json = of_kind (fields_in json) (λ graph kind.
    with_id (fields_in json) (λ id.
    passing (text_in (codes "attr") (fields_in json)) (λ attr.
    passing (number_in (codes "by") (fields_in json)) (λ by.
    Ok (op.Add graph kind id attr by)))))
said verb.Drop json = of_kind (fields_in json) (λ graph kind. with_id (fields_in json) (λ id. Ok (op.Drop graph kind id)))
said verb.Link json = of_kind (fields_in json) (λ graph kind.
    with_ends (fields_in json) (λ from to. Ok (op.Link graph kind from to (values_in (codes "v") (fields_in json)))))
said verb.Unlink json = of_kind (fields_in json) (λ graph kind.
    with_ends (fields_in json) (λ from to. Ok (op.Unlink graph kind from to)))

abbrev pub said_by : Option (Verb × Json) → Result Op BadWord
said_by None = Err bad.Attrs
said_by (Some o) = said o.0 o.1

abbrev pub all_said : List Json → Result (List Op) BadWord
all_said js = each_of (λ j. said_by (operation j)) js

-- ---- requests

-- `{"do":[..]}`: over all operations first their form, then their names, then their lists of attributes
unfoldable pub do_of : Json → Result Request BadWord
do_of json =
    unless (not (is_some_list (operations json) && list_all (λ j. operation_fits (operation j)) (operations json))) bad.Shape
    (unless (not (list_all (λ j. operation_named (operation j)) (operations json))) bad.Name
    (passing (all_said (operations json)) (λ ops. Ok (Do ops))))

-- the word of a pattern's fault
abbrev pub worded : {X : Type 0} → Result X PatternWord → Result X BadWord
worded (Ok x) = Ok x
worded (Err Shape) = Err bad.Shape
worded (Err NoName) = Err bad.Name

-- `{"ask":PATTERN,"graph":G}`: over both first the shape, then the names
unfoldable pub ask_of : Json → Json → Result Request BadWord
ask_of pattern graph =
    need (as_text graph) bad.Shape (λ text.
    passing (worded (pattern_of pattern)) (λ pattern.
    need (graph_whole text) bad.Name (λ graph.
    Ok (Asks (record { graph = graph; pattern = pattern })))))

-- what stands at `ask` and at `graph`, where these are all members
abbrev pub asked : Fields → Option (Json × Json)
asked (a ∷ b ∷ []) = if bytes_eq a.0 (codes "ask") && bytes_eq b.0 (codes "graph") then Some (a.1, b.1) else None
asked fields = None

-- the number, where it is one from 1 to the limit
abbrev pub counted : ℕ → ℤ → Option ℕ
counted limit (pos n) = if nat_le 1 n && nat_le n limit then Some n else None
counted limit (negsuc n) = None

abbrev pub counted_in : ℕ → Json → Option ℕ
counted_in limit json = option_and_then (counted limit) (as_int json)

-- a session and a line
abbrev pub line_in : List Json → Option (ℕ × ℕ)
line_in (s ∷ k ∷ []) =
    option_and_then (λ session. option_map (λ line. (session, line)) (counted_in 4294967295 k)) (counted_in SESSION_LIMIT s)
line_in js = None

abbrev pub ask_or_do : Option (Json × Json) → Json → Result Request BadWord
ask_or_do (Some a) json = ask_of a.0 a.1
ask_or_do None json = do_of json

abbrev pub after_or : Option (ℕ × ℕ) → Result Request BadWord → Result Request BadWord
after_or (Some l) other = Ok (After l.0 l.1)
after_or None other = other

-- `{"after":[S,K]}`, an ask, or else a `do`, which turns away what is none of them
abbrev pub request_in : Result Json JsonFault → Result Request BadWord
request_in (Ok json) = after_or (line_in (listed (codes "after") json)) (ask_or_do (asked (fields_in json)) json)
request_in (Err json_fault.NotJson) = Err bad.NotJson
request_in (Err json_fault.NotWhole) = Err bad.NotWhole
request_in (Err json_fault.Memory) = Err bad.NotJson

-- what a line asks for, or the word by which it is turned away
unfoldable pub request_of : List ℕ → Result Request BadWord
request_of line = request_in (json_of line)

abbrev pub line_named : Result Request BadWord → Option (ℕ × ℕ)
line_named (Ok (After session line)) = Some (session, line)
line_named read = None

-- the session and the line that a line names, where it reads as an `after`
unfoldable pub names_line : List ℕ → Option (ℕ × ℕ)
names_line line = line_named (request_of line)

-- a reading gives this, or wants memory
abbrev pub Reads : {X : Type 0} → Result X RequestFault → Result X BadWord → Type 0
Reads (Ok x) wanted = wanted ≡ Ok x
Reads (Err (fault.Bad word)) wanted = wanted ≡ Err word
Reads (Err fault.Memory) wanted = ⊤
