-- The pattern that a JSON tree stands for.
use Rattle.std.specs.Prelude.{◌≡◌, ℕ, List, [], ◌∷◌, Bool, not, Option, Some, None, Result, Ok, Err, if◌then◌else◌, codes, ⊤, option_and_then, is_ok, IsTrue}
use Rattle.std.specs.Str.{bytes_eq}
use Rattle.a1_json.specs.declared.tree.Json.{Json}
use Rattle.a1_json.specs.declared.tree.Json.TheOpen.{Json-F}
use Rattle.a1_json.specs.Fields.{Fields, fields_in, member_of, as_text}
use Rattle.type_schema.specs.Refusals.{need, passing, unless}
use Rattle.a1ql_reader.specs.declared.patterns.VertexPattern.{VertexPattern, roll-VertexPattern}
use Rattle.a1ql_reader.specs.declared.patterns.Hop.{Hop, roll-Hop}
use Rattle.a1ql_reader.specs.declared.patterns.PatternFault.{PatternFault}
use Rattle.a1ql_reader.specs.declared.patterns.PatternFault.TheVariants as fault
use Rattle.a1ql_reader.specs.Places.{direction}
use Rattle.a1ql_reader.specs.Walk.{Parts, walk}
use Rattle.a1ql_reader.specs.Shapes.{has_shape}
use Rattle.a1ql_reader.specs.Names.{has_names}
use Rattle.a1ql_reader.specs.Values.{tests_in, select_in}

-- why a tree is no pattern
pub data PatternWord : Type 0 where
  Shape Name : PatternWord

-- ---- what a value says: that each part is there was looked at before

-- what a value says in each place of a pattern
pub record Says : Type 0 where
  pub vertex : Result VertexPattern PatternWord
  pub edge : Bool → Result Hop PatternWord
  pub entry : Result Hop PatternWord
  pub matches : Result (List Hop) PatternWord

abbrev pub nowhere : Says
nowhere = record { vertex = Err Shape; edge = λ out. Err Shape; entry = Err Shape; matches = Err Shape }

abbrev pub kind_in : Fields → Result (List ℕ) PatternWord
kind_in fields = need (option_and_then as_text (member_of (codes "_type") fields)) Shape Ok

-- the entries of the first `_match`, or none
abbrev pub matches_in : Parts Says → Result (List Hop) PatternWord
matches_in [] = Ok []
matches_in (m ∷ parts) = if bytes_eq m.0 (codes "_match") then m.1.matches else matches_in parts

abbrev pub hop_or : Option Bool → Says → Result (Option Hop) PatternWord → Result (Option Hop) PatternWord
hop_or None says later = later
hop_or (Some out) says later = passing (says.edge out) (λ hop. Ok (Some hop))

-- the first hop, out or in
abbrev pub hop_in : Parts Says → Result (Option Hop) PatternWord
hop_in [] = Ok None
hop_in (m ∷ parts) = hop_or (direction m.0) m.1 (hop_in parts)

-- the vertex at the other end
abbrev pub end_in : Parts Says → Result VertexPattern PatternWord
end_in [] = Err Shape
end_in (m ∷ parts) = if bytes_eq m.0 (codes "_vertex") then m.1.vertex else end_in parts

unfoldable pub vertex_of : Fields → Parts Says → Result VertexPattern PatternWord
vertex_of fields parts =
    passing (kind_in fields) (λ kind.
    passing (matches_in parts) (λ matches.
    passing (hop_in parts) (λ hop.
    Ok (roll-VertexPattern (record {
      kind = kind;
      tests = tests_in fields;
      matches = matches;
      hop = hop;
      select = select_in (member_of (codes "_select") fields);
    })))))

unfoldable pub edge_of : Bool → Fields → Parts Says → Result Hop PatternWord
edge_of out fields parts =
    passing (kind_in fields) (λ kind.
    passing (end_in parts) (λ to.
    Ok (roll-Hop (record { out = out; kind = kind; tests = tests_in fields; to = to }))))

unfoldable pub entry_of : Parts Says → Result Hop PatternWord
entry_of parts = passing (hop_in parts) (λ hop. need hop Shape Ok)

abbrev pub hops_of : List Says → Result (List Hop) PatternWord
hops_of [] = Ok []
hops_of (says ∷ inner) = passing says.entry (λ hop. passing (hops_of inner) (λ hops. Ok (hop ∷ hops)))

abbrev pub says_step : Json → Json-F Says → Says
says_step json Json-F.Null = nowhere
says_step json (Json-F.Bool b) = nowhere
says_step json (Json-F.Int n) = nowhere
says_step json (Json-F.Text t) = nowhere
says_step json (Json-F.List inner) = record nowhere { matches = hops_of inner }
says_step json (Json-F.Members inner) = record nowhere {
  vertex = vertex_of (fields_in json) inner;
  edge = λ out. edge_of out (fields_in json) inner;
  entry = entry_of inner;
}

abbrev pub says : Json → Says
says = walk says_step

-- ---- patterns

-- the pattern of a tree, or the word by which it is turned away: over the whole tree first its shape, then its names
unfoldable pub pattern_of : Json → Result VertexPattern PatternWord
pattern_of json = unless (not (has_shape json)) Shape (unless (not (has_names json)) Name (says json).vertex)

-- a reading gives this, or wants memory
abbrev pub Reads : {X : Type 0} → Result X PatternFault → Result X PatternWord → Type 0
Reads (Ok x) wanted = wanted ≡ Ok x
Reads (Err fault.Shape) wanted = wanted ≡ Err Shape
Reads (Err fault.Name) wanted = wanted ≡ Err Name
Reads (Err fault.Memory) wanted = ⊤

-- a tree of the right shape whose names are names has a pattern
abbrev pub PatternLaw : Type 0
PatternLaw = (json : Json) → IsTrue (has_shape json) → IsTrue (has_names json) → IsTrue (is_ok (pattern_of json))
