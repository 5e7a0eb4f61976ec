-- What the form of a schema says of its attributes.
use Rattle.std.proofs.Common.{◌≡◌, ℕ, zero, suc, ◌<◌, true, List, [], ◌∷◌, length, get_or, arith, nat_le, nat_eq, inl, inr}
use Rattle.std.specs.Prelude.{◌||◌, ◌⊎◌, IsTrue}
use Rattle.std.specs.List.{list_all}
use Rattle.std.proofs.lemmas.Bool.{and_parts, and_from, or_cases, or_left, leb-true, eqb-true}
use Rattle.std.specs.Str.{IsAscii, is_utf8}
use Rattle.std.proofs.lemmas.Str.{IsUtf8-from_ascii, is_utf8-from_IsUtf8}
use Rattle.a1_base.specs.declared.limits.TheConstants.{ATTRIBUTE_LIMIT, NAME_LIMIT}
use Rattle.type_schema.specs.declared.schema.Attr.{Attr}
use Rattle.type_schema.specs.Names.{Name, is_letter, is_digit, is_name_byte, is_name}
use Rattle.type_schema.specs.declared.rows.TypeSchema.TheVariants.{OfVertices, OfEdges}
use Rattle.type_schema.specs.Formed.{is_list, is_vertex_list, is_edge_list, is_type}

pub few_attributes : (schema : List Attr) → IsTrue (is_list schema) → length schema < 256
unfolding is_list
few_attributes schema h = let few = leb-true (length schema) ATTRIBUTE_LIMIT (and_parts _ _ h).0 in omega (arith, few)

-- a name has its length in a byte
pub short : (name : Name) → is_name name ≡ true → length name < 256
unfolding is_name
short [] h = omega arith
short (b ∷ name) h =
    let rest = and_parts (is_letter b) _ h in
    let few = leb-true (length (b ∷ name)) NAME_LIMIT (and_parts (list_all is_name_byte name) _ rest.1).1 in
    omega (arith, few)

each_short : (schema : List Attr) (i : ℕ) (d : Attr) → list_all (λ a. is_name a.name) schema ≡ true → i < length schema → length (get_or schema i d).name < 256
each_short [] i d h lt = absurd (omega arith)
each_short (a ∷ schema) zero d h lt = short a.name (and_parts _ _ h).0
each_short (a ∷ schema) (suc i) d h lt = each_short schema i d (and_parts (is_name a.name) _ h).1 (omega arith)

-- the name of each attribute has its length in a byte
pub short_name : (schema : List Attr) (i : ℕ) (d : Attr) → IsTrue (is_list schema) → i < length schema → length (get_or schema i d).name < 256
unfolding is_list
short_name schema i d h lt = each_short schema i d (and_parts _ _ (and_parts _ _ h).1).0 lt

-- ---- a name is a text

name_byte_low : (b : ℕ) → is_name_byte b ≡ true → b < 128
name_byte_low b h = by (or_cases (is_letter b) _ h) where
  rest : (is_letter b ≡ true → b < 128) → (is_digit b || (nat_eq b 95 || nat_eq b 46)) ≡ true → b < 128
  rest done e =
      elim (or_cases (is_digit b) _ e) [
        | inl d ↦ let k = leb-true b 57 (and_parts (nat_le 48 b) _ d).1 in omega (arith, k)
        | inr m ↦ elim (or_cases (nat_eq b 95) _ m) [
          | inl u ↦ let k = eqb-true b 95 u in omega (arith, k)
          | inr p ↦ let k = eqb-true b 46 p in omega (arith, k)
        ]
      ]

  letter : is_letter b ≡ true → b < 128
  letter d = let k = leb-true b 122 (and_parts (nat_le 97 b) _ d).1 in omega (arith, k)

  by : (is_letter b ≡ true) ⊎ ((is_digit b || (nat_eq b 95 || nat_eq b 46)) ≡ true) → b < 128
  by (inl d) = letter d
  by (inr e) = rest letter e

all_low : (bytes : List ℕ) → list_all is_name_byte bytes ≡ true → IsAscii bytes
all_low [] h i = omega arith
all_low (b ∷ bytes) h zero = name_byte_low b (and_parts _ _ h).0
all_low (b ∷ bytes) h (suc i) = all_low bytes (and_parts (is_name_byte b) _ h).1 i

letter_first : (b : ℕ) → is_letter b ≡ true → is_name_byte b ≡ true
letter_first b h = or_left (is_letter b) _ h

pub name_is_text : (name : Name) → is_name name ≡ true → is_utf8 name ≡ true
unfolding is_name
name_is_text [] h = is_utf8-from_IsUtf8 [] (IsUtf8-from_ascii [] (λ i. omega arith))
name_is_text (b ∷ name) h =
    let parts = and_parts (is_letter b) _ h in
    let low : IsAscii (b ∷ name) = all_low (b ∷ name) (and_from _ _ (letter_first b parts.0) (and_parts _ _ parts.1).0) in
    is_utf8-from_IsUtf8 (b ∷ name) (IsUtf8-from_ascii (b ∷ name) low)

-- ---- the schema of a type

pub list_of_vertices : (schema : List Attr) → IsTrue (is_type (OfVertices schema)) → IsTrue (is_list schema)
unfolding is_type
list_of_vertices schema h = (and_parts (is_vertex_list schema) _ h).1

pub list_of_edges : (schema : List Attr) → IsTrue (is_type (OfEdges schema)) → IsTrue (is_list schema)
unfolding is_type
list_of_edges schema h = (and_parts (is_edge_list schema) _ h).1

-- what the writer of a type cites
pub ruleset lists = (list_of_vertices, list_of_edges)
