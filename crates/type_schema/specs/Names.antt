-- Names, and what they name.
use Rattle.std.specs.Prelude.{ℕ, List, [], ◌∷◌, length, Bool, false, ◌&&◌, ◌||◌, nat_le, nat_eq, ◌==◌, if◌then◌else◌, Option, Some, None, option_map, option_and_then}
use Rattle.std.specs.List.{list_all}
use Rattle.a1_base.specs.declared.limits.TheConstants.{NAME_LIMIT}
use Rattle.type_schema.specs.declared.names.GraphName.{GraphName}

-- the bytes of a name
abbrev pub Name : Type 0
Name = List ℕ

abbrev pub is_letter : ℕ → Bool
is_letter b = nat_le 97 b && nat_le b 122

abbrev pub is_digit : ℕ → Bool
is_digit b = nat_le 48 b && nat_le b 57

-- a lower-case letter, a digit, `_` or `.`
abbrev pub is_name_byte : ℕ → Bool
is_name_byte b = is_letter b || (is_digit b || (nat_eq b 95 || nat_eq b 46))

-- 1 to 64 bytes, of which the first is a letter
unfoldable pub is_name : Name → Bool
is_name [] = false
is_name (b ∷ bytes) = is_letter b && (list_all is_name_byte bytes && nat_le (length (b ∷ bytes)) NAME_LIMIT)

-- the bytes in front of the first mark and behind it
unfoldable pub cut : ℕ → List ℕ → Option (List ℕ × List ℕ)
cut mark [] = None
cut mark (b ∷ bytes) = if b == mark then Some ([], bytes) else option_map (λ p. (b ∷ p.0, p.1)) (cut mark bytes)

abbrev pub graph_of : List ℕ × List ℕ → Option GraphName
graph_of names = if is_name names.0 && is_name names.1 then Some (record { tenant = names.0; name = names.1 }) else None

-- the graph that the bytes name: a tenant, `/` and the name within it
unfoldable pub graph_whole : List ℕ → Option GraphName
graph_whole bytes = option_and_then graph_of (cut 47 bytes)
