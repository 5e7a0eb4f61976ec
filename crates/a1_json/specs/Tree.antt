-- The tree of a JSON value: whole numbers alone.
use Rattle.std.specs.Prelude.{◌≡◌, ℕ, List, [], ◌∷◌, ◌++◌, Bool, true, ◌&&◌, map, Option, Some, None, option_map, option_and_then, ok_or, ⊤, Result, Ok, Err, if◌then◌else◌}
use Rattle.std.specs.List.{list_all}
use Rattle.std.specs.Ordering.{nat_cmp, is_lt}
use Rattle.std.specs.Cmp.Lexicographic.{slice_cmp}
use Rattle.std.specs.Str.{is_utf8}
use Rattle.serde_json.specs.Data as serde
use Rattle.serde_json.specs.Find.{as_i64}
use Rattle.serde_json.specs.Read.{read}
use Rattle.a1_json.specs.declared.tree.JsonFault.{JsonFault}
use Rattle.a1_json.specs.declared.tree.JsonFault.TheVariants as fault
use Rattle.a1_json.specs.declared.tree.Json.{Json, fold-Json}
use Rattle.a1_json.specs.declared.tree.Json.TheOpen.{Json-F}
use Rattle.a1_json.specs.declared.tree.Json.TheVariants as json

-- the first, and then the rest, where both are there
abbrev pub before : {X : Type 0} → Option X → Option (List X) → Option (List X)
before first rest = option_and_then (λ x. option_map (λ xs. x ∷ xs) rest) first

-- the tree, or none where a number is not whole or too large
abbrev mutual
  pub tree_of : serde.Data → Option Json
  tree_of serde.null = Some json.Null
  tree_of (serde.boolean b) = Some (json.Bool b)
  tree_of (serde.number n) = option_map json.Int (as_i64 n)
  tree_of (serde.string s) = Some (json.Text s)
  tree_of (serde.array ds) = option_map json.List (items_of ds)
  tree_of (serde.object ms) = option_map json.Members (members_of ms)

  pub items_of : serde.Items → Option (List Json)
  items_of serde.no_items = Some []
  items_of (serde.item d ds) = before (tree_of d) (items_of ds)

  pub members_of : serde.Members → Option (List (List ℕ × Json))
  members_of serde.no_members = Some []
  members_of (serde.member k d ms) = before (option_map (λ j. (k, j)) (tree_of d)) (members_of ms)

-- the tree of what a text was read as, or why there is none
abbrev pub tree_or_fault : Option serde.Data → Result Json JsonFault
tree_or_fault None = Err fault.NotJson
tree_or_fault (Some d) = ok_or (tree_of d) fault.NotWhole

-- what the bytes of a text say: a tree, or why there is none
unfoldable pub json_of : List ℕ → Result Json JsonFault
json_of bytes = if is_utf8 bytes then tree_or_fault (read bytes) else Err fault.NotJson

-- the result is the one wanted, unless memory was wanting
abbrev pub GivesUnlessMemory : {T : Type 0} → Result T JsonFault → Result T JsonFault → Type 0
GivesUnlessMemory (Ok value) wanted = wanted ≡ Ok value
GivesUnlessMemory (Err fault.NotJson) wanted = wanted ≡ Err fault.NotJson
GivesUnlessMemory (Err fault.NotWhole) wanted = wanted ≡ Err fault.NotWhole
GivesUnlessMemory (Err fault.Memory) wanted = ⊤

-- a fault other than want of memory says that there is no tree
abbrev pub IsTreeFault : {X : Type 0} → JsonFault → Option X → Type 0
IsTreeFault fault.NotJson tree = ⊥
IsTreeFault fault.NotWhole tree = tree ≡ None
IsTreeFault fault.Memory tree = ⊤

-- these, and then the rest
abbrev pub behind : {X : Type 0} → List X → Option (List X) → Option (List X)
behind xs None = None
behind xs (Some ys) = Some (xs ++ ys)

-- whether each name comes before all that follow it, by their bytes
abbrev pub names_ordered : List (List ℕ) → Bool
names_ordered [] = true
names_ordered (name ∷ later) = list_all (λ other. is_lt (slice_cmp nat_cmp name other)) later && names_ordered later

-- one level, with what is said of each value inside in its place
abbrev pub ordered_step : Json-F Bool → Bool
ordered_step Json-F.Null = true
ordered_step (Json-F.Bool b) = true
ordered_step (Json-F.Int z) = true
ordered_step (Json-F.Text s) = true
ordered_step (Json-F.List inner) = list_all (λ ordered. ordered) inner
ordered_step (Json-F.Members inner) = names_ordered (map (λ m. m.0) inner) && list_all (λ m. m.1) inner

-- whether the names of each object in the tree are in order, and so each stands once
abbrev pub has_ordered_names : Json → Bool
has_ordered_names = fold-Json Bool ordered_step

-- the same of the members of an object
abbrev pub members_ordered : List (List ℕ × Json) → Bool
members_ordered members = names_ordered (map (λ m. m.0) members) && list_all (λ m. has_ordered_names m.1) members
