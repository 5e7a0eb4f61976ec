-- What a value says, by its kind.
use Rattle.std.proofs.Common.{◌≡◌, List, map, Bool, Err, sym, ap, ◌∙◌}
use Rattle.a1_json.specs.declared.tree.Json.{Json, roll-Json}
use Rattle.a1_json.specs.declared.tree.Json.TheOpen.{Json-F}
use Rattle.a1_json.specs.declared.tree.Json.TheVariants as json
use Rattle.a1_json.specs.declared.tree.Json.TheFolds.{ind-Json}
use Rattle.a1_json.specs.Fields.{Fields}
use Rattle.a1ql_reader.specs.Walk.{Parts}
use Rattle.a1ql_reader.specs.Pattern.{Says, Shape, vertex_of, edge_of, entry_of, hops_of, says_step, says}
use Rattle.a1ql_reader.proofs.WalkLemmas.{walk_roll, at_list, at_object, fields_is}

abbrev told : Fields → Parts Says
told ms = map (λ m. (m.0, says m.1)) ms

module _ (j : Json) (ms slice : Fields) (is : j ≡ json.Members ms) (taken : slice ≡ ms) where
  pub object_vertex : vertex_of slice (told slice) ≡ (says j).vertex
  object_vertex =
      ap (λ fields. vertex_of fields (told fields)) taken
      ∙ sym (ap (λ (s : Says). s.vertex) (at_object says_step j ms is) ∙ ap (λ fields. vertex_of fields (told ms)) (fields_is j ms is))

  pub object_edge : (out : Bool) → edge_of out slice (told slice) ≡ (says j).edge out
  object_edge out =
      ap (λ fields. edge_of out fields (told fields)) taken
      ∙ sym (ap (λ (s : Says). s.edge out) (at_object says_step j ms is) ∙ ap (λ fields. edge_of out fields (told ms)) (fields_is j ms is))

  pub object_entry : entry_of (told slice) ≡ (says j).entry
  object_entry = ap (λ fields. entry_of (told fields)) taken ∙ sym (ap (λ (s : Says). s.entry) (at_object says_step j ms is))

pub list_matches : (j : Json) (items slice : List Json) → j ≡ json.List items → slice ≡ items → hops_of (map says slice) ≡ (says j).matches
list_matches j items slice is taken = ap (λ js. hops_of (map says js)) taken ∙ sym (ap (λ (s : Says). s.matches) (at_list says_step j items is))

abbrev NoObject : Json → Type 0
NoObject j = ((ms : Fields) → j ≡ json.Members ms → ⊥) → ((says j).vertex ≡ Err Shape) × (((out : Bool) → (says j).edge out ≡ Err Shape) × ((says j).entry ≡ Err Shape))

not_object : (level : Json-F Json) → NoObject (roll-Json level)
not_object Json-F.Null none = let is = walk_roll says_step Json-F.Null in (ap (λ (s : Says). s.vertex) is, (λ out. ap (λ (s : Says). s.edge out) is, ap (λ (s : Says). s.entry) is))
not_object (Json-F.Bool b) none = let is = walk_roll says_step (Json-F.Bool b) in (ap (λ (s : Says). s.vertex) is, (λ out. ap (λ (s : Says). s.edge out) is, ap (λ (s : Says). s.entry) is))
not_object (Json-F.Int z) none = let is = walk_roll says_step (Json-F.Int z) in (ap (λ (s : Says). s.vertex) is, (λ out. ap (λ (s : Says). s.edge out) is, ap (λ (s : Says). s.entry) is))
not_object (Json-F.Text t) none = let is = walk_roll says_step (Json-F.Text t) in (ap (λ (s : Says). s.vertex) is, (λ out. ap (λ (s : Says). s.edge out) is, ap (λ (s : Says). s.entry) is))
not_object (Json-F.List items) none = let is = walk_roll says_step (Json-F.List items) in (ap (λ (s : Says). s.vertex) is, (λ out. ap (λ (s : Says). s.edge out) is, ap (λ (s : Says). s.entry) is))
not_object (Json-F.Members ms) none = absurd (none ms (json.rolls-Members ms))

-- what is no object says nothing in the place of one
pub no_object : (j : Json) → NoObject j
no_object = ind-Json NoObject (λ level inner is. not_object level)

abbrev NoList : Json → Type 0
NoList j = ((items : List Json) → j ≡ json.List items → ⊥) → (says j).matches ≡ Err Shape

not_list : (level : Json-F Json) → NoList (roll-Json level)
not_list Json-F.Null none = ap (λ (s : Says). s.matches) (walk_roll says_step Json-F.Null)
not_list (Json-F.Bool b) none = ap (λ (s : Says). s.matches) (walk_roll says_step (Json-F.Bool b))
not_list (Json-F.Int z) none = ap (λ (s : Says). s.matches) (walk_roll says_step (Json-F.Int z))
not_list (Json-F.Text t) none = ap (λ (s : Says). s.matches) (walk_roll says_step (Json-F.Text t))
not_list (Json-F.List items) none = absurd (none items (json.rolls-List items))
not_list (Json-F.Members ms) none = ap (λ (s : Says). s.matches) (walk_roll says_step (Json-F.Members ms))

-- nor what is no list, in the place of one
pub no_list : (j : Json) → NoList j
no_list = ind-Json NoList (λ level inner is. not_list level)
