-- A walk over a JSON tree: what is said of a value, by what is said of each value inside.
use Rattle.std.specs.Prelude.{ℕ, List}
use Rattle.a1_json.specs.declared.tree.Json.{Json, map-Json, roll-Json, fold-Json}
use Rattle.a1_json.specs.declared.tree.Json.TheOpen.{Json-F}

-- the members of an object, each with what is said of its value
abbrev pub Parts : Type 0 → Type 0
Parts A = List (List ℕ × A)

abbrev pub level_of : {A : Type 0} → Json-F (Json × A) → Json
level_of {A} level = roll-Json (map-Json (Json × A) Json (λ t. t.0) level)

abbrev pub walk_step : {A : Type 0} → (Json → Json-F A → A) → Json-F (Json × A) → Json × A
walk_step {A} step level = (level_of level, step (level_of level) (map-Json (Json × A) A (λ t. t.1) level))

-- by the value itself and its level with what is said of each value inside in its place
unfoldable pub walk : {A : Type 0} → (Json → Json-F A → A) → Json → A
walk {A} step json = (fold-Json (Json × A) (walk_step step) json).1
