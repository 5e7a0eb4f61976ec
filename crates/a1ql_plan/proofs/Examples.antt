-- What plans answer over the film graph.
use Rattle.std.proofs.Common.{◌≡◌, ℕ, pos, List, [], ◌∷◌, map, option_map, Option, Some, None, Bool, true, false, refl, ap, ◌∙◌}
use Rattle.std.specs.Prelude.{codes, filter, Result, Ok}
use Rattle.std.specs.List.{list_any}
use Rattle.a1_value.specs.declared.value.Value.{Value}
use Rattle.a1_value.specs.declared.value.Value.TheVariants.{Int, Text}
use Rattle.type_schema.specs.declared.names.TypeName.{TypeName}
use Rattle.type_schema.specs.declared.names.VertexName.{VertexName}
use Rattle.type_schema.specs.declared.names.EdgeName.{EdgeName}
use Rattle.type_schema.specs.declared.refusal.Refusal.{Refusal}
use Rattle.type_schema.specs.declared.refusal.Word.TheVariants as word
use Rattle.type_schema.specs.Refusals.{refused, unless}
use Rattle.type_schema.specs.Schemas.{Record}
use Rattle.type_schema.specs.Graph.{Graph}
use Rattle.a1ql_reader.specs.declared.ask.Answer.{Answer}
use Rattle.a1ql_reader.specs.declared.ask.Answer.TheVariants as answers
use Rattle.a1ql_reader.specs.declared.ask.Row.{Row}
use Rattle.a1ql_reader.specs.declared.patterns.Comparison.TheVariants as compared
use Rattle.a1ql_plan.specs.declared.plans.Predicate.{Predicate}
use Rattle.a1ql_plan.specs.declared.plans.Projection.{Projection}
use Rattle.a1ql_plan.specs.declared.plans.Column.{Column}
use Rattle.a1ql_plan.specs.declared.plans.Projection.TheVariants as select
use Rattle.a1ql_plan.specs.declared.plans.Plan.{Plan, roll-Plan, map-Plan, fold-roll-Plan}
use Rattle.a1ql_plan.specs.declared.plans.Expand.{Expand, roll-Expand, fold-roll-Expand}
use Rattle.a1ql_plan.specs.Answer.{PlanSays, ExpandSays, expand_says, plan_says, says, hop_says, last_of, is_over, answered, answer_of}

-- ---- the graph, which has the number 2

abbrev named : List ℕ → TypeName
named name = record { graph = 2; name = name }

abbrev vertex : List ℕ → List ℕ → VertexName
vertex kind id = record { graph = 2; kind = kind; key = Text id }

abbrev acts : List ℕ → List ℕ → List ℕ → EdgeName × Record
acts from to role = (
  record {
    graph = 2;
    kind = codes "acts";
    from_kind = codes "actor";
    from = Text from;
    to_kind = codes "film";
    to = Text to;
  },
  Text role ∷ [],
)

abbrev films : Graph
films = record {
  tenants = [];
  graphs = [];
  types = [];
  vertices =
      (vertex (codes "actor") (codes "a"), Text (codes "a") ∷ [])
      ∷ (vertex (codes "actor") (codes "b"), Text (codes "b") ∷ [])
      ∷ (vertex (codes "film") (codes "f1"), Text (codes "f1") ∷ Int (pos 1999) ∷ [])
      ∷ (vertex (codes "film") (codes "f2"), Text (codes "f2") ∷ Int (pos 2003) ∷ [])
      ∷ [];
  edges =
      acts (codes "a") (codes "f1") (codes "hero")
      ∷ acts (codes "a") (codes "f2") (codes "foe")
      ∷ acts (codes "b") (codes "f1") (codes "foe")
      ∷ [];
  next = 3;
}

-- ---- plans, each with what is said of it

abbrev Planned : Type 0
Planned = (p : Plan) × ((s : PlanSays) × (says p ≡ s))

abbrev Hop : Type 0
Hop = (h : Expand) × ((s : ExpandSays) × (hop_says h ≡ s))

abbrev by_acts : Bool → List Predicate → Planned → Hop
by_acts out tests to = (
  roll-Expand (record { out = out; kind = named (codes "acts"); tests = tests; to = to.0 }),
  (
    expand_says (record { out = out; kind = named (codes "acts"); tests = tests; to = to.1.0 }),
    fold-roll-Expand ExpandSays PlanSays expand_says plan_says (record { out = out; kind = named (codes "acts"); tests = tests; to = to.0 })
        ∙ ap (λ s. expand_says (record { out = out; kind = named (codes "acts"); tests = tests; to = s })) to.1.1,
  ),
)

matches_said : (hops : List Hop) → map hop_says (map (λ h. h.0) hops) ≡ map (λ h. h.1.0) hops
matches_said [] = refl
matches_said (h ∷ hops) = λ i. h.1.1 i ∷ matches_said hops i

hop_said : (kind : TypeName) (tests : List Predicate) (matches : List Expand) (select : Projection) (hop : Option Hop) → (map-Plan Expand Plan ExpandSays PlanSays hop_says says (record { kind = kind; tests = tests; matches = matches; hop = option_map (λ h. h.0) hop; select = select })).hop ≡ option_map (λ h. h.1.0) hop
hop_said kind tests matches select None = refl
hop_said kind tests matches select (Some h) = λ i. Some (h.1.1 i)

abbrev those : List ℕ → List Predicate → List Hop → Option Hop → Projection → Planned
those kind tests matches hop select = (
  roll-Plan (record { kind = named kind; tests = tests; matches = map (λ h. h.0) matches; hop = option_map (λ h. h.0) hop; select = select }),
  (
    plan_says (record { kind = named kind; tests = tests; matches = map (λ h. h.1.0) matches; hop = option_map (λ h. h.1.0) hop; select = select }),
    fold-roll-Plan ExpandSays PlanSays expand_says plan_says (record { kind = named kind; tests = tests; matches = map (λ h. h.0) matches; hop = option_map (λ h. h.0) hop; select = select })
        ∙ (λ i. plan_says (record { kind = named kind; tests = tests; matches = matches_said matches i; hop = hop_said (named kind) tests (map (λ h. h.0) matches) select hop i; select = select })),
  ),
)

abbrev answer_by : PlanSays → Result Answer Refusal
answer_by s =
    let first = filter (s.stands films) films.vertices in
    unless (list_any is_over (first ∷ s.sets films first)) (refused word.WorkingSet) (Ok (answered s.select (last_of first (s.sets films first))))

answer_is : (p : Planned) → answer_of films p.0 ≡ answer_by p.1.0
unfolding answer_of
answer_is p = ap answer_by p.1.1

abbrev is : ℕ → Value → List Predicate
is place value = record { place = place; op = compared.Eq; value = value } ∷ []

abbrev id : Column
id = record { name = codes "id"; place = 0 }

abbrev year : Column
year = record { name = codes "year"; place = 1 }

abbrev actor : Projection
actor = select.Columns (id ∷ [])

abbrev film : Projection
film = select.Columns (id ∷ year ∷ [])

abbrev row : List (List ℕ × Value) → Row
row members = record { members = members }

-- ---- answers

-- how many actors are in a film with actor a: a and b
abbrev beside : Planned
beside = those (codes "actor") (is 0 (Text (codes "a"))) [] (Some (by_acts true [] (those (codes "film") [] [] (Some (by_acts false [] (those (codes "actor") [] [] None select.Count))) film))) actor

by_count : answer_of films beside.0 ≡ Ok (answers.Count 2)
unfolding unless
by_count = answer_is beside

-- the actors of film f1
abbrev of_film : Planned
of_film = those (codes "film") (is 0 (Text (codes "f1"))) [] (Some (by_acts false [] (those (codes "actor") [] [] None actor))) film

by_film : answer_of films of_film.0 ≡ Ok (answers.Rows (row ((codes "id", Text (codes "a")) ∷ []) ∷ row ((codes "id", Text (codes "b")) ∷ []) ∷ []))
unfolding unless
by_film = answer_is of_film

-- the films from 2000 on, the year before the key
abbrev late : Planned
late = those (codes "film") (record { place = 1; op = compared.Ge; value = Int (pos 2000) } ∷ []) [] None (select.Columns (year ∷ id ∷ []))

by_year : answer_of films late.0 ≡ Ok (answers.Rows (row ((codes "year", Int (pos 2003)) ∷ (codes "id", Text (codes "f2")) ∷ []) ∷ []))
unfolding unless
by_year = answer_is late

-- the actors with a part as a hero
abbrev heroes : Planned
heroes = those (codes "actor") [] (by_acts true (is 0 (Text (codes "hero"))) (those (codes "film") [] [] None film) ∷ []) None actor

by_match : answer_of films heroes.0 ≡ Ok (answers.Rows (row ((codes "id", Text (codes "a")) ∷ []) ∷ []))
unfolding unless
by_match = answer_is heroes

-- inside a match a hop is one more match: the actors of a film in which somebody is a hero
abbrev beside_heroes : Planned
beside_heroes = those (codes "actor") [] (by_acts true [] (those (codes "film") [] [] (Some (by_acts false (is 0 (Text (codes "hero"))) (those (codes "actor") [] [] None actor))) film) ∷ []) None select.Count

by_inner_hop : answer_of films beside_heroes.0 ≡ Ok (answers.Count 2)
unfolding unless
by_inner_hop = answer_is beside_heroes
