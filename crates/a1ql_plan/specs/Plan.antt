-- A pattern with its names resolved in one graph, or the first refusal.
use Rattle.std.specs.Prelude.{ℕ, ◌+◌, List, [], ◌∷◌, map, not, nat_le, if◌then◌else◌, Option, Some, None, Result, Ok, bytes_eq}
use Rattle.a1_base.specs.Maps.{at}
use Rattle.a1_base.specs.declared.limits.TheConstants.{PATH_LIMIT}
use Rattle.type_schema.specs.declared.names.TypeName.{TypeName}
use Rattle.type_schema.specs.declared.rows.TypeSchema.{TypeSchema}
use Rattle.type_schema.specs.declared.refusal.Refusal.{Refusal}
use Rattle.type_schema.specs.declared.refusal.Word.TheVariants as word
use Rattle.type_schema.specs.declared.schema.Kind as schema
use Rattle.type_schema.specs.Names.{Name}
use Rattle.type_schema.specs.Refusals.{refused, refused_at, unless, need, passing}
use Rattle.type_schema.specs.Schemas.{Schema, value_in}
use Rattle.type_schema.specs.Graph.{type_order}
use Rattle.type_schema.specs.Lookups.{of_vertices, of_edges}
use Rattle.a1ql_reader.specs.declared.patterns.Test.{Test}
use Rattle.a1ql_reader.specs.declared.patterns.Select.{Select}
use Rattle.a1ql_reader.specs.declared.patterns.Select.TheVariants as select
use Rattle.a1ql_reader.specs.declared.patterns.VertexPattern.{VertexPattern, VertexPattern-F, fold-VertexPattern}
use Rattle.a1ql_reader.specs.declared.patterns.Hop.{Hop, Hop-F, fold-Hop}
use Rattle.a1ql_plan.specs.declared.plans.Predicate.{Predicate}
use Rattle.a1ql_plan.specs.declared.plans.Projection.{Projection}
use Rattle.a1ql_plan.specs.declared.plans.Projection.TheVariants.{Count, Columns}
use Rattle.a1ql_plan.specs.declared.plans.Column.{Column}
use Rattle.a1ql_plan.specs.declared.plans.Plan as plans
use Rattle.a1ql_plan.specs.declared.plans.Expand.{Expand, roll-Expand}
use Rattle.a1ql_plan.specs.Depth.{depth}

-- the types, with their schemas
abbrev pub Types : Type 0
Types = List (TypeName × TypeSchema)

-- all, or the first refusal
abbrev pub all_of : {X : Type 0} → List (Result X Refusal) → Result (List X) Refusal
all_of [] = Ok []
all_of (r ∷ rs) = passing r (λ x. passing (all_of rs) (λ xs. Ok (x ∷ xs)))

-- ---- attributes

-- the place and the kind of an attribute, where the first is at n
abbrev pub place_from : ℕ → Schema → Name → Option (ℕ × schema.Kind)
place_from n [] name = None
place_from n (a ∷ schema) name = if bytes_eq a.name name then Some (n, a.kind) else place_from (n + 1) schema name

abbrev pub place_in : Schema → Name → Option (ℕ × schema.Kind)
place_in = place_from 0

unfoldable pub predicate_of : Schema → Test → Result Predicate Refusal
predicate_of schema test =
    need (place_in schema test.attr) (refused word.NoAttr) (λ p.
    need (value_in p.1 test.value) (refused_at word.Kind test.attr) (λ v.
    Ok (record { place = p.0; op = test.op; value = v })))

abbrev pub predicates_of : Schema → List Test → Result (List Predicate) Refusal
predicates_of schema tests = all_of (map (predicate_of schema) tests)

unfoldable pub column_of : Schema → Name → Result Column Refusal
column_of schema name =
    need (place_in schema name) (refused word.NoAttr) (λ p. Ok (record { name = name; place = p.0 }))

abbrev pub columns_of : Schema → List Name → Result (List Column) Refusal
columns_of schema names = all_of (map (column_of schema) names)

-- all attributes, where the first is at n
abbrev pub columns_from : ℕ → Schema → List Column
columns_from n [] = []
columns_from n (a ∷ schema) = record { name = a.name; place = n } ∷ columns_from (n + 1) schema

abbrev pub projection_of : Schema → Select → Result Projection Refusal
projection_of schema select.All = Ok (Columns (columns_from 0 schema))
projection_of schema select.Count = Ok Count
projection_of schema (select.Names names) = passing (columns_of schema names) (λ columns. Ok (Columns columns))

-- ---- patterns, by what is resolved of those inside

abbrev pub Expanded : Type 0
Expanded = Result Expand Refusal

abbrev pub Planned : Type 0
Planned = Result plans.Plan Refusal

abbrev pub next_of : Option Expanded → Result (Option Expand) Refusal
next_of None = Ok None
next_of (Some hop) = passing hop (λ h. Ok (Some h))

abbrev pub named : ℕ → Name → TypeName
named graph name = record { graph = graph; name = name }

unfoldable pub expand_step : Types → ℕ → Hop-F Expanded Planned → Expanded
expand_step types graph hop =
    need (of_edges (at type_order (named graph hop.kind) types)) (refused word.NoType) (λ schema.
    passing (predicates_of schema hop.tests) (λ tests.
    passing hop.to (λ to.
    Ok (roll-Expand (record { out = hop.out; kind = named graph hop.kind; tests = tests; to = to })))))

unfoldable pub vertex_step : Types → ℕ → VertexPattern-F Expanded Planned → Planned
vertex_step types graph pattern =
    need (of_vertices (at type_order (named graph pattern.kind) types)) (refused word.NoType) (λ schema.
    passing (predicates_of schema pattern.tests) (λ tests.
    passing (all_of pattern.matches) (λ matches.
    passing (next_of pattern.hop) (λ hop.
    passing (projection_of schema pattern.select) (λ select.
    Ok (plans.roll-Plan (record {
      kind = named graph pattern.kind;
      tests = tests;
      matches = matches;
      hop = hop;
      select = select;
    })))))))

abbrev pub vertex_of : Types → ℕ → VertexPattern → Planned
vertex_of types graph = fold-VertexPattern Expanded Planned (expand_step types graph) (vertex_step types graph)

abbrev pub expand_of : Types → ℕ → Hop → Expanded
expand_of types graph = fold-Hop Expanded Planned (expand_step types graph) (vertex_step types graph)

-- ---- plans

-- the plan of a pattern in the graph of this number, or the refusal: first whether a path is too long
unfoldable pub plan_of : Types → ℕ → VertexPattern → Planned
plan_of types graph pattern = unless (not (nat_le (depth pattern) PATH_LIMIT)) (refused word.Deep) (vertex_of types graph pattern)
