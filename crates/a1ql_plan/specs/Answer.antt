-- What a plan answers over a graph: filters of the vertex list, in which names are in the order of their keys.
use Rattle.std.specs.Prelude.{ℕ, List, [], ◌∷◌, length, map, filter, Bool, true, false, not, ◌&&◌, Option, Some, None, slice_get, nat_lt, Result, Ok}
use Rattle.std.specs.List.{list_any, list_all}
use Rattle.std.specs.Ordering.{is_eq, is_lt, is_gt}
use Rattle.std.specs.declared.cmp.Ordering.{Ordering}
use Rattle.a1_base.specs.declared.limits.TheConstants.{WORKING_SET_LIMIT}
use Rattle.a1_value.specs.declared.value.Value.{Value}
use Rattle.a1_value.specs.Order.{value_order}
use Rattle.type_schema.specs.declared.names.TypeName.{TypeName}
use Rattle.type_schema.specs.declared.names.VertexName.{VertexName}
use Rattle.type_schema.specs.declared.names.EdgeName.{EdgeName}
use Rattle.type_schema.specs.declared.refusal.Refusal.{Refusal}
use Rattle.type_schema.specs.declared.refusal.Word.TheVariants as word
use Rattle.type_schema.specs.Refusals.{refused, unless, passing}
use Rattle.type_schema.specs.Schemas.{Record}
use Rattle.type_schema.specs.Graph.{Graph, type_order, vertex_order, near, far, vertex_at}
use Rattle.type_schema.specs.Lookups.{graph_number}
use Rattle.a1ql_reader.specs.declared.ask.Ask.{Ask}
use Rattle.a1ql_reader.specs.declared.ask.Row.{Row}
use Rattle.a1ql_reader.specs.declared.ask.Answer.{Answer}
use Rattle.a1ql_reader.specs.declared.ask.Answer.TheVariants.{Rows, Count}
use Rattle.a1ql_reader.specs.declared.patterns.Comparison.{Comparison}
use Rattle.a1ql_reader.specs.declared.patterns.Comparison.TheVariants as compared
use Rattle.a1ql_plan.specs.declared.plans.Predicate.{Predicate}
use Rattle.a1ql_plan.specs.declared.plans.Column.{Column}
use Rattle.a1ql_plan.specs.declared.plans.Projection.{Projection}
use Rattle.a1ql_plan.specs.declared.plans.Projection.TheVariants as select
use Rattle.a1ql_plan.specs.declared.plans.Plan.{Plan, Plan-F, fold-Plan}
use Rattle.a1ql_plan.specs.declared.plans.Expand.{Expand, Expand-F, fold-Expand}
use Rattle.a1ql_plan.specs.Plan.{plan_of}

-- ---- comparisons

-- values in this order are as the comparison wants them
abbrev pub is_so : Comparison → Ordering → Bool
is_so compared.Eq order = is_eq order
is_so compared.Ne order = not (is_eq order)
is_so compared.Lt order = is_lt order
is_so compared.Le order = not (is_gt order)
is_so compared.Gt order = is_gt order
is_so compared.Ge order = not (is_lt order)

abbrev pub value_holds : Predicate → Option Value → Bool
value_holds test None = false
value_holds test (Some v) = is_so test.op (value_order v test.value)

abbrev pub holds : Record → Predicate → Bool
holds values test = value_holds test (slice_get values test.place)

abbrev pub all_hold : List Predicate → Record → Bool
all_hold tests values = list_all (holds values) tests

-- ---- edges at a vertex

abbrev pub is_type : TypeName → ℕ → List ℕ → Bool
is_type kind graph name = is_eq (type_order kind (record { graph = graph; name = name }))

abbrev pub is_vertex : VertexName → VertexName → Bool
is_vertex v w = is_eq (vertex_order v w)

-- a vertex, with its record
abbrev pub Vertex : Type 0
Vertex = VertexName × Record

-- ---- what is said of a plan, by what is said of the plans inside

pub record ExpandSays : Type 0 where
  -- the edge is of this type, at this vertex, and its comparisons hold
  pub leads : VertexName → EdgeName × Record → Bool
  -- the vertex has such an edge, with a vertex at its other end that meets the pattern there
  pub is_met : Graph → VertexName → Bool
  -- the sets from this hop on, behind the set before it
  pub sets : Graph → List Vertex → List (List Vertex)
  -- what is selected at the end of the chain
  pub select : Projection

pub record PlanSays : Type 0 where
  -- the vertex meets the pattern without its hop
  pub stands : Graph → Vertex → Bool
  -- it meets the pattern, in which a hop counts as one more match
  pub is_met : Graph → Vertex → Bool
  -- the sets behind this one
  pub sets : Graph → List Vertex → List (List Vertex)
  pub select : Projection

-- the vertex is there, and so
abbrev pub is_there : VertexName → Option Record → (Vertex → Bool) → Bool
is_there name None is_so = false
is_there name (Some values) is_so = is_so (name, values)

abbrev pub leads_by : Bool → TypeName → List Predicate → VertexName → EdgeName × Record → Bool
leads_by out kind tests v e =
    is_vertex v (near out e.0) && (is_type kind e.0.graph e.0.kind && all_hold tests e.1)

-- the vertices that stand, and that some such edge joins to a vertex of the set
abbrev pub next_set :
    Bool → (VertexName → EdgeName × Record → Bool) → PlanSays → Graph → List Vertex → List Vertex
next_set out leads to g set =
    filter
    (λ w. to.stands g w && list_any (λ v. list_any (λ e. leads v.0 e && is_vertex w.0 (far out e.0)) g.edges) set)
    g.vertices

abbrev pub expand_says : Expand-F ExpandSays PlanSays → ExpandSays
expand_says hop =
    let leads = leads_by hop.out hop.kind hop.tests in
    record {
      leads = leads;
      is_met = λ g v. list_any
          (λ e. leads v e && is_there (far hop.out e.0) (vertex_at g (far hop.out e.0)) (hop.to.is_met g)) g.edges;
      sets = λ g set.
          let next = next_set hop.out leads hop.to g set in
          next ∷ hop.to.sets g next;
      select = hop.to.select;
    }

abbrev pub stands_by : Plan-F ExpandSays PlanSays → Graph → Vertex → Bool
stands_by plan g v =
    is_type plan.kind v.0.graph v.0.kind
    && (all_hold plan.tests v.1 && list_all (λ hop. hop.is_met g v.0) plan.matches)

abbrev pub next_is_met : Option ExpandSays → Graph → VertexName → Bool
next_is_met None g v = true
next_is_met (Some hop) g v = hop.is_met g v

abbrev pub next_sets : Option ExpandSays → Graph → List Vertex → List (List Vertex)
next_sets None g set = []
next_sets (Some hop) g set = hop.sets g set

abbrev pub last_select : Option ExpandSays → Projection → Projection
last_select None select = select
last_select (Some hop) select = hop.select

abbrev pub plan_says : Plan-F ExpandSays PlanSays → PlanSays
plan_says plan = record {
  stands = stands_by plan;
  is_met = λ g v. stands_by plan g v && next_is_met plan.hop g v.0;
  sets = next_sets plan.hop;
  select = last_select plan.hop plan.select;
}

abbrev pub says : Plan → PlanSays
says = fold-Plan ExpandSays PlanSays expand_says plan_says

abbrev pub hop_says : Expand → ExpandSays
hop_says = fold-Expand ExpandSays PlanSays expand_says plan_says

-- ---- answers

-- the vertex meets the plan's pattern
abbrev pub meets : Graph → Plan → Vertex → Bool
meets g plan v = (says plan).is_met g v

-- the vertices that meet the root without its hop
abbrev pub first_set : Graph → Plan → List Vertex
first_set g plan = filter ((says plan).stands g) g.vertices

-- the set of the root, and one for each hop of its chain
abbrev pub sets_of : Graph → Plan → List (List Vertex)
sets_of g plan = first_set g plan ∷ (says plan).sets g (first_set g plan)

abbrev pub last_of : List Vertex → List (List Vertex) → List Vertex
last_of set [] = set
last_of set (next ∷ sets) = last_of next sets

abbrev pub member_before : List ℕ → Option Value → List (List ℕ × Value) → List (List ℕ × Value)
member_before name None members = members
member_before name (Some v) members = (name, v) ∷ members

-- the values of these attributes
abbrev pub members_at : List Column → Record → List (List ℕ × Value)
members_at [] values = []
members_at (c ∷ columns) values = member_before c.name (slice_get values c.place) (members_at columns values)

abbrev pub row_of : List Column → Record → Row
row_of columns values = record { members = members_at columns values }

-- how many vertices, or of each what is selected, in the order of keys
abbrev pub answered : Projection → List Vertex → Answer
answered select.Count set = Count (length set)
answered (select.Columns columns) set = Rows (map (λ v. row_of columns v.1) set)

abbrev pub is_over : List Vertex → Bool
is_over set = nat_lt WORKING_SET_LIMIT (length set)

-- what a plan is answered, where no set of the chain is too large
unfoldable pub answer_of : Graph → Plan → Result Answer Refusal
answer_of g plan =
    unless (list_any is_over (sets_of g plan)) (refused word.WorkingSet)
    (Ok (answered (says plan).select (last_of (first_set g plan) ((says plan).sets g (first_set g plan)))))

-- what a query is answered, or the first refusal
unfoldable pub answer : Graph → Ask → Result Answer Refusal
answer g ask =
    passing (graph_number g ask.graph) (λ number. passing (plan_of g.types number ask.pattern) (answer_of g))
