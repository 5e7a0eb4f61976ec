-- The steps by which an answer is found: a match and a hop along the edges of vertices, and the chain from a set on.
use Rattle.std.specs.Prelude.{List, [], ◌∷◌, filter, Bool, true, false, ◌&&◌, nat_eq, if◌then◌else◌, Option, Some, None, option_map, Result, Ok}
use Rattle.std.specs.List.{list_any}
use Rattle.a1_value.specs.declared.value.Value.{Value}
use Rattle.type_schema.specs.declared.names.VertexName.{VertexName}
use Rattle.type_schema.specs.declared.names.EdgeName.{EdgeName}
use Rattle.type_schema.specs.declared.refusal.Refusal.{Refusal}
use Rattle.type_schema.specs.declared.refusal.Word.TheVariants as word
use Rattle.type_schema.specs.Refusals.{refused, unless}
use Rattle.type_schema.specs.Schemas.{Record}
use Rattle.type_schema.specs.Graph.{Graph, far, vertex_at}
use Rattle.a1ql_reader.specs.declared.ask.Answer.{Answer}
use Rattle.a1ql_reader.specs.declared.patterns.Comparison.{Comparison}
use Rattle.a1ql_reader.specs.declared.patterns.Comparison.TheVariants as compared
use Rattle.a1ql_plan.specs.declared.plans.Predicate.{Predicate}
use Rattle.a1ql_plan.specs.declared.plans.Plan.{Plan, out-Plan}
use Rattle.a1ql_plan.specs.declared.plans.Expand.{Expand, out-Expand}
use Rattle.a1ql_plan.specs.Answer.{is_type, is_vertex, Vertex, all_hold, leads_by, PlanSays, says, is_over, last_of, answered}

-- ---- matches

-- the vertex is of the plan's type, and its comparisons hold
abbrev pub suits : Plan → Vertex → Bool
suits plan v = is_type (out-Plan plan).kind v.0.graph v.0.kind && all_hold (out-Plan plan).tests v.1

-- the vertex at the far end of the edge, where the edge's comparisons hold
abbrev pub far_vertex : Graph → Expand → EdgeName × Record → Option Vertex
far_vertex g hop e =
    if all_hold (out-Expand hop).tests e.1
    then option_map (λ values. (far (out-Expand hop).out e.0, values)) (vertex_at g (far (out-Expand hop).out e.0))
    else None

abbrev pub passes : (Vertex → Bool) → Option Vertex → Bool
passes test None = false
passes test (Some v) = test v

-- it meets the pattern there
abbrev pub joins : Graph → Expand → EdgeName × Record → Bool
joins g hop e = passes ((says (out-Expand hop).to).is_met g) (far_vertex g hop e)

-- ---- hops

-- the edge's comparisons hold, and it ends at this vertex
abbrev pub ends_at : Expand → VertexName → EdgeName × Record → Bool
ends_at hop w e = all_hold (out-Expand hop).tests e.1 && is_vertex w (far (out-Expand hop).out e.0)

-- such an edge leads from the one vertex to the other
abbrev pub is_led : Graph → Expand → VertexName → VertexName → Bool
is_led g hop v w =
    list_any (λ e. leads_by (out-Expand hop).out (out-Expand hop).kind (out-Expand hop).tests v e
    && is_vertex w (far (out-Expand hop).out e.0)) g.edges

-- one leads from some vertex of the set
abbrev pub is_joined : Graph → Expand → List Vertex → VertexName → Bool
is_joined g hop set w = list_any (λ v. is_led g hop v.0 w) set

-- the set behind a hop
abbrev pub set_behind : Graph → Expand → List Vertex → List Vertex
set_behind g hop set =
    filter (λ w. (says (out-Expand hop).to).stands g w && is_joined g hop set w.0) g.vertices

abbrev pub before : VertexName → Option Record → List Vertex → List Vertex
before name None set = set
before name (Some values) set = (name, values) ∷ set

-- the vertices of these names that are there
abbrev pub found : Graph → List VertexName → List Vertex
found g [] = []
found g (name ∷ names) = before name (vertex_at g name) (found g names)

-- ---- chains

-- what is answered from a set on
unfoldable pub answer_from : Graph → PlanSays → List Vertex → Result Answer Refusal
answer_from g plan set =
    unless (list_any is_over (set ∷ plan.sets g set)) (refused word.WorkingSet)
    (Ok (answered plan.select (last_of set (plan.sets g set))))

-- ---- the key that a comparison names

abbrev pub is_equal : Comparison → Bool
is_equal compared.Eq = true
is_equal compared.Ne = false
is_equal compared.Lt = false
is_equal compared.Le = false
is_equal compared.Gt = false
is_equal compared.Ge = false

-- the first attribute is to equal the value
abbrev pub asks_key : Predicate → Bool
asks_key test = is_equal test.op && nat_eq test.place 0

abbrev pub key_asked : List Predicate → Option Value
key_asked [] = None
key_asked (test ∷ tests) = if asks_key test then Some test.value else key_asked tests

-- the vertex of the plan's type with this key
abbrev pub keyed : Plan → Value → VertexName
keyed plan key = record { graph = (out-Plan plan).kind.graph; kind = (out-Plan plan).kind.name; key = key }
