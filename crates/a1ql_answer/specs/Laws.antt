-- What is proved of each way to find an answer.
use Rattle.std.specs.Prelude.{◌≡◌, List, filter, Bool, true, ◌&&◌, Some}
use Rattle.std.specs.List.{list_any}
use Rattle.std.specs.List.Sorted.{IsStrictlySortedBy}
use Rattle.a1_base.specs.Maps.{at, IsOrdered}
use Rattle.type_schema.specs.declared.names.VertexName.{VertexName}
use Rattle.type_schema.specs.declared.names.EdgeName.{EdgeName}
use Rattle.type_schema.specs.declared.refusal.Word.TheVariants as word
use Rattle.type_schema.specs.Refusals.{refused, unless}
use Rattle.type_schema.specs.Schemas.{Record}
use Rattle.type_schema.specs.Graph.{Graph, vertex_order, near, vertex_at}
use Rattle.a1ql_plan.specs.declared.plans.Plan.{Plan, out-Plan}
use Rattle.a1ql_plan.specs.declared.plans.Expand.{Expand, out-Expand}
use Rattle.a1ql_plan.specs.Answer.{is_type, is_vertex, Vertex, says, hop_says, is_over, first_set, answer_of}
use Rattle.a1ql_answer.specs.Steps.{joins, ends_at, found, set_behind, answer_from}

-- ---- matches

-- the edges of a type at a vertex, in any order and as often as they come
abbrev pub AreAt : Graph → Expand → VertexName → List (EdgeName × Record) → Type 0
AreAt g hop v rows =
    (test : EdgeName × Record → Bool)
    → list_any test rows
    ≡ list_any
    (λ e. is_vertex v (near (out-Expand hop).out e.0) && (is_type (out-Expand hop).kind e.0.graph e.0.kind && test e))
    g.edges

-- a match is met where one of the vertex' edges joins it to a vertex that meets the pattern
abbrev pub MatchLaw : Type 0
MatchLaw =
    (g : Graph) (hop : Expand) (v : VertexName) (rows : List (EdgeName × Record))
    → AreAt g hop v rows → (hop_says hop).is_met g v ≡ list_any (joins g hop) rows

-- ---- hops

-- what arrives along the edges of a set, in any order and as often as it comes
abbrev pub Arrive : Graph → Expand → List Vertex → List (EdgeName × Record) → Type 0
Arrive g hop set arrivals =
    (test : EdgeName × Record → Bool)
    → list_any test arrivals
    ≡ list_any (λ v. list_any
    (λ e. is_vertex v.0 (near (out-Expand hop).out e.0) && (is_type (out-Expand hop).kind e.0.graph e.0.kind && test e))
    g.edges) set

-- these are the far ends of those for which the comparisons hold
abbrev pub AreEnds : Expand → List (EdgeName × Record) → List VertexName → Type 0
AreEnds hop arrivals names = (w : VertexName) → list_any (is_vertex w) names ≡ list_any (ends_at hop w) arrivals

-- of the far ends, each once and in order, those that stand are the set behind the hop
abbrev pub HopLaw : Type 0
HopLaw =
    (g : Graph) (hop : Expand) (set : List Vertex) (arrivals : List (EdgeName × Record)) (names : List VertexName)
    → IsOrdered vertex_order g.vertices → IsStrictlySortedBy vertex_order names
    → Arrive g hop set arrivals → AreEnds hop arrivals names
    → filter ((says (out-Expand hop).to).stands g) (found g names) ≡ set_behind g hop set

-- ---- roots

-- candidates in order, among which is each vertex that stands and none that is not there, give the first set
abbrev pub RootLaw : Type 0
RootLaw =
    (g : Graph) (plan : Plan) (candidates : List Vertex)
    → IsOrdered vertex_order g.vertices → IsOrdered vertex_order candidates
    → ((v : VertexName) (x : Record) → at vertex_order v candidates ≡ Some x → vertex_at g v ≡ Some x)
    → ((v : VertexName) (x : Record) → vertex_at g v ≡ Some x → (says plan).stands g (v, x) ≡ true
    → at vertex_order v candidates ≡ Some x)
    → filter ((says plan).stands g) candidates ≡ first_set g plan

-- ---- chains

-- the answer is that from the first set on
abbrev pub StartLaw : Type 0
StartLaw = (g : Graph) (plan : Plan) → answer_of g plan ≡ answer_from g (says plan) (first_set g plan)

-- a set that is too large ends the query; else it goes on behind the hop
abbrev pub StepLaw : Type 0
StepLaw =
    (g : Graph) (plan : Plan) (hop : Expand) (set : List Vertex) → (out-Plan plan).hop ≡ Some hop
    → answer_from g (says plan) set
    ≡ unless (is_over set) (refused word.WorkingSet)
    (answer_from g (says (out-Expand hop).to) (set_behind g hop set))
