-- One level of a plan, with what is said of the plans inside.
use Rattle.std.proofs.Common.{◌≡◌, List, ◌∷◌, Bool, true, false, cond, ◌&&◌, ◌||◌, map, option_map, Option, Some, None, Result, Ok, Err, refl, sym, ap, ◌∙◌}
use Rattle.std.specs.List.{list_any, list_all}
use Rattle.type_schema.specs.declared.names.TypeName.{TypeName}
use Rattle.type_schema.specs.declared.names.VertexName.{VertexName}
use Rattle.type_schema.specs.declared.refusal.Refusal.{Refusal}
use Rattle.type_schema.specs.declared.refusal.Word.TheVariants as word
use Rattle.type_schema.specs.Refusals.{refused, unless}
use Rattle.type_schema.specs.Schemas.{Record}
use Rattle.type_schema.specs.Graph.{Graph, near, far, vertex_at}
use Rattle.a1ql_reader.specs.declared.ask.Answer.{Answer}
use Rattle.a1ql_plan.specs.declared.plans.Predicate.{Predicate}
use Rattle.a1ql_plan.specs.declared.plans.Projection.{Projection}
use Rattle.a1ql_plan.specs.declared.plans.Plan.{Plan, Plan-F, out-Plan, map-Plan, fold_out-Plan}
use Rattle.a1ql_plan.specs.declared.plans.Expand.{Expand, out-Expand, fold_out-Expand}
use Rattle.a1ql_plan.specs.Answer.{is_type, is_vertex, all_hold, Vertex, ExpandSays, PlanSays, expand_says, plan_says, says, hop_says, next_is_met, is_there, is_over, answered, last_of, answer_of}
use Rattle.a1ql_answer.specs.Steps.{suits, passes, joins, set_behind, answer_from}
use Rattle.a1ql_answer.specs.Laws.{MatchLaw, StartLaw, StepLaw}
use Rattle.a1ql_answer.proofs.AnyLemmas.{any_same, first_two}

-- ---- one level

abbrev mapped : Plan-F Expand Plan → Plan-F ExpandSays PlanSays
mapped = map-Plan Expand Plan ExpandSays PlanSays hop_says says

abbrev level : Plan-F Expand Plan → Option ExpandSays → Plan-F ExpandSays PlanSays
level d hop = record { kind = d.kind; tests = d.tests; matches = map hop_says d.matches; hop = hop; select = d.select }

hop_is : (kind : TypeName) (tests : List Predicate) (matches : List Expand) (select : Projection) (hop : Option Expand) → (mapped (record { kind = kind; tests = tests; matches = matches; hop = hop; select = select })).hop ≡ option_map hop_says hop
hop_is kind tests matches select None = refl
hop_is kind tests matches select (Some h) = refl

layer_is : (d : Plan-F Expand Plan) → mapped d ≡ level d (option_map hop_says d.hop)
layer_is d = λ i. record { kind = d.kind; tests = d.tests; matches = map hop_says d.matches; hop = hop_is d.kind d.tests d.matches d.select d.hop i; select = d.select }

at_plan : (p : Plan) → says p ≡ plan_says (level (out-Plan p) (option_map hop_says (out-Plan p).hop))
at_plan p = fold_out-Plan ExpandSays PlanSays expand_says plan_says p ∙ ap plan_says (layer_is (out-Plan p))

at_hop : (h : Expand) → hop_says h ≡ expand_says (record { out = (out-Expand h).out; kind = (out-Expand h).kind; tests = (out-Expand h).tests; to = says (out-Expand h).to })
at_hop h = fold_out-Expand ExpandSays PlanSays expand_says plan_says h

-- ---- matches

abbrev are_met : Graph → List Expand → VertexName → Bool
are_met g hops v = list_all (λ h. h.is_met g v) (map hop_says hops)

pub stands_is : (g : Graph) (p : Plan) (v : Vertex) → (says p).stands g v ≡ (suits p v && are_met g (out-Plan p).matches v.0)
stands_is g p v =
    ap (λ s. s.stands g v) (at_plan p)
    ∙ first_two (is_type (out-Plan p).kind v.0.graph v.0.kind) (all_hold (out-Plan p).tests v.1) (are_met g (out-Plan p).matches v.0)

pub is_met_is : (g : Graph) (p : Plan) (v : Vertex) → (says p).is_met g v ≡ ((suits p v && are_met g (out-Plan p).matches v.0) && next_is_met (option_map hop_says (out-Plan p).hop) g v.0)
is_met_is g p v =
    ap (λ s. s.is_met g v) (at_plan p)
    ∙ ap (λ b. b && next_is_met (option_map hop_says (out-Plan p).hop) g v.0)
    (first_two (is_type (out-Plan p).kind v.0.graph v.0.kind) (all_hold (out-Plan p).tests v.1) (are_met g (out-Plan p).matches v.0))

joined : (a b c : Bool) (v : VertexName) (o : Option Record) (test : Vertex → Bool) → ((a && (b && c)) && is_there v o test) ≡ (a && (b && passes test (cond c (option_map (λ x. (v, x)) o) None)))
joined true true true v None test = refl
joined true true true v (Some x) test = refl
joined true true false v o test = refl
joined true false c v o test = refl
joined false b c v o test = refl

pub hop_is_met_is : (g : Graph) (h : Expand) (v : VertexName) → (hop_says h).is_met g v
    ≡ list_any (λ e. is_vertex v (near (out-Expand h).out e.0) && (is_type (out-Expand h).kind e.0.graph e.0.kind && joins g h e)) g.edges
hop_is_met_is g h v =
    ap (λ s. s.is_met g v) (at_hop h)
    ∙ any_same _ _ (λ e. joined (is_vertex v (near (out-Expand h).out e.0)) (is_type (out-Expand h).kind e.0.graph e.0.kind) (all_hold (out-Expand h).tests e.1)
    (far (out-Expand h).out e.0) (vertex_at g (far (out-Expand h).out e.0)) ((says (out-Expand h).to).is_met g)) g.edges

pub match_law : MatchLaw
match_law g hop v rows at = hop_is_met_is g hop v ∙ sym (at (joins g hop))

-- ---- chains

pub start_law : StartLaw
unfolding answer_of answer_from
start_law g plan = refl

-- what is said where the next hop is this
abbrev through : Graph → Plan → List Vertex → Option ExpandSays → Result Answer Refusal
through g p set hop = answer_from g (plan_says (level (out-Plan p) hop)) set

either : {X E : Type 0} (a b : Bool) (e : E) (r : Result X E) → unless (a || b) e r ≡ unless a e (unless b e r)
unfolding unless
either true b e r = refl
either false b e r = refl

in_time : {X E : Type 0} (e : E) (r : Result X E) → unless false e r ≡ r
unfolding unless
in_time e r = refl

one_step : (g : Graph) (p : Plan) (h : Expand) (set : List Vertex) → through g p set (Some (expand_says (record { out = (out-Expand h).out; kind = (out-Expand h).kind; tests = (out-Expand h).tests; to = says (out-Expand h).to })))
    ≡ unless (is_over set) (refused word.WorkingSet) (answer_from g (says (out-Expand h).to) (set_behind g h set))
unfolding answer_from
one_step g p h set =
    let next = set_behind g h set in
    either (is_over set) (list_any is_over (next ∷ (says (out-Expand h).to).sets g next)) (refused word.WorkingSet)
    (Ok (answered (says (out-Expand h).to).select (last_of next ((says (out-Expand h).to).sets g next))))

pub step_law : StepLaw
step_law g p h set is =
    ap (λ s. answer_from g s set) (at_plan p)
    ∙ (ap (λ o. through g p set (option_map hop_says o)) is
    ∙ (ap (λ s. through g p set (Some s)) (at_hop h) ∙ one_step g p h set))

last_step : (g : Graph) (p : Plan) (set : List Vertex) → through g p set None ≡ unless (is_over set) (refused word.WorkingSet) (Ok (answered (out-Plan p).select set))
unfolding answer_from
last_step g p set = either (is_over set) false (refused word.WorkingSet) (Ok (answered (out-Plan p).select set)) ∙ ap (unless (is_over set) (refused word.WorkingSet)) (in_time (refused word.WorkingSet) (Ok (answered (out-Plan p).select set)))

-- the last set of a chain is answered
pub end_law : (g : Graph) (p : Plan) (set : List Vertex) → (out-Plan p).hop ≡ None → answer_from g (says p) set ≡ unless (is_over set) (refused word.WorkingSet) (Ok (answered (out-Plan p).select set))
end_law g p set is =
    ap (λ s. answer_from g s set) (at_plan p)
    ∙ (ap (λ o. through g p set (option_map hop_says o)) is ∙ last_step g p set)

-- ---- one step of a chain

pub stops : (g : Graph) (plan : PlanSays) (set : List Vertex) → is_over set ≡ true → answer_from g plan set ≡ Err (refused word.WorkingSet)
unfolding answer_from unless
stops g plan set over =
    ap (λ b. unless (b || list_any is_over (plan.sets g set)) (refused word.WorkingSet) (Ok (answered plan.select (last_of set (plan.sets g set))))) over

within : {X : Type 0} (set : List Vertex) (r : Result X Refusal) → is_over set ≡ false → unless (is_over set) (refused word.WorkingSet) r ≡ r
within set r fits = ap (λ b. unless b (refused word.WorkingSet) r) fits ∙ in_time (refused word.WorkingSet) r

pub ends_here : (g : Graph) (p : Plan) (set : List Vertex) → (out-Plan p).hop ≡ None → is_over set ≡ false → answer_from g (says p) set ≡ Ok (answered (out-Plan p).select set)
ends_here g p set is fits = end_law g p set is ∙ within set _ fits

pub goes_on : (g : Graph) (p : Plan) (h : Expand) (set : List Vertex) → (out-Plan p).hop ≡ Some h → is_over set ≡ false → answer_from g (says p) set ≡ answer_from g (says (out-Expand h).to) (set_behind g h set)
goes_on g p h set is fits = step_law g p h set is ∙ within set _ fits
