use Rattle.std.proofs.Common.{◌≡◌, ◌&&◌, map, filter, Ok, Some, sym, ap, ◌∙◌, subst}
use Rattle.std.specs.List.{list_any}
use Rattle.std.specs.Map.Iter.{deref_pair}
use Rattle.type_schema.specs.Refusals.{Gives}
use Rattle.a1ql_plan.specs.Answer.{says, is_vertex}
use Rattle.a1ql_answer.specs.Steps.{set_behind, answer_from}
use Rattle.a1ql_answer.proofs.LevelLemmas.{stops, ends_here, goes_on}
use Rattle.a1ql_answer.proofs.HopLemmas.{joined_names}
use Rattle.a1ql_answer.proofs.chain.+answer_from.Goals as goal

pub returns-then-is_over : goal.returns-then-is_over
returns-then-is_over g t c =
    subst (Gives c.refuse.result)
    (sym (stops (g.V.View.graph c.args.view.now) (says c.args.plan.now) (map deref_pair c.args.set.now) (sym c.is_over.ensures ∙ c.if-is_over.true)))
    c.refuse.ensures

pub returns-in_default : goal.returns-in_default
returns-in_default g t c =
    ends_here (g.V.View.graph c.args.view.now) c.args.plan.now (map deref_pair c.args.set.now) c.in_default.is (sym c.is_over.ensures ∙ c.if-is_over.false)
    ∙ sym (ap Ok c.in_ok-answered.ensures)

pub returns : goal.returns
returns g t c =
    let graph = g.V.View.graph c.args.view.now in
    let set = map deref_pair c.args.set.now in
    let hop = c.get-hop.result.now in
    let names = c.in_ok-names.names.keys in
    let on = goes_on graph c.args.plan.now hop set (c.in-Some.is ∙ ap Some (sym c.get-hop.ensures)) (sym c.is_over.ensures ∙ c.if-is_over.false) in
    let next : map deref_pair c.deref.result.now ≡ set_behind graph hop set =
    ap (λ vs. map deref_pair vs) c.deref.ensures.value
    ∙ (c.in_ok-next.ensures
    ∙ (ap (λ plan. filter (λ w. (says plan).stands graph w && list_any (is_vertex w.0) names) graph.vertices) c.get.ensures
    ∙ joined_names graph hop set names c.in_ok-names.ensures)) in
    subst (Gives c.answer_from.result) (sym (on ∙ sym (λ i. answer_from graph (says (c.get-2.ensures i)) (next i)))) c.answer_from.ensures
