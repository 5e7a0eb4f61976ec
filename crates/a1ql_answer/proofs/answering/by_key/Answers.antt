use Rattle.std.proofs.Common.{◌≡◌, [], map, filter, sym, ap, ◌∙◌, subst}
use Rattle.std.specs.Map.Iter.{deref_pair}
use Rattle.type_schema.specs.Refusals.{Gives}
use Rattle.type_schema.specs.Graph.{vertex_at}
use Rattle.a1ql_plan.specs.Answer.{says}
use Rattle.a1ql_answer.specs.Steps.{before, keyed, answer_from}
use Rattle.a1ql_answer.proofs.RootLemmas.{from_key}
use Rattle.a1ql_answer.proofs.answering.by_key.Goals as goal

pub returns : goal.returns
returns g c asked =
    let graph = g.V.View.graph c.args.view.now in
    let plan = c.args.plan.now in
    let name = keyed plan c.args.key.now in
    let p = (says plan).stands graph in
    let there : map deref_pair c.deref.result.now ≡ before name (vertex_at graph name) [] =
    ap (λ vs. map deref_pair vs) c.deref.ensures.value ∙ (c.in_ok-there.ensures ∙ ap (λ v. before v (vertex_at graph v) []) c.in_ok-name.ensures) in
    let set : map deref_pair c.deref-2.result.now ≡ filter p (before name (vertex_at graph name) []) =
    ap (λ vs. map deref_pair vs) c.deref-2.ensures.value ∙ ◌∙◌ {b = filter p (map deref_pair c.deref.result.now)} c.in_ok-set.ensures (ap (λ vs. filter p vs) there) in
    subst (Gives c.answer_from.result)
    (ap (λ vs. answer_from graph (says plan) vs) set ∙ sym (from_key graph plan c.args.key.now asked c.ordered.ensures c.keyed.ensures))
    c.answer_from.ensures
