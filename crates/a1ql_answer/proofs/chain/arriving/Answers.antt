use Rattle.std.proofs.Common.{◌≡◌, map, filter, ap, ◌∙◌, subst, IfOk}
use Rattle.std.specs.Map.Iter.{deref_pair}
use Rattle.a1ql_plan.specs.Answer.{says}
use Rattle.a1ql_answer.proofs.HopLemmas.{among_names}
use Rattle.a1ql_answer.proofs.chain.arriving.Goals as goal

pub returns : goal.returns
returns g c =
    let graph = g.V.View.graph c.args.view.now in
    let p = (says c.args.plan.now).stands graph in
    let all = ap (λ vs. filter p (map deref_pair vs)) c.deref.ensures.value
    ∙ (ap (filter p) c.in_ok-there.ensures.there ∙ among_names graph p c.args.names.now.keys c.ordered.ensures c.in_ok-there.ensures.sorted) in
    subst (λ z. IfOk c.standing.result (λ set. map deref_pair set.items ≡ z)) all c.standing.ensures
