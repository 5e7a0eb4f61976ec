use Rattle.std.proofs.Common.{◌||◌, map, ap, ◌∙◌}
use Rattle.std.specs.List.{list_any}
use Rattle.std.specs.Map.Iter.{deref_pair}
use Rattle.a1ql_plan.specs.Answer.{is_vertex}
use Rattle.a1ql_answer.specs.Steps.{ends_at}
use Rattle.a1ql_answer.proofs.HopLemmas.{leads_on}
use Rattle.a1ql_answer.proofs.chain.add_ends.Goals as goal

pub loop-edge-init : goal.loop-edge-init
loop-edge-init g c = λ w.
    ap (λ b. list_any (is_vertex w) c.args.names.now.keys || b)
    (ap (λ rows. list_any (ends_at c.args.hop.now w) (map deref_pair rows)) c.deref-edge-items.ensures.value
    ∙ (c.in_ok-edges.ensures (ends_at c.args.hop.now w) ∙ leads_on (g.V.View.graph c.args.view.now) c.args.hop.now c.args.vertex.now w))
