use Rattle.std.proofs.Common.{◌≡◌, ◌||◌, ◌&&◌, true, sym, ap, ◌∙◌}
use Rattle.std.specs.List.{list_any}
use Rattle.type_schema.specs.Graph.{far}
use Rattle.a1ql_plan.specs.declared.plans.Expand.{out-Expand}
use Rattle.a1ql_plan.specs.Answer.{is_vertex, all_hold}
use Rattle.a1ql_answer.proofs.HopLemmas.{any_key}
use Rattle.a1ql_answer.proofs.chain.add_end.Goals as goal

pub returns-in_ok-insert : goal.returns-in_ok-insert
returns-in_ok-insert c = λ w.
    let h = out-Expand c.args.hop.now in
    let holds : all_hold h.tests c.args.values.now ≡ true =
    ap (λ ts. all_hold ts c.args.values.now) (sym c.as_slice.ensures) ∙ (sym c.all_hold.ensures ∙ c.if-all_hold.true) in
    let ends = ap (is_vertex w) c.in_ok-end.ensures ∙ sym (ap (λ b. b && is_vertex w (far h.out c.args.edge.now)) holds) in
    ap (list_any (is_vertex w)) c.in_ok-insert.ensures.keys
    ∙ (any_key w c.in_ok-end.end c.args.names.now.keys ∙ ap (λ b. list_any (is_vertex w) c.args.names.now.keys || b) ends)
