use Rattle.std.proofs.Common.{ap, ◌∙◌}
use Rattle.std.specs.List.{list_any}
use Rattle.type_schema.specs.Graph.{near}
use Rattle.a1ql_plan.specs.Answer.{is_vertex, is_type}
use Rattle.a1ql_answer.proofs.AnyLemmas.{any_at}
use Rattle.a1ql_answer.proofs.tests.FilmsView.edges.Goals as goal

pub returns : goal.returns
returns c test =
    ap (list_any test) c.in_ok-rows.ensures
    ∙ any_at (λ e. is_vertex c.args.vertex.now (near c.args.out e.0)) (λ e. is_type c.args.kind.now e.0.graph e.0.kind) test c.args.self.now.edges.entries
