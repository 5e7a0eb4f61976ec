use Rattle.std.proofs.Common.{ℕ, Some, subst}
use Rattle.object_view.specs.Agreement.{stood, State}
use Rattle.half_edge_lists.specs.Forms.{FormTells}
use Rattle.half_edge_lists.specs.declared.lists.Form.{Form}
use Rattle.half_edge_lists.proofs.Entering.{list_formed}
use Rattle.half_edge_lists.proofs.shrinking.remove_in.Goals as goal

pub returns-in-Some-Short-clause-tells : goal.returns-in-Some-Short-clause-tells
returns-in-Some-Short-clause-tells g c h kind far halves places ag here list key =
    let nodes : ℕ = g.V.View.count c.args.view.now in
    let s : State = stood h (g.V.View.overlay c.args.view.now) in
    let told = subst (λ (x : Form). FormTells nodes s c.args.at c.args.owner halves places (Some x))
    c.in-Some-Short.field-0-is (c.in-Some-Short.ensures nodes s c.args.at halves places here list) in
    c.remove_short.ensures.tells h kind far halves places ag
    (list_formed nodes s c.args.at c.args.owner halves places list) told.0 told.1 key

pub returns-in-Some-Long-clause-tells : goal.returns-in-Some-Long-clause-tells
returns-in-Some-Long-clause-tells g c h kind far halves places ag here list key =
    let nodes : ℕ = g.V.View.count c.args.view.now in
    let s : State = stood h (g.V.View.overlay c.args.view.now) in
    let told = subst (λ (x : Form). FormTells nodes s c.args.at c.args.owner halves places (Some x))
    c.in-Some-Long.field-0-is (c.in-Some-Long.ensures nodes s c.args.at halves places here list) in
    c.remove_long.ensures.tells h kind far halves places ag
    (list_formed nodes s c.args.at c.args.owner halves places list) told.0 told.1 told.2 key
