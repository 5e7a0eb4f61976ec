use Rattle.std.proofs.Common.{subst}
use Rattle.std.specs.Prelude.{map}
use Rattle.a1_base.specs.declared.place.Addr.{Addr}
use Rattle.object_view.specs.Agreement.{stood}
use Rattle.object_view.specs.Trees.{IsTree}
use Rattle.type_schema.specs.Objects.{half_entry}
use Rattle.half_edge_lists.proofs.finding.word_below.Goals as goal

pub returns-clause-tells : goal.returns-clause-tells
returns-clause-tells g c h owner halves places ag long same =
    c.get.ensures.tells h c.args.at (map half_entry halves) long.below ag
    (subst (λ (a : Addr). IsTree (g.V.View.count c.args.view.now) (stood h (g.V.View.overlay c.args.view.now)) a c.args.at
    (map half_entry halves) long.below) same long.tree)
