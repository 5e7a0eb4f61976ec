use Rattle.std.proofs.Common.{◌∙◌, sym, ap}
use Rattle.type_schema.specs.Schemas.{key_of}
use Rattle.graph_plain.proofs.KeyedLemmas.{merged_keeps}
use Rattle.graph_plain.proofs.deciding.set.Goals as goal

pub returns-clause-due : goal.returns-clause-due
returns-clause-due c =
    merged_keeps c.vertex.inside.schema.now c.vertex.inside.values.now c.args.members.now c.in_ok-values.values c.in_ok-values.ensures.exact
    ∙ (ap (λ v. key_of v.values) c.vertex.view_is ∙ (c.in_ok-vertex.ensures.keyed ∙ ap (λ v. v.name.key) (sym c.vertex.view_is)))
