use Rattle.std.proofs.Common.{◌≡◌, List, ℕ, ap, ◌∙◌}
use Rattle.std.specs.Prelude.{map, option_map}
use Rattle.object_view.specs.Agreement.{stood}
use Rattle.object_view.specs.Keys.{lookup}
use Rattle.object_view.proofs.Moving.{onward_then}
use Rattle.type_schema.specs.Objects.{half_entry}
use Rattle.type_schema.specs.Structures.{IsList, list_at, half_of}
use Rattle.half_edge_lists.proofs.Halves.{list_later, gives_from}
use Rattle.half_edge_lists.proofs.finding.find.Goals as goal

pub returns-in_err-at-clause-tells : goal.returns-in_err-at-clause-tells
returns-in_err-at-clause-tells g c h graph fields halves places ag v l =
    gives_from c.from_residual.result _ _ _ c.from_residual.ensures.1 (c.in_err-at.ensures.tells h graph fields ag v)

pub returns-in_err-word-clause-tells : goal.returns-in_err-word-clause-tells
returns-in_err-word-clause-tells g c h graph fields halves places ag v l =
    let at : c.in_ok-at.at ≡ list_at c.args.out fields =
    c.in_ok-at.ensures.tells h graph fields (c.in_err-word.ensures.onward.agreed h ag) v in
    let later : IsList (g.V.View.count c.list_at.new.view) (stood h (g.V.View.overlay c.list_at.new.view)) c.in_ok-at.at
    c.args.header halves places =
    list_later _ _ _ _ _ c.in_ok-at.at c.args.header halves places c.in_ok-at.ensures.onward.steady.count
    (ap (stood h) c.in_ok-at.ensures.overlay) at l in
    gives_from c.from_residual-in_err-word.result _ _ _ c.from_residual-in_err-word.ensures.1
    (c.in_err-word.ensures.tells h halves places ag later)

pub returns-clause-tells : goal.returns-clause-tells
returns-clause-tells g c h graph fields halves places ag v l =
    let at : c.in_ok-at.at ≡ list_at c.args.out fields =
    c.in_ok-at.ensures.tells h graph fields (c.in_ok-word.ensures.onward.agreed h ag) v in
    let later : IsList (g.V.View.count c.list_at.new.view) (stood h (g.V.View.overlay c.list_at.new.view)) c.in_ok-at.at
    c.args.header halves places =
    list_later _ _ _ _ _ c.in_ok-at.at c.args.header halves places c.in_ok-at.ensures.onward.steady.count
    (ap (stood h) c.in_ok-at.ensures.overlay) at l in
    c.half_with.ensures ∙ ap (option_map (half_of c.args.kind c.args.far))
    (c.in_ok-word.ensures.tells h halves places ag later
    ∙ ap (λ (k : List ℕ). lookup k (map half_entry halves)) (c.as_slice.ensures ∙ c.in_ok-key.ensures))

pub returns-in_err-word-clause-onward : goal.returns-in_err-word-clause-onward
returns-in_err-word-clause-onward g c =
    onward_then _ _ _ _ _ _ _ _ c.in_ok-at.ensures.onward c.in_err-word.ensures.onward

pub returns-clause-onward : goal.returns-clause-onward
returns-clause-onward g c = onward_then _ _ _ _ _ _ _ _ c.in_ok-at.ensures.onward c.in_ok-word.ensures.onward
