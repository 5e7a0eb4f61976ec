use Rattle.std.proofs.Common.{◌≤◌, List, None, take, map, ap, subst, sym, ◌∙◌}
use Rattle.std.proofs.lemmas.List.{length-map, take_all}
use Rattle.object_view.proofs.Views.{tells_from}
use Rattle.object_btree.specs.Intervals.{Pair}
use Rattle.type_schema.specs.Objects.{half_entry}
use Rattle.half_edge_lists.specs.Forms.{half_pair}
use Rattle.half_edge_lists.proofs.Behind.{from_pairs}
use Rattle.half_edge_lists.proofs.shrinking.entries_of.Goals as goal

pub returns-in_err-pairs-clause-tells : goal.returns-in_err-pairs-clause-tells
returns-in_err-pairs-clause-tells g c h owner halves places ag rising tree few =
    tells_from c.from_residual.result _ _ _ c.from_residual.ensures.1
    (c.in_err-pairs.ensures.tells h owner (map half_entry halves) places ag tree)

pub returns-clause-tells : goal.returns-clause-tells
returns-clause-tells g c h owner halves places ag rising tree few =
    c.spelled.ensures halves (c.as_slice.ensures.value
    ∙ c.in_ok-pairs.ensures.tells h owner (map half_entry halves) places ag tree
    ∙ ap (λ (x : List Pair). take 500 x) (from_pairs None halves rising)
    ∙ take_all 500 (map half_pair halves) (subst (λ n. n ≤ 500) (sym (length-map halves half_pair)) few))
