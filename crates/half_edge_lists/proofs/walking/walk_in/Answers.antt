use Rattle.object_view.proofs.Views.{tells_from}
use Rattle.type_schema.specs.Objects.{IsHalf}
use Rattle.half_edge_lists.proofs.Behind.{from_all}
use Rattle.half_edge_lists.proofs.walking.walk_in.Goals as goal

pub returns-in_err-rest : goal.returns-in_err-rest
returns-in_err-rest c halves fit body =
    tells_from c.from_residual.result _ _ _ c.from_residual.ensures.1 (c.in_err-rest.ensures halves fit body)

pub returns : goal.returns
returns c halves fit body =
    c.halves_in.ensures _ (from_all IsHalf _ halves fit) (c.in_ok-rest.ensures halves fit body)
