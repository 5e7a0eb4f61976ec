use Rattle.std.specs.Prelude.{map}
use Rattle.object_view.proofs.Standing.{tree_filled, tree_self}
use Rattle.type_schema.specs.Objects.{index_entry}
use Rattle.type_schema.proofs.Apart.{trees_apart}
use Rattle.secondary_index.proofs.laws.indexes_stand.Goals as goal

pub returns-clause-filled : goal.returns-clause-filled
returns-clause-filled c nodes s anchor owner rows places index =
    tree_filled nodes s anchor owner (map index_entry rows) places index.tree

pub returns-clause-anchored : goal.returns-clause-anchored
returns-clause-anchored c nodes s anchor owner rows places index =
    tree_self nodes s anchor owner (map index_entry rows) places index.tree

pub returns-clause-apart : goal.returns-clause-apart
returns-clause-apart c nodes s anchor owner rows places anchor2 owner2 rows2 places2 left right =
    trees_apart nodes s anchor owner (map index_entry rows) places anchor2 owner2 (map index_entry rows2) places2 left.tree
    right.tree
