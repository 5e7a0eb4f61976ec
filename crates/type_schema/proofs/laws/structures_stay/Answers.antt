use Rattle.type_schema.proofs.Apart.{trees_apart, list_and_tree, lists_apart}
use Rattle.type_schema.proofs.Staying.{vertex_kept, body_kept, list_kept, list_filled, list_self, index_kept}
use Rattle.type_schema.proofs.laws.structures_stay.Goals as goal

pub returns-clause-vertex : goal.returns-clause-vertex
returns-clause-vertex c = vertex_kept

pub returns-clause-body : goal.returns-clause-body
returns-clause-body c = body_kept

pub returns-clause-list : goal.returns-clause-list
returns-clause-list c = list_kept

pub returns-clause-list_filled : goal.returns-clause-list_filled
returns-clause-list_filled c = list_filled

pub returns-clause-list_self : goal.returns-clause-list_self
returns-clause-list_self c = list_self

pub returns-clause-lists_apart : goal.returns-clause-lists_apart
returns-clause-lists_apart c = lists_apart

pub returns-clause-list_and_tree : goal.returns-clause-list_and_tree
returns-clause-list_and_tree c = list_and_tree

pub returns-clause-trees_apart : goal.returns-clause-trees_apart
returns-clause-trees_apart c = trees_apart

pub returns-clause-index : goal.returns-clause-index
returns-clause-index c = index_kept
