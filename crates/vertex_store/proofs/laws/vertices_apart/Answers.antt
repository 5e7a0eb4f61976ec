use Rattle.vertex_store.proofs.Apart.{header_off_list, header_off_tree, body_off_list, body_off_tree, no_header, one_graph, one_owner}
use Rattle.vertex_store.proofs.laws.vertices_apart.Goals as goal

pub returns-clause-header_off_list : goal.returns-clause-header_off_list
returns-clause-header_off_list c = header_off_list

pub returns-clause-header_off_tree : goal.returns-clause-header_off_tree
returns-clause-header_off_tree c = header_off_tree

pub returns-clause-body_off_list : goal.returns-clause-body_off_list
returns-clause-body_off_list c = body_off_list

pub returns-clause-body_off_tree : goal.returns-clause-body_off_tree
returns-clause-body_off_tree c = body_off_tree

pub returns-clause-no_header : goal.returns-clause-no_header
returns-clause-no_header c = no_header

pub returns-clause-one_graph : goal.returns-clause-one_graph
returns-clause-one_graph c = one_graph

pub returns-clause-one_owner : goal.returns-clause-one_owner
returns-clause-one_owner c = one_owner
