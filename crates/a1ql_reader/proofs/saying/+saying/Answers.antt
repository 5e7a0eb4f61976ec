use Rattle.std.proofs.Common.{subst}
use Rattle.a1ql_reader.specs.Pattern.{Reads}
use Rattle.a1ql_reader.proofs.SaysLemmas.{object_vertex, object_edge, object_entry, list_matches, no_object, no_list}
use Rattle.a1ql_reader.proofs.saying.+saying.Goals as goal

pub vertex-returns-in-Members : goal.vertex-returns-in-Members
vertex-returns-in-Members t c = subst (Reads c.vertex_of.result) (object_vertex _ _ _ c.in-Members.is c.as_slice.ensures) c.vertex_of.ensures

pub edge-returns-in-Members : goal.edge-returns-in-Members
edge-returns-in-Members t c = subst (Reads c.edge_of.result) (object_edge _ _ _ c.in-Members.is c.as_slice.ensures c.args.out) c.edge_of.ensures

pub entry-returns-in-Members : goal.entry-returns-in-Members
entry-returns-in-Members t c = subst (Reads c.entry_of.result) (object_entry _ _ _ c.in-Members.is c.as_slice.ensures) c.entry_of.ensures

pub matches-returns-in-List : goal.matches-returns-in-List
matches-returns-in-List t c = subst (Reads c.hops_of.result) (list_matches _ _ _ c.in-List.is c.as_slice.ensures) c.hops_of.ensures

pub vertex-returns-in_default : goal.vertex-returns-in_default
vertex-returns-in_default t c = (no_object _ c.in_default.not-Members).0

pub edge-returns-in_default : goal.edge-returns-in_default
edge-returns-in_default t c = (no_object _ c.in_default.not-Members).1.0 c.args.out

pub entry-returns-in_default : goal.entry-returns-in_default
entry-returns-in_default t c = (no_object _ c.in_default.not-Members).1.1

pub matches-returns-in_default : goal.matches-returns-in_default
matches-returns-in_default t c = no_list _ c.in_default.not-List
