use Rattle.std.proofs.Common.{◌≡◌, ◌++◌, map, IsTrue, string_bytes}
use Rattle.std.specs.List.{list_all}
use Rattle.std.specs.Vec.Iter.{into_iter_items}
use Rattle.serde_json.specs.View.{items_view, members_view}
use Rattle.a1_json.specs.Tree.{items_of, members_of, behind, has_ordered_names, names_ordered}
use Rattle.a1_json.proofs.reading.+convert.Given as goal

abbrev pub invariant-convert_items-loop-value : goal.invariant-convert_items-loop-value
invariant-convert_items-loop-value l = record {
  tree : items_of (items_view l.fn.values.items) ≡ behind l.items (items_of (items_view (into_iter_items l.value-iterator)));
  order : IsTrue (list_all has_ordered_names l.items);
}

abbrev pub invariant-convert_members-loop-name : goal.invariant-convert_members-loop-name
invariant-convert_members-loop-name l = record {
  tree : members_of (members_view l.fn.map.entries) ≡ behind l.members (members_of (members_view l.name-iterator));
  names : IsTrue (names_ordered (map (λ m. m.0) l.members ++ map (λ e. string_bytes e.0) l.name-iterator));
  order : IsTrue (list_all (λ m. has_ordered_names m.1) l.members);
}
