use Rattle.std.proofs.Common.{◌≡◌, map, drop}
use Rattle.std.specs.List.{list_all}
use Rattle.a1ql_reader.specs.declared.places.Place.TheVariants.{Entry}
use Rattle.a1ql_reader.specs.Shapes.{fits, members_fit}
use Rattle.a1ql_reader.proofs.shapes.+fitting.Given as goal

abbrev pub invariant-are_entries-loop-item : goal.invariant-are_entries-loop-item
invariant-are_entries-loop-item l = list_all (λ f. f Entry) (map fits (drop l.item-index l.items)) ≡ list_all (λ f. f Entry) (map fits l.items)

abbrev pub invariant-members_fit-loop-member : goal.invariant-members_fit-loop-member
invariant-members_fit-loop-member l = members_fit l.place (map (λ m. (m.0, fits m.1)) (drop l.member-index l.members)) ≡ members_fit l.place (map (λ m. (m.0, fits m.1)) l.members)
