use Rattle.std.proofs.Common.{◌≡◌, map, drop}
use Rattle.std.specs.List.{list_all}
use Rattle.a1ql_reader.specs.declared.places.Place.TheVariants.{Entry}
use Rattle.a1ql_reader.specs.Names.{named, object_named}
use Rattle.a1ql_reader.proofs.naming.+naming.Given as goal

abbrev pub invariant-entries_named-loop-item : goal.invariant-entries_named-loop-item
invariant-entries_named-loop-item l = list_all (λ f. f Entry) (map named (drop l.item-index l.items)) ≡ list_all (λ f. f Entry) (map named l.items)

abbrev pub invariant-object_named-loop-member : goal.invariant-object_named-loop-member
invariant-object_named-loop-member l = object_named l.place (map (λ m. (m.0, named m.1)) (drop l.member-index l.members)) ≡ object_named l.place (map (λ m. (m.0, named m.1)) l.members)
