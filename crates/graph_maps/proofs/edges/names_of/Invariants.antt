use Rattle.std.proofs.Common.{◌≡◌, ◌||◌, map, drop, is_eq}
use Rattle.std.specs.List.{list_any}
use Rattle.type_schema.specs.declared.names.EdgeName.{EdgeName}
use Rattle.type_schema.specs.Graph.{edge_order}
use Rattle.type_schema.specs.Schemas.{Record}
use Rattle.graph_maps.proofs.edges.names_of.Given as goal

-- the names so far and those of the rows to come are those of all rows
abbrev pub invariant-loop-name : goal.invariant-loop-name
invariant-loop-name l =
    (e : EdgeName) → (list_any (λ k. is_eq (edge_order e k)) l.names.keys || list_any (λ (x : EdgeName × Record). is_eq (edge_order e x.0)) (map (λ x. (x.0.now, x.1.now)) (drop l.name-index l.rows)))
    ≡ list_any (λ (x : EdgeName × Record). is_eq (edge_order e x.0)) (map (λ x. (x.0.now, x.1.now)) l.rows)
