-- The edges as the vertices at their ends see them.
use Rattle.std.specs.Prelude.{◌≡◌, ℕ, List, Bool, true, false, ◌||◌, Option, option_map}
use Rattle.std.specs.List.{filter_map}
use Rattle.std.specs.Ordering.{is_eq, on, then_cmp, bool_cmp}
use Rattle.std.specs.declared.cmp.Ordering.{Ordering}
use Rattle.a1_base.specs.Maps.{at, has}
use Rattle.a1_value.specs.Order.{byte_order}
use Rattle.type_schema.specs.declared.names.VertexName.{VertexName}
use Rattle.type_schema.specs.declared.names.EdgeName.{EdgeName}
use Rattle.type_schema.specs.Graph.{vertex_order, edge_order, source, target, near, far}
use Rattle.type_schema.specs.Schemas.{Record}
use Rattle.graph_maps.specs.declared.half.Half.{Half}

-- the vertex that sees it
abbrev pub near_end : Half → VertexName
near_end h = near h.out h.edge

-- the vertex at the other end
abbrev pub far_end : Half → VertexName
far_end h = far h.out h.edge

-- all but the other end
abbrev pub front_order : Half → Half → Ordering
front_order =
    then_cmp (on near_end vertex_order)
    (then_cmp (on (λ h. h.out) bool_cmp) (on (λ h. h.edge.kind) byte_order))

-- by the vertex that sees it, then the edges to it before those from it, then by type and other end
abbrev pub half_order : Half → Half → Ordering
half_order =
    then_cmp (on near_end vertex_order)
    (then_cmp (on (λ h. h.out) bool_cmp)
    (then_cmp (on (λ h. h.edge.kind) byte_order) (on far_end vertex_order)))

-- the edge of a type between these two vertices, of which the first sees it
abbrev pub edge_between : Bool → List ℕ → VertexName → VertexName → EdgeName
edge_between true kind v w =
    record { graph = v.graph; kind = kind; from_kind = v.kind; from = v.key; to_kind = w.kind; to = w.key }
edge_between false kind v w =
    record { graph = v.graph; kind = kind; from_kind = w.kind; from = w.key; to_kind = v.kind; to = v.key }

-- an edge begins or ends at the vertex
abbrev pub touches : VertexName → EdgeName → Bool
touches v e = is_eq (vertex_order v (source e)) || is_eq (vertex_order v (target e))

-- each edge is seen from both ends
abbrev pub AreSeen : List (EdgeName × Record) → List (Half × Unit {0}) → Type 0
AreSeen edges halves =
    (out : Bool) (e : EdgeName) → has edge_order e edges ≡ true
    → has half_order (record { out = out; edge = e }) halves ≡ true

-- the edges among these that are there
abbrev pub seen_edges : List (EdgeName × Record) → List (Half × Unit {0}) → List (EdgeName × Record)
seen_edges edges halves = filter_map (λ h. option_map (λ x. (h.0.edge, x)) (at edge_order h.0.edge edges)) halves
