-- The orders of names are total, and that of halves tells all of them apart.
use Rattle.std.specs.Prelude.{◌≡◌, ℕ, List, Bool, true, false}
use Rattle.std.specs.Ordering.{on, ordering_then, bool_cmp}
use Rattle.std.specs.declared.cmp.Ordering.TheVariants.{Equal}
use Rattle.std.specs.Cmp.{IsTotalOrder, nat_cmp_total, bool_cmp_total, on_total, then_total}
use Rattle.std.specs.Cmp.Lexicographic.{nat_list_cmp_total}
use Rattle.std.proofs.lemmas.Map.Lookups.{CmpEqualImpliesEq, exact_bytes}
use mathlib.Core.Path.{refl, sym, ◌∙◌}
use Rattle.a1_value.specs.OrderLaws.{value_total}
use Rattle.type_schema.specs.declared.names.VertexName.{VertexName}
use Rattle.type_schema.specs.declared.names.EdgeName.{EdgeName}
use Rattle.type_schema.specs.Graph.{vertex_order, edge_order, near, far}
use Rattle.graph_maps.specs.declared.half.Half.{Half}
use Rattle.graph_maps.specs.ExactKeys.{both, exact_vertices}
use Rattle.graph_maps.specs.Halves.{near_end, far_end, half_order, edge_between}

pub vertex_total : IsTotalOrder vertex_order
vertex_total =
    then_total (on_total (λ v. v.graph) nat_cmp_total)
    (then_total (on_total (λ v. v.kind) nat_list_cmp_total) (on_total (λ v. v.key) value_total))

pub edge_total : IsTotalOrder edge_order
edge_total =
    then_total (on_total (λ e. e.graph) nat_cmp_total)
    (then_total (on_total (λ e. e.kind) nat_list_cmp_total)
    (then_total (on_total (λ e. e.from_kind) nat_list_cmp_total)
    (then_total (on_total (λ e. e.from) value_total)
    (then_total (on_total (λ e. e.to_kind) nat_list_cmp_total) (on_total (λ e. e.to) value_total)))))

pub half_total : IsTotalOrder half_order
half_total =
    then_total (on_total near_end vertex_total)
    (then_total (on_total (λ h. h.out) bool_cmp_total)
    (then_total (on_total (λ h. h.edge.kind) nat_list_cmp_total) (on_total far_end vertex_total)))

pub exact_out : (a b : Bool) → bool_cmp a b ≡ Equal → a ≡ b
exact_out true true e = refl
exact_out true false e = cc
exact_out false true e = cc
exact_out false false e = refl

-- an edge is the one between its two ends
rebuilt : (out : Bool) (e : EdgeName) → edge_between out e.kind (near out e) (far out e) ≡ e
rebuilt true e = refl
rebuilt false e = refl

pub exact_halves : CmpEqualImpliesEq half_order
exact_halves a b e =
    let one = both _ _ e in
    let two = both _ _ one.1 in
    let three = both _ _ two.1 in
    let here = exact_vertices (near_end a) (near_end b) one.0 in
    let out = exact_out a.out b.out two.0 in
    let kind = exact_bytes a.edge.kind b.edge.kind three.0 in
    let there = exact_vertices (far_end a) (far_end b) three.1 in
    let edge : a.edge ≡ b.edge = sym (rebuilt a.out a.edge) ∙ ((λ i. edge_between (out i) (kind i) (here i) (there i)) ∙ rebuilt b.out b.edge) in
    λ i. record { out = out i; edge = edge i }
