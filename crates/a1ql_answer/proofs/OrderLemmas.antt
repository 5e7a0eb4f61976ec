-- The order of vertices is total, and tells all of them apart.
use Rattle.std.proofs.Common.{◌≡◌, refl, ap, Ordering, Less, Equal, Greater}
use Rattle.std.specs.Ordering.{ordering_then}
use Rattle.std.specs.Cmp.{IsTotalOrder, nat_cmp_total, on_total, then_total}
use Rattle.std.specs.Cmp.Lexicographic.{nat_list_cmp_total}
use Rattle.std.proofs.lemmas.Map.Lookups.{CmpEqualImpliesEq, exact_unsigned, exact_signed, exact_bytes}
use Rattle.a1_value.specs.declared.value.Value.TheVariants.{Int, Text, Bytes}
use Rattle.a1_value.specs.Order.{value_order}
use Rattle.a1_value.specs.OrderLaws.{value_total}
use Rattle.type_schema.specs.Graph.{type_order, vertex_order}

both : (a b : Ordering) → ordering_then a b ≡ Equal → (a ≡ Equal) × (b ≡ Equal)
both Less b e = cc
both Equal b e = (refl, e)
both Greater b e = cc

pub exact_values : CmpEqualImpliesEq value_order
exact_values (Int a) (Int b) e = ap Int (exact_signed a b e)
exact_values (Int a) (Text b) e = cc
exact_values (Int a) (Bytes b) e = cc
exact_values (Text a) (Int b) e = cc
exact_values (Text a) (Text b) e = ap Text (exact_bytes a b e)
exact_values (Text a) (Bytes b) e = cc
exact_values (Bytes a) (Int b) e = cc
exact_values (Bytes a) (Text b) e = cc
exact_values (Bytes a) (Bytes b) e = ap Bytes (exact_bytes a b e)

pub exact_types : CmpEqualImpliesEq type_order
exact_types a b e =
    let parts = both _ _ e in
    let graph = exact_unsigned a.graph b.graph parts.0 in
    let name = exact_bytes a.name b.name parts.1 in
    λ i. record { graph = graph i; name = name i }

pub exact_vertices : CmpEqualImpliesEq vertex_order
exact_vertices a b e =
    let first = both _ _ e in
    let then = both _ _ first.1 in
    let graph = exact_unsigned a.graph b.graph first.0 in
    let kind = exact_bytes a.kind b.kind then.0 in
    let key = exact_values a.key b.key then.1 in
    λ i. record { graph = graph i; kind = kind i; key = key i }

pub vertex_total : IsTotalOrder vertex_order
vertex_total =
    then_total (on_total (λ v. v.graph) nat_cmp_total)
    (then_total (on_total (λ v. v.kind) nat_list_cmp_total) (on_total (λ v. v.key) value_total))
