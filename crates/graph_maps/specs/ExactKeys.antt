-- The orders of names and values tell all of them apart.
use Rattle.std.specs.Prelude.{◌≡◌}
use Rattle.std.specs.Ordering.{ordering_then}
use Rattle.std.specs.declared.cmp.Ordering.{Ordering}
use Rattle.std.specs.declared.cmp.Ordering.TheVariants.{Less, Equal, Greater}
use Rattle.std.proofs.lemmas.Map.Lookups.{CmpEqualImpliesEq, exact_unsigned, exact_signed, exact_bytes}
use mathlib.Core.Path.{refl, ap}
use Rattle.a1_value.specs.declared.value.Value.TheVariants.{Int, Text, Bytes}
use Rattle.a1_value.specs.Order.{byte_order, value_order}
use Rattle.type_schema.specs.Graph.{graph_order, type_order, vertex_order, edge_order}

-- where both parts tie
pub both : (a b : Ordering) → ordering_then a b ≡ Equal → (a ≡ Equal) × (b ≡ Equal)
both Less b e = cc
both Equal b e = (refl, e)
both Greater b e = cc

pub exact_names : CmpEqualImpliesEq byte_order
exact_names = exact_bytes

pub exact_values : CmpEqualImpliesEq value_order
exact_values (Int a) (Int b) e = ap Int (exact_signed a b e)
exact_values (Int a) (Text b) e = cc
exact_values (Int a) (Bytes b) e = cc
exact_values (Text a) (Int b) e = cc
exact_values (Text a) (Text b) e = ap Text (exact_bytes a b e)
exact_values (Text a) (Bytes b) e = cc
exact_values (Bytes a) (Int b) e = cc
exact_values (Bytes a) (Text b) e = cc
exact_values (Bytes a) (Bytes b) e = ap Bytes (exact_bytes a b e)

pub exact_graphs : CmpEqualImpliesEq graph_order
exact_graphs a b e =
    let parts = both (byte_order a.tenant b.tenant) (byte_order a.name b.name) e in
    let tenant = exact_bytes a.tenant b.tenant parts.0 in
    let name = exact_bytes a.name b.name parts.1 in
    λ i. record { tenant = tenant i; name = name i }

pub exact_types : CmpEqualImpliesEq type_order
exact_types a b e =
    let parts = both _ _ e in
    let graph = exact_unsigned a.graph b.graph parts.0 in
    let name = exact_bytes a.name b.name parts.1 in
    λ i. record { graph = graph i; name = name i }

pub exact_vertices : CmpEqualImpliesEq vertex_order
exact_vertices a b e =
    let first = both _ _ e in
    let then = both _ _ first.1 in
    let graph = exact_unsigned a.graph b.graph first.0 in
    let kind = exact_bytes a.kind b.kind then.0 in
    let key = exact_values a.key b.key then.1 in
    λ i. record { graph = graph i; kind = kind i; key = key i }

pub exact_edges : CmpEqualImpliesEq edge_order
exact_edges a b e =
    let one = both _ _ e in
    let two = both _ _ one.1 in
    let three = both _ _ two.1 in
    let four = both _ _ three.1 in
    let five = both _ _ four.1 in
    let graph = exact_unsigned a.graph b.graph one.0 in
    let kind = exact_bytes a.kind b.kind two.0 in
    let from_kind = exact_bytes a.from_kind b.from_kind three.0 in
    let source = exact_values a.from b.from four.0 in
    let to_kind = exact_bytes a.to_kind b.to_kind five.0 in
    let target = exact_values a.to b.to five.1 in
    λ i. record {
      graph = graph i;
      kind = kind i;
      from_kind = from_kind i;
      from = source i;
      to_kind = to_kind i;
      to = target i;
    }
