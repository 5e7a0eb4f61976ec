-- Values and entries that can be told apart.
use Rattle.std.proofs.Common.{◌≡◌, true, subst, Ordering, is_eq}
use Rattle.std.specs.Bool.{Decides}
use Rattle.std.specs.Cmp.{IsTotalOrder}
use Rattle.std.proofs.lemmas.Map.Lookups.{CmpEqualImpliesEq}
use Rattle.a1_value.specs.declared.value.Value.{Value}
use Rattle.a1_value.specs.Order.{value_order}
use Rattle.a1_value.specs.OrderLaws.{value_total}
use Rattle.graph_maps.specs.ExactKeys.{exact_values}
use Rattle.graph_maps.proofs.MapLemmas.{itself, one_key}

-- an order whose ties are one key tells keys apart
pub told : {K : Type 0} (R : K → K → Ordering) → IsTotalOrder R → CmpEqualImpliesEq R → (a b : K) → Decides (is_eq (R a b)) (a ≡ b)
told R o exact a b = (one_key R o exact a b, λ e. subst (λ z. is_eq (R a z) ≡ true) e (itself R o a))

pub values_told : (a b : Value) → Decides (is_eq (value_order a b)) (a ≡ b)
values_told = told value_order value_total exact_values
