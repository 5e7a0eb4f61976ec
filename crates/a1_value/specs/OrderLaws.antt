-- The order of values is total.
use Rattle.std.specs.Prelude.{◌≡◌, ℕ, ℤ, pos, List, []}
use Rattle.std.specs.Cmp.{IsTotalOrder, nat_cmp_total, int_cmp_total, on_total, then_total}
use Rattle.std.specs.Cmp.Lexicographic.{nat_list_cmp_total}
use Rattle.std.specs.Ordering.{on, then_cmp, ordering_then, nat_cmp, int_cmp}
use Rattle.std.specs.declared.cmp.Ordering.{Ordering}
use Rattle.std.specs.declared.cmp.Ordering.TheVariants.{Less, Equal, Greater}
use mathlib.Core.Path.{refl, sym, subst}
use Rattle.a1_value.specs.declared.value.Value.{Value}
use Rattle.a1_value.specs.declared.value.Value.TheVariants.{Int, Text, Bytes}
use Rattle.a1_value.specs.Order.{byte_order, value_order}

then_level : (a : Ordering) → a ≡ ordering_then a Equal
then_level Less = refl
then_level Equal = refl
then_level Greater = refl

rank : Value → ℕ
rank (Int n) = 0
rank (Text t) = 1
rank (Bytes b) = 2

number_part : Value → ℤ
number_part (Int n) = n
number_part (Text t) = pos 0
number_part (Bytes b) = pos 0

bytes_part : Value → List ℕ
bytes_part (Int n) = []
bytes_part (Text t) = t
bytes_part (Bytes b) = b

by_parts : Value → Value → Ordering
by_parts = then_cmp (on rank nat_cmp) (then_cmp (on number_part int_cmp) (on bytes_part byte_order))

value_by_parts : (a b : Value) → by_parts a b ≡ value_order a b
unfolding by_parts rank number_part bytes_part
value_by_parts (Int a) (Int b) = sym (then_level (int_cmp a b))
value_by_parts (Int a) (Text b) = refl
value_by_parts (Int a) (Bytes b) = refl
value_by_parts (Text a) (Int b) = refl
value_by_parts (Text a) (Text b) = refl
value_by_parts (Text a) (Bytes b) = refl
value_by_parts (Bytes a) (Int b) = refl
value_by_parts (Bytes a) (Text b) = refl
value_by_parts (Bytes a) (Bytes b) = refl

parts_total : IsTotalOrder by_parts
unfolding by_parts
parts_total =
    then_total (on_total rank nat_cmp_total)
    (then_total (on_total number_part int_cmp_total) (on_total bytes_part nat_list_cmp_total))

pub value_total : IsTotalOrder value_order
value_total = subst IsTotalOrder (λ i a b. value_by_parts a b i) parts_total
