-- The order of whole keys is total.
use Rattle.std.specs.Prelude.{length}
use Rattle.std.specs.Cmp.{IsTotalOrder, nat_cmp_total, on_total, then_total}
use Rattle.std.specs.Cmp.Lexicographic.{nat_list_cmp_total}
use Rattle.a1_value.specs.OrderLaws.{value_total}
use Rattle.type_schema.specs.Rows.{parts, short_first, parts_order, key_order}

short_first_total : IsTotalOrder short_first
short_first_total = then_total (on_total length nat_cmp_total) nat_list_cmp_total

parts_order_total : IsTotalOrder parts_order
parts_order_total =
    then_total (on_total (λ p. p.tag) nat_cmp_total)
    (then_total (on_total (λ p. p.text) nat_list_cmp_total)
    (then_total (on_total (λ p. p.tenant) nat_list_cmp_total)
    (then_total (on_total (λ p. p.graph) nat_cmp_total)
    (then_total (on_total (λ p. p.name) short_first_total)
    (then_total (on_total (λ p. p.from_kind) short_first_total)
    (then_total (on_total (λ p. p.from) value_total)
    (then_total (on_total (λ p. p.to_kind) short_first_total) (on_total (λ p. p.to) value_total))))))))

pub key_order_total : IsTotalOrder key_order
unfolding key_order
key_order_total = on_total parts parts_order_total
