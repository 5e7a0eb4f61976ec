use Rattle.std.proofs.Common.{◌≡◌, map}
use Rattle.type_schema.specs.declared.rows.StoreKey.TheVariants as key
use Rattle.type_schema.specs.Rows.{in_key_order}
use Rattle.graph_plain.proofs.changing.in_key_order.Given as goal

abbrev pub invariant-loop-name : goal.invariant-loop-name
invariant-loop-name l = l.found.keys ≡ in_key_order (map (λ name. key.Edge name) l.yielded)
