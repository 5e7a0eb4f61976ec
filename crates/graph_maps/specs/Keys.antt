-- The keys that code has.
use Rattle.std.specs.Prelude.{negsuc}
use Rattle.std.specs.BTreeMap.Range.{IsLeBy}
use Rattle.a1_value.specs.declared.value.Value.{Value}
use Rattle.a1_value.specs.declared.value.Value.TheVariants.{Int}
use Rattle.a1_value.specs.Order.{value_order}

-- the least of them
abbrev pub least_key : Value
least_key = Int (negsuc 9223372036854775807)

-- not before it
abbrev pub IsKey : Value → Type 0
IsKey key = IsLeBy value_order least_key key
