-- The order of values.
use Rattle.std.specs.Prelude.{ℕ, List}
use Rattle.std.specs.Ordering.{nat_cmp, int_cmp}
use Rattle.std.specs.Cmp.Lexicographic.{slice_cmp}
use Rattle.std.specs.declared.cmp.Ordering.{Ordering}
use Rattle.std.specs.declared.cmp.Ordering.TheVariants.{Less, Greater}
use Rattle.a1_value.specs.declared.value.Value.{Value}
use Rattle.a1_value.specs.declared.value.Value.TheVariants.{Int, Text, Bytes}

-- the order of texts and of bytes: by their bytes
abbrev pub byte_order : List ℕ → List ℕ → Ordering
byte_order = slice_cmp nat_cmp

-- numbers by size, then texts, then bytes
abbrev pub value_order : Value → Value → Ordering
value_order (Int a) (Int b) = int_cmp a b
value_order (Int a) (Text b) = Less
value_order (Int a) (Bytes b) = Less
value_order (Text a) (Int b) = Greater
value_order (Text a) (Text b) = byte_order a b
value_order (Text a) (Bytes b) = Less
value_order (Bytes a) (Int b) = Greater
value_order (Bytes a) (Text b) = Greater
value_order (Bytes a) (Bytes b) = byte_order a b
