-- Taking entries out one after another.
use Rattle.std.specs.Prelude.{List, [], ◌∷◌}
use Rattle.std.specs.declared.cmp.Ordering.{Ordering}
use Rattle.a1_base.specs.Maps.{without}

-- the entries without those at these keys
abbrev pub without_all : {K X : Type 0} → (K → K → Ordering) → List K → List (K × X) → List (K × X)
without_all order [] entries = entries
without_all order (k ∷ keys) entries = without_all order keys (without order k entries)
