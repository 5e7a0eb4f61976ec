-- Lists of entries in the order of their keys, as which ordered maps are seen.
use Rattle.std.specs.Prelude.{List, Bool, not, filter, Option, is_some}
use Rattle.std.specs.Ordering.{is_eq}
use Rattle.std.specs.Map.{lookup, keys_of}
use Rattle.std.specs.BTreeMap.{insert_entry, is_at}
use Rattle.std.specs.List.Sorted.{IsStrictlySortedBy}
use Rattle.std.specs.declared.cmp.Ordering.{Ordering}

module _ {K X : Type 0} (order : K → K → Ordering) where
  -- what the list has at the key k
  abbrev pub at : K → List (K × X) → Option X
  at k entries = lookup (is_at (order k)) entries

  abbrev pub has : K → List (K × X) → Bool
  has k entries = is_some (at k entries)

  -- the list with x at k, in k's place
  abbrev pub with_entry : K → X → List (K × X) → List (K × X)
  with_entry k x entries = insert_entry order entries k x

  -- the list without k
  abbrev pub without : K → List (K × X) → List (K × X)
  without k entries = filter (λ e. not (is_eq (order e.0 k))) entries

  -- each key comes before those behind it
  abbrev pub IsOrdered : List (K × X) → Type 0
  IsOrdered entries = IsStrictlySortedBy order (keys_of entries)
