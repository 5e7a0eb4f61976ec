-- What a transaction has read.
use Rattle.std.specs.Prelude.{Bool, false, not, ◌&&◌}
use Rattle.std.specs.BTreeSet.{BTreeSet, contains}
use Rattle.a1_base.specs.declared.place.Addr.{Addr}
use Rattle.object_region.specs.Occupancy.{addr_order, same_addr}
use Rattle.farm_core.specs.Machine.{with_addr}

-- what it read, and what of that it at no time locked nor found the same
pub record ReadSet : Type 0 where
  pub read : Addr → Bool
  pub unchecked : Addr → Bool

abbrev pub nothing_read : ReadSet
nothing_read = record { read = λ a. false; unchecked = λ a. false }

abbrev pub marks : BTreeSet Addr → Addr → Bool
marks set a = contains addr_order set a

abbrev pub without_addr : Addr → (Addr → Bool) → Addr → Bool
without_addr a marked b = not (same_addr a b) && marked b

-- an address is read
abbrev pub reading : Addr → ReadSet → ReadSet
reading a r = record { read = with_addr a r.read; unchecked = with_addr a r.unchecked }

abbrev pub unread : Addr → ReadSet → ReadSet
unread a r = record { read = without_addr a r.read; unchecked = without_addr a r.unchecked }

-- an address is locked, or found the same
abbrev pub checked : Addr → ReadSet → ReadSet
checked a r = record r { unchecked = without_addr a r.unchecked }
