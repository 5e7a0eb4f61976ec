-- What a run reads and writes.
use Rattle.std.specs.Prelude.{◌≡◌, ℕ, ◌<◌, ◌≤◌, List, [], length, take, Option, Some, None, ⊤}
use Rattle.std.specs.Io.KnownBytes.{append_known}
use Rattle.a1_base.specs.Outside.{Rose}
use Rattle.a1_base.specs.declared.limits.TheConstants.{SCRIPT_LIMIT}
use Rattle.a1.specs.declared.streams.Input.{Input}
use Rattle.a1.specs.declared.streams.Input.TheVariants.{Whole, TooLong}
use Rattle.a1.specs.declared.streams.ReadFault.{ReadFault}
use Rattle.a1.specs.declared.streams.ReadFault.TheVariants.{Failed, Memory}

-- all that the source held, which then holds nothing; or more than the limit
abbrev pub IsInput : Option (List ℕ) → Option (List ℕ) → Input → Type 0
IsInput None new (Whole bytes) = length bytes ≤ SCRIPT_LIMIT
IsInput None new TooLong = ⊤
IsInput (Some all) new (Whole bytes) = (all ≡ bytes) × (length bytes ≤ SCRIPT_LIMIT) × (new ≡ Some [])
IsInput (Some all) new TooLong = SCRIPT_LIMIT < length all

-- a read that failed has its cause; want of memory has none
abbrev pub ReadsWithCause : ℕ → ℕ → ReadFault → Type 0
ReadsWithCause before now Failed = Rose before now
ReadsWithCause before now Memory = ⊤

-- a front of the bytes, and not all of them, is written behind what was
abbrev pub WritesFront : Option (List ℕ) → Option (List ℕ) → List ℕ → Type 0
WritesFront old new bytes = (n : ℕ) × (n < length bytes) × (new ≡ append_known old (take n bytes))
