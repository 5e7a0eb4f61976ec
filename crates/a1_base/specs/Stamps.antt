-- The range of stamps.
use Rattle.std.specs.Prelude.{ℕ, ◌<◌}
use Rattle.a1_base.specs.declared.limits.TheConstants.{STAMP_LIMIT}

abbrev pub IsStamp : ℕ → Type 0
IsStamp s = s < STAMP_LIMIT
