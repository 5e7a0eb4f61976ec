-- What each step on the clock tells the seat that makes it.
use Rattle.std.specs.Prelude.{◌≡◌, ℕ, ◌^◌, ◌<◌, ◌≤◌}
use Rattle.atomic_table.specs.Table.{Me, Step}
use Rattle.snapshot_stamps.specs.declared.watch.Watch.{Watch}
use Rattle.snapshot_stamps.specs.Watched.{Sees, AddsOne}
use Rattle.a1_base.specs.declared.limits.TheConstants.{LAST_STAMP}

-- where the clock stands at n, what a seat knows is a stamp, and its additions are among those that made the clock
abbrev pub Bounded : ℕ → Watch → Type 0
Bounded n v = (v.known ≤ LAST_STAMP) × (v.additions ≤ n) × (n < 2 ^ 63)

abbrev pub LoadsClock : ℕ → Watch → Watch → Type 0
LoadsClock n v w = Sees n v w × Bounded n v

abbrev pub Raises : ℕ → Watch → Watch → Type 0
Raises n v w = AddsOne n v w × Bounded n v

abbrev pub reads_clock : Step (Unit {0}) → Me (Unit {0}) Watch → ℕ → Me (Unit {0}) Watch → Type 0
reads_clock step before n after = LoadsClock n before.0 after.0 × (after.1 ≡ before.1)

abbrev pub raises_clock : Step (Unit {0}) → Me (Unit {0}) Watch → ℕ → Me (Unit {0}) Watch → Type 0
raises_clock step before n after = Raises n before.0 after.0 × (after.1 ≡ before.1)
