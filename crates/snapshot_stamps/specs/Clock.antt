-- The rule of the clock: one word, and what its seats know.
use Rattle.std.specs.Prelude.{◌≡◌, ℕ, ◌+◌, ◌^◌, ◌<◌, ◌≤◌, ◌==◌, min, cond, nat_lt, List, [], ◌∷◌, length, None, sum_by, count_by}
use mathlib.Core.Option.{some}
use lib.ListN.{get_elem?}
use Rattle.atomic_table.specs.Table.{State}
use Rattle.snapshot_stamps.specs.declared.watch.Watch.{Watch}
use Rattle.snapshot_stamps.specs.declared.watch.Pins.{Pins}
use Rattle.snapshot_stamps.specs.declared.watch.Mark.TheVariants.{Empty}
use Rattle.a1_base.specs.declared.limits.TheConstants.{LAST_STAMP}

-- how often x stands in the list
abbrev pub times : ℕ → List ℕ → ℕ
times x xs = count_by (λ y. y == x) xs

-- 1 for each number above the first and at most the second
abbrev pub once_between : ℕ → ℕ → ℕ → ℕ
once_between low high x = cond (nat_lt low x) (cond (nat_lt high x) 0 1) 0

-- what the rule says of one seat's pins and floor: no lane is marked, and none is looked at
pub record PinsFit (from : ℕ) (p : Pins) : Type 0 where
  pub floor : p.floor ≤ from
  pub rests : (p.mark ≡ Empty) × (p.loaded ≡ None) × (p.scan ≡ None)

-- what the rule says of one seat
pub record WatchFits (from clock : ℕ) (v : Watch) : Type 0 where
  pub known : v.known ≤ clock
  pub within : v.known ≤ LAST_STAMP
  -- a lane by whose seat an addition was made at the last stamp or above knows the last stamp
  pub over_lanes : v.over ≤ length v.lanes
  pub over_known : 0 < v.over → v.known ≡ LAST_STAMP
  -- without a lane there are no additions
  pub no_lane : v.lanes ≡ [] → (v.additions ≡ 0) × (v.drawn ≡ [])
  pub pins : PinsFit from v.pins

-- The clock is where it began plus all additions. Each stamp that it passed, up to the last stamp, was drawn by one
-- seat, once. Each lane belongs to one seat
pub record Clock (lanes from : ℕ) (s : State (Unit {0}) Watch) : Type 0 where
  pub clock : ℕ
  pub words : s.words ≡ clock ∷ []
  pub counted : from + sum_by (λ (v : Watch). v.additions) s.views ≡ clock
  pub begun : from ≤ LAST_STAMP
  pub drawn : (x : ℕ) → sum_by (λ (v : Watch). times x v.drawn) s.views ≡ once_between from (min clock LAST_STAMP) x
  pub few : lanes < 2 ^ 32
  pub lanes_out : sum_by (λ (v : Watch). length v.lanes) s.views ≡ lanes
  pub laned : (x : ℕ) → sum_by (λ (v : Watch). times x v.lanes) s.views ≡ once_between 0 lanes x
  pub bounded : clock ≤ LAST_STAMP + sum_by (λ (v : Watch). v.over) s.views
  pub fits : (i : ℕ) (v : Watch) → get_elem? s.views i ≡ some v → WatchFits from clock v
