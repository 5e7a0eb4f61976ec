-- What a seat knows of the clock, and what each step makes of it.
use Rattle.std.specs.Prelude.{◌≡◌, ◌⊎◌, ℕ, zero, suc, ◌+◌, ◌<◌, ◌≤◌, min, max, cond, nat_lt, List, [], ◌∷◌, ◌++◌, Option, Some, None}
use Rattle.a1_base.specs.declared.limits.TheConstants.{LAST_STAMP}
use Rattle.snapshot_stamps.specs.declared.watch.Watch.{Watch}
use Rattle.snapshot_stamps.specs.declared.watch.Pins.{Pins}
use Rattle.snapshot_stamps.specs.declared.watch.Mark.TheVariants.{Empty}

-- the numbers of so many lanes, from that one on
abbrev pub lanes_from : ℕ → ℕ → List ℕ
lanes_from first zero = []
lanes_from first (suc n) = first ∷ lanes_from (suc first) n

-- no pin is set, no lane is looked at, and this floor is known
abbrev pub resting : ℕ → Pins
resting floor = record { mark = Empty; loaded = None; floor = floor; scan = None }

-- a seat that knows a stamp, and has made no step
abbrev pub newcomer : ℕ → List ℕ → Watch
newcomer from lanes = record {
  known = from;
  drawn = [];
  additions = 0;
  lanes = lanes;
  over = 0;
  looks = 0;
  pins = resting from;
}

-- what a note of a seat knows
abbrev pub noted : Watch → Watch
noted v = record (newcomer v.known []) { pins = resting v.pins.floor }

-- the first lane of several that have made no step, and the others
abbrev pub first_lane : Watch → Watch
first_lane v = record v { lanes = first v.lanes } where
  first : List ℕ → List ℕ
  first [] = []
  first (k ∷ ks) = k ∷ []

abbrev pub other_lanes : Watch → Watch
other_lanes v = record (noted v) { lanes = others v.lanes } where
  others : List ℕ → List ℕ
  others [] = []
  others (k ∷ ks) = ks

-- the higher floor is known
abbrev pub both_pins : Pins → Pins → Pins
both_pins p q = record p { floor = max p.floor q.floor }

-- a seat that has learned what a note knows
abbrev pub meeting : Watch → Watch → Watch
meeting v note = record v { known = max v.known note.known; pins = both_pins v.pins note.pins }

-- two seats in one
abbrev pub joined : Watch → Watch → Watch
joined v w = record (meeting v w) {
  drawn = v.drawn ++ w.drawn;
  additions = v.additions + w.additions;
  lanes = v.lanes ++ w.lanes;
  over = v.over + w.over;
}

-- what is left of a seat that another took in
abbrev pub spent : Watch
spent = newcomer 0 []

-- the same seat, which knows no less, and may have looked at the clock
abbrev pub Learned : Watch → Watch → Type 0
Learned v w = (v.known ≤ w.known) × (v.looks ≤ w.looks) × (w ≡ record v { known = w.known; looks = w.looks })

-- one look at the clock, which stood at n: the lesser of it and the last stamp is known now
abbrev pub Sees : ℕ → Watch → Watch → Type 0
Sees n v w = (v.known ≤ n) × (w ≡ record v { known = min n LAST_STAMP; looks = v.looks + 1 })

-- a look at the clock was made
abbrev pub having_looked : Watch → Watch
having_looked v = record v { looks = v.looks + 1 }

-- the stamp is known now, as the last that was drawn
abbrev pub having_drawn : ℕ → Watch → Watch
having_drawn w v = record v { known = w; drawn = v.drawn ++ w ∷ []; additions = v.additions + 1 }

-- one was added to the clock, which stood at n: the new stamp is drawn and known, or the last stamp was passed
abbrev pub AddsOne : ℕ → Watch → Watch → Type 0
AddsOne n v w =
    (v.known ≤ n)
    × (n < LAST_STAMP → w ≡ having_drawn (n + 1) v)
    × (LAST_STAMP ≤ n → w ≡ record v { known = LAST_STAMP; additions = v.additions + 1; over = v.over + 1 })

-- what a draw answers where the clock was seen at n
abbrev pub drawn_at : ℕ → Option ℕ
drawn_at n = cond (nat_lt n LAST_STAMP) (Some (n + 1)) None

-- A draw: the clock is seen, and then one is added. Nothing is drawn exactly where the clock that was seen stands at
-- the last stamp or above, or is raised above it
abbrev pub DrawsStamp : Watch → Option ℕ → Watch → Type 0
DrawsStamp v answer w =
    (seen : ℕ) × (between : Watch) × Sees seen v between
    × (((LAST_STAMP ≤ seen) × (answer ≡ None) × (w ≡ between))
    ⊎ ((seen < LAST_STAMP) × ((n : ℕ) × AddsOne n between w × (answer ≡ drawn_at n))))
