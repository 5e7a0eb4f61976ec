-- Turnstiles, passes and turns, as clauses name them.
use Rattle.std.specs.Prelude.{◌≡◌, ℕ, List}
use Rattle.turnstile.specs.declared.keeps.Keeps.{Ghosts}
use Rattle.turnstile.specs.declared.lock.Turnstile.{Turnstile}
use Rattle.turnstile.specs.declared.lock.Pass.{Pass}
use Rattle.turnstile.specs.declared.lock.Turn.{Turn}

-- how many passes there can be
abbrev pub pass_count : {T E : Type 0} → Turnstile T E → ℕ
pass_count lock = lock.table.shared.key.passes

-- the value that it was made with
abbrev pub first_value : {T E : Type 0} → Turnstile T E → T
first_value lock = lock.table.shared.key.value.value

module _ {T E : Type 0} {g : Ghosts T E} where
  -- the list that a pass has seen, and the numbers that it holds
  abbrev pub seen : Pass T E g → List E
  seen pass = pass.seat.me.0.seen

  abbrev pub numbers : Pass T E g → List ℕ
  numbers pass = pass.seat.me.0.numbers

  -- the list that the value stood for when the turn began, and the numbers of who entered
  abbrev pub entered : Turn T E g → List E
  entered turn = turn.held.seat.me.0.seen

  abbrev pub turn_numbers : Turn T E g → List ℕ
  turn_numbers turn = turn.held.seat.me.0.numbers

  abbrev pub IsPassOf : Turnstile T E → Pass T E g → Type 0
  IsPassOf lock pass = pass.seat.table_id ≡ lock.table.shared.table_id

  abbrev pub IsTurnOf : Turnstile T E → Turn T E g → Type 0
  IsTurnOf lock turn = turn.held.seat.table_id ≡ lock.table.shared.table_id
