-- A turn with another value.
use Rattle.turnstile.specs.declared.lock.Turn.{Turn}
use Rattle.turnstile.specs.declared.keeps.Keeps.{Ghosts}

abbrev pub with_value : {T E : Type 0} {g : Ghosts T E} → Turn T E g → T → Turn T E g
with_value t x = record t { value = x }
