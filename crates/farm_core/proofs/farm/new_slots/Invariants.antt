use Rattle.std.proofs.Common.{◌≡◌, ◌+◌, vec_capacity}
use Rattle.farm_core.proofs.Words.{ACTOR_LIMIT}
use Rattle.farm_core.proofs.Running.{NewTo}
use Rattle.farm_core.proofs.farm.new_slots.Given as goal

abbrev pub invariant-loop : goal.invariant-loop
invariant-loop l = record { new : NewTo l.counter l.slots.items; room : vec_capacity l.slots ≡ ACTOR_LIMIT + 1 }
