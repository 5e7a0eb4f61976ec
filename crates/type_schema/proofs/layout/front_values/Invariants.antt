use Rattle.std.proofs.Common.{◌≡◌, ◌-◌}
use Rattle.a1_base.specs.Fronts.{several}
use Rattle.a1_value.specs.Encoding.{stored_front}
use Rattle.type_schema.proofs.Several.{with_front}
use Rattle.type_schema.proofs.layout.front_values.Given as goal

abbrev pub invariant-loop : goal.invariant-loop
invariant-loop l = with_front l.values.items (several (l.count - l.counter) stored_front l.rest) ≡ several l.count stored_front l.bytes
