use Rattle.std.proofs.Common.{◌≡◌, ◌-◌}
use Rattle.a1_base.specs.Fronts.{several}
use Rattle.type_schema.specs.Reading.{attr_front}
use Rattle.type_schema.proofs.Several.{with_front}
use Rattle.type_schema.proofs.layout.front_attrs.Given as goal

abbrev pub invariant-loop : goal.invariant-loop
invariant-loop l = with_front l.attrs.items (several (l.count - l.counter) attr_front l.rest) ≡ several l.count attr_front l.bytes
