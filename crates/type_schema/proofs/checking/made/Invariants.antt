use Rattle.std.proofs.Common.{◌≡◌, drop}
use Rattle.type_schema.specs.Schemas.{made}
use Rattle.type_schema.proofs.CheckLemmas.{with_front}
use Rattle.type_schema.proofs.checking.made.Given as goal

abbrev pub invariant-loop-attr : goal.invariant-loop-attr
invariant-loop-attr l = with_front l.values.items (made (drop l.attr-index l.attrs) l.members) ≡ made l.attrs l.members
