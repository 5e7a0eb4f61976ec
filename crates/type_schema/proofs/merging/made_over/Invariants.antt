use Rattle.std.proofs.Common.{◌≡◌, drop}
use Rattle.type_schema.specs.Schemas.{behind, made_over}
use Rattle.type_schema.proofs.CheckLemmas.{with_front}
use Rattle.type_schema.proofs.merging.made_over.Given as goal

abbrev pub invariant-loop-attr : goal.invariant-loop-attr
invariant-loop-attr l = with_front l.values.items (made_over (drop l.attr-index l.attrs) l.rest l.members) ≡ behind l.key (made_over l.attrs l.old l.members)
