use Rattle.std.proofs.Common.{◌≡◌, drop}
use Rattle.type_schema.specs.Schemas.{behind, added_to}
use Rattle.type_schema.proofs.CheckLemmas.{with_front}
use Rattle.type_schema.proofs.merging.added_to.Given as goal

abbrev pub invariant-loop-attr : goal.invariant-loop-attr
invariant-loop-attr l = with_front l.values.items (added_to (drop l.attr-index l.attrs) l.rest l.name l.by) ≡ behind l.key (added_to l.attrs l.old l.name l.by)
