use Rattle.std.proofs.Common.{◌≡◌, ◌-◌, ◌≤◌, length}
use Rattle.a1_base.specs.declared.limits.TheConstants.{KEY_LIMIT}
use Rattle.a1_value.specs.Encoding.{unescaped}
use Rattle.a1_value.proofs.Escapes.{with_front}
use Rattle.a1_value.proofs.keys.unescaped.Given as goal

abbrev pub invariant-loop-byte : goal.invariant-loop-byte
invariant-loop-byte l = (length l.content.items ≤ KEY_LIMIT)
    × (with_front l.content.items (unescaped (KEY_LIMIT - length l.content.items) l.rest) ≡ unescaped KEY_LIMIT l.bytes)

abbrev pub decreases-loop-byte : goal.decreases-loop-byte
decreases-loop-byte l = KEY_LIMIT - length l.content.items
