use Rattle.std.proofs.Common.{◌≡◌, ◌-◌, ◌+◌, ◌<◌, suc, [], ◌∷◌, ◌++◌, length, arith}
use Rattle.std.proofs.lemmas.List.{length-append}
use Rattle.a1_base.specs.declared.limits.TheConstants.{KEY_LIMIT}
use Rattle.a1_value.specs.Encoding.{unescaped}
use Rattle.a1_value.proofs.Escapes.{fails, ends, is_full, goes_on}
use Rattle.a1_value.proofs.keys.unescaped.Goals as goal

pub returns-in-Some-None-default : goal.returns-in-Some-None-default
returns-in-Some-None-default c = rw c.from_vec.ensures (ends c.loop-byte.content.items c.loop-byte.rest.now (unescaped KEY_LIMIT c.args.bytes.now) (KEY_LIMIT - length c.loop-byte.content.items)
    c.in-Some-None-default.after.now (rw c.in-Some-None-default.field-0-0-is at c.in-Some-None-default.ensures) c.loop-byte.invariant.1)

pub returns-in-None : goal.returns-in-None
returns-in-None c = fails c.loop-byte.content.items c.loop-byte.rest.now (unescaped KEY_LIMIT c.args.bytes.now) (KEY_LIMIT - length c.loop-byte.content.items) c.in-None.ensures c.loop-byte.invariant.1

pub returns-then-len-eq-KEY_LIMIT : goal.returns-then-len-eq-KEY_LIMIT
returns-then-len-eq-KEY_LIMIT c = is_full c.loop-byte.content.items c.loop-byte.rest.now (unescaped KEY_LIMIT c.args.bytes.now) (KEY_LIMIT - length c.loop-byte.content.items)
    c.in-Some-Some-default.byte c.in-Some-Some-default.after.now (rw c.in-Some-Some-default.field-0-0-is at c.in-Some-Some-default.ensures) (omega arith) c.loop-byte.invariant.1

pub loop-byte-preserved : goal.loop-byte-preserved
loop-byte-preserved c =
    let before = c.loop-byte.content.items in
    let next = c.in-Some-Some-default in
    let room : length before < KEY_LIMIT = omega (arith, c.if-len-eq-KEY_LIMIT.false, c.loop-byte.invariant.0) in
    let longer : length (before ++ next.byte ∷ []) ≡ length before + 1 = length-append before (next.byte ∷ []) in
    let less : KEY_LIMIT - length before ≡ suc (KEY_LIMIT - length (before ++ next.byte ∷ [])) = omega arith in
    rw c.in_ok-push.ensures.items (
      omega arith,
      goes_on before c.loop-byte.rest.now (unescaped KEY_LIMIT c.args.bytes.now) (KEY_LIMIT - length before)
          (KEY_LIMIT - length (before ++ next.byte ∷ [])) next.byte next.after.now (rw next.field-0-0-is at next.ensures) less c.loop-byte.invariant.1,
    )
