use Rattle.std.proofs.Common.{◌<◌, length, refl, append_assoc, arith}
use Rattle.a1_value.proofs.Escapes.{escaped_more}
use Rattle.a1_value.proofs.keys.push_escaped.Goals as goal

pub loop-byte-preserved : goal.loop-byte-preserved
loop-byte-preserved c =
    let lt : c.loop-byte.byte-index < length c.args.bytes.now = omega (arith, c.loop-byte-test.true) in
    rw (c.in_ok-push_byte.ensures, c.loop-byte.invariant, escaped_more c.args.bytes.now c.loop-byte.byte-index lt, append_assoc) refl
