use Rattle.std.proofs.Common.{◌≡◌, ◌∷◌, ◌++◌, take}
use Rattle.a1_value.specs.Encoding.{escaped}
use Rattle.a1_value.proofs.keys.push_escaped.Given as goal

abbrev pub invariant-loop-byte : goal.invariant-loop-byte
invariant-loop-byte l = l.out ≡ l.fn.out ++ l.kind ∷ escaped (take l.byte-index l.bytes)
