use Rattle.std.proofs.Common.{◌≡◌, take, drop}
use Rattle.run_text.specs.Script.{lines_in, onto}
use Rattle.run_text.proofs.lines.line_len.Given as goal

abbrev pub invariant-loop-at : goal.invariant-loop-at
invariant-loop-at l = lines_in l.bytes ≡ onto (take l.at l.bytes) (lines_in (drop l.at l.bytes))
