use Rattle.std.proofs.Common.{take}
use Rattle.steps_text.specs.Reading.{Lacks}
use Rattle.steps_text.proofs.lines.cut_line.Given as goal

abbrev pub invariant-loop-at : goal.invariant-loop-at
invariant-loop-at l = Lacks 10 (take l.at l.text)
