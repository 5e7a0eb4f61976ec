use Rattle.std.proofs.Common.{inl, inr, arith}
use Rattle.steps_text.proofs.OneReading.{not_broken}
use Rattle.steps_text.proofs.laws.no_fault.Goals as goal

pub returns : goal.returns
returns c = λ nodes n text events a fault.
    elim fault [
      | inl long ↦ let short = a.short in omega (arith, long.0)
      | inr broken ↦ not_broken nodes events broken.events text broken.rest a.each a.lines broken.breaks
    ]
