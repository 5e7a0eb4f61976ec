use Rattle.std.proofs.Common.{sym, ◌∙◌}
use Rattle.steps_text.proofs.OneReading.{same_events}
use Rattle.steps_text.proofs.laws.one_reading.Goals as goal

pub returns : goal.returns
returns c = λ nodes text events others a b. same_events nodes events others a.each b.each (sym a.lines ∙ b.lines)
