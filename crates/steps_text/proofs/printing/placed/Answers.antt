use Rattle.std.proofs.Common.{append_assoc, rules}
use Rattle.steps_text.proofs.printing.placed.Goals as goal

pub returns : goal.returns
returns c = simp append_assoc (search rules)
