use Rattle.std.proofs.Common.{arith}
use Rattle.steps_text.proofs.WordLemmas.{above_limit, above_type}
use Rattle.steps_text.proofs.words.number_below.Goals as goal

pub returns-in_default : goal.returns-in_default
returns-in_default c =
    let read = c.in_ok-number.ensures in
    let large = c.in_default.ensures in
    above_type c.args.limit c.in_ok-number.field-0 c.args.word.now read.1 (omega arith) read.0

pub returns-else-from-limit : goal.returns-else-from-limit
returns-else-from-limit c =
    let read = c.in_ok-number.ensures in
    let same = c.in-Ok.ensures in
    above_limit c.args.limit c.in_ok-number.field-0 c.args.word.now read.1 (omega arith) read.0
