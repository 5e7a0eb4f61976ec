use Rattle.steps_text.proofs.WordLemmas.{cut_gives}
use Rattle.steps_text.proofs.words.cut.Goals as goal

pub returns : goal.returns
returns c = cut_gives c.args.mark c.args.text.now c.split_once.result c.split_once.ensures.cases c.requires
