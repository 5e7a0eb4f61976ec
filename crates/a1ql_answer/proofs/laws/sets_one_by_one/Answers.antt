use Rattle.a1ql_answer.proofs.LevelLemmas.{start_law, step_law}
use Rattle.a1ql_answer.proofs.laws.sets_one_by_one.Goals as goal

pub returns : goal.returns
returns c = record { start = start_law; step = step_law }
