use Rattle.a1ql_answer.proofs.LevelLemmas.{match_law}
use Rattle.a1ql_answer.proofs.laws.matches_by_edges.Goals as goal

pub returns : goal.returns
returns c = match_law
