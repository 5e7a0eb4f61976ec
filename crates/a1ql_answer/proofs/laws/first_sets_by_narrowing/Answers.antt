use Rattle.a1ql_answer.proofs.RootLemmas.{root_law}
use Rattle.a1ql_answer.proofs.laws.first_sets_by_narrowing.Goals as goal

pub returns : goal.returns
returns c = root_law
