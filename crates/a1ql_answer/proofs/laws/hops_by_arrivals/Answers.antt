use Rattle.a1ql_answer.proofs.HopLemmas.{hop_law}
use Rattle.a1ql_answer.proofs.laws.hops_by_arrivals.Goals as goal

pub returns : goal.returns
returns c = hop_law
