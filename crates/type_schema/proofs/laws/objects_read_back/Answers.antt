use Rattle.type_schema.proofs.ObjectLemmas.{header_exact, body_exact, half_exact, list_exact, long_exact}
use Rattle.type_schema.proofs.laws.objects_read_back.Goals as goal

pub returns-clause-header : goal.returns-clause-header
returns-clause-header c = header_exact

pub returns-clause-body : goal.returns-clause-body
returns-clause-body c = body_exact

pub returns-clause-half : goal.returns-clause-half
returns-clause-half c = half_exact

pub returns-clause-list : goal.returns-clause-list
returns-clause-list c = list_exact

pub returns-clause-long : goal.returns-clause-long
returns-clause-long c = long_exact
