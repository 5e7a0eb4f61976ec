use Rattle.std.proofs.Common.{subst}
use Rattle.answer_text.specs.Transcript.{NamesBefore}
use Rattle.session.proofs.tests.serves_each_line.Goals as goal

pub serve-requires-clause-names : goal.serve-requires-clause-names
serve-requires-clause-names g c = subst (NamesBefore 3) c.deref.ensures.value (c.are_named.ensures cc)
