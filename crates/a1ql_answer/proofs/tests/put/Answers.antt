use Rattle.std.proofs.Common.{sym, ◌∙◌}
use Rattle.a1ql_answer.proofs.FilmLemmas.{still_keyed}
use Rattle.a1ql_answer.proofs.tests.put.Goals as goal

pub invariant_of-films : goal.invariant_of-films
invariant_of-films c = record {
  keyed = still_keyed c.insert.result (record { graph = 2; kind = c.in_ok-kind.kind; key = c.in_ok-key.key }) c.in_ok-values.values
      c.args.films.now.vertices c.insert.new.self c.args.films.now.keyed
      (c.in_ok-values.ensures ∙ (c.in_ok-first.ensures ∙ sym c.in_ok-key.ensures)) c.insert.ensures.updates c.insert.ensures.err;
}
