use Rattle.std.proofs.Common.{◌≡◌, ◌∙◌, ◌-◌, [], refl, sym, ap, subst, take, map, append-nil}
use Rattle.std.specs.List.{All}
use Rattle.answer_text.specs.Transcript.{NamesBefore}
use Rattle.a1.proofs.EndingLemmas.{none_legal}
use Rattle.a1.proofs.RunLemmas.{last_of}
use Rattle.a1.proofs.run_command.serve_script.Goals as goal

pub returns-in_default : goal.returns-in_default
returns-in_default c =
    let all = c.into_sessions-sessions.result.items in
    let rest : c.pop.new.self.items ≡ [] = c.in_default.ensures.rest ∙ ap (λ n. take (n - 1) all) c.in_default.ensures.cases.0 in
    let none : all ≡ [] = c.in_default.ensures.items ∙ append-nil c.pop.new.self.items ∙ rest in
    let script : c.args.script ≡ [] = sym c.into_sessions-sessions.ensures ∙ ap (map (λ t. (t.0, t.1.items))) none in
    rw (c.new-transcripts.ensures, script) (record { of = refl; legal = none_legal _ _ })

pub serve_opening-requires-clause-named : goal.serve_opening-requires-clause-named
serve_opening-requires-clause-named c =
    last_of (λ t. NamesBefore t.0 t.1) (λ t. (t.0, t.1.items)) c.pop.new.self.items (c.in-Some.number, c.in-Some.requests)
    (subst (All (λ t. NamesBefore t.0 t.1))
    (sym c.into_sessions-sessions.ensures ∙ ap (map (λ t. (t.0, t.1.items))) c.in-Some.ensures.items) c.requires.named)
