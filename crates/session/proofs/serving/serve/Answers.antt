use Rattle.std.proofs.Common.{◌≡◌, ◌++◌, ◌∷◌, [], sym, ap, ◌∙◌, map, map-id, length-append, arith, rules}
use Rattle.std.proofs.lemmas.List.{map-append}
use Rattle.std.proofs.lemmas.Iterator.Adapters.{YieldsList-from_vec}
use Rattle.std.proofs.lemmas.Iterator.Consumers.{YieldsList-end}
use Rattle.request_reader.specs.Request.{request_of}
use Rattle.session.specs.Serving.{Step}
use Rattle.answer_text.specs.declared.transcript.Line.{Line}
use Rattle.session.proofs.HistoryLemmas.{none_served, line_served, step_clock}
use Rattle.session.proofs.LegalLemmas.{served_legal}
use Rattle.session.proofs.serving.serve.Goals as goal

pub loop-request-init : goal.loop-request-init
loop-request-init c =
    let none : c.from_vec-lines.result ≡ [] = c.from_vec-lines.ensures ∙ c.in_ok-with_capacity.ensures.items in
    record { can = tt; ends = tt; requests = ap (map (λ (line : Line). line.request)) none; stands = rw none (none_served c.args.plain.now c.args.clock.now); bound = omega arith }

pub loop-request-preserved : goal.loop-request-preserved
loop-request-preserved c =
    let before = c.loop-request in
    let request = c.in-Some.request in
    let line : Line = record { request = request; reply = c.serve_line-reply.result } in
    let pushed : c.push.new.self ≡ before.lines ++ line ∷ [] = c.in_ok-push.ensures.ok in
    let step : Step before.plain before.clock (request_of request) c.serve_line-reply.result c.serve_line-reply.new.plain c.serve_line-reply.new.clock = rw c.as_slice.ensures at c.serve_line-reply.ensures in
    let later = step_clock before.plain before.clock (request_of request) c.serve_line-reply.result c.serve_line-reply.new.plain c.serve_line-reply.new.clock step in
    record {
      can = tt;
      ends = tt;
      requests = ap (map (λ (l : Line). l.request)) pushed ∙ map-append (λ (l : Line). l.request) before.lines (line ∷ []) ∙ ap (λ xs. xs ++ request ∷ []) before.invariant.requests;
      stands = rw pushed (line_served c.args.plain.now c.args.clock.now before.lines line before.plain before.clock c.serve_line-reply.new.plain c.serve_line-reply.new.clock before.invariant.stands step);
      bound = omega (arith, later, before.invariant.bound, length-append before.yielded (request ∷ []));
    }

pub returns-clause-legal : goal.returns-clause-legal
returns-clause-legal c =
    let all = YieldsList-end (YieldsList-from_vec {s = c.into_iter-request-iterator.result} c.args.requests.items (search rules) (search rules))
    c.loop-request.yielded c.loop-request.request-iterator c.loop-request.yielded_by c.next.result c.next.new.self c.in-None.is c.next.ensures.steps in
    let asked : map (λ (l : Line). l.request) c.loop-request.lines ≡ c.args.requests.items = c.loop-request.invariant.requests ∙ sym (map-id c.loop-request.yielded) ∙ all.0 in
    served_legal c.args.plain.now c.args.clock.now (record { session = c.args.number; lines = c.loop-request.lines }) c.loop-request.plain c.loop-request.clock
    (rw asked c.requires.names) c.loop-request.invariant.stands
