use Rattle.std.proofs.Common.{◌≡◌, ◌≤◌, ◌+◌, map, length}
use Rattle.session.specs.Serving.{Stands}
use Rattle.session.proofs.serving.serve.Given as goal

abbrev pub invariant-loop-request : goal.invariant-loop-request
invariant-loop-request l = record {
  can : (goal.iterator-loop-request).can_next l.request-iterator;
  ends : (goal.iterator-loop-request).is_finite l.request-iterator;
  requests : map (λ line. line.request) l.lines ≡ l.yielded;
  stands : Stands l.fn.plain l.fn.clock l.lines l.plain l.clock;
  bound : l.clock ≤ l.fn.clock + length l.yielded;
}
