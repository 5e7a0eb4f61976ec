use Rattle.std.proofs.Common.{◌≡◌, ◌<◌, ◌≤◌, ℕ, List, Some, Ok}
use Rattle.std.specs.Prelude.{slice_get}
use Rattle.request_reader.specs.Request.{request_of}
use Rattle.request_reader.specs.declared.request.Request.TheVariants.{After}
use Rattle.session.proofs.tests.are_named.Given as goal

abbrev pub invariant-loop-request : goal.invariant-loop-request
invariant-loop-request l = record {
  before : l.before ≡ l.request-index;
  named : (k q n : ℕ) (request : List ℕ) → k < l.request-index → slice_get l.requests k ≡ Some request
      → request_of request ≡ Ok (After q n) → q ≡ l.session → n ≤ k;
}
