use Rattle.std.proofs.Common.{◌≡◌, ◌++◌, false}
use Rattle.request_reader.specs.Operations.{is_large}
use Rattle.graph_plain.proofs.effects.Changing.append.Given as goal

abbrev pub invariant-loop-row : goal.invariant-loop-row
invariant-loop-row l = record {
  can : (goal.iterator-loop-row).can_next l.row-iterator;
  ends : (goal.iterator-loop-row).is_finite l.row-iterator;
  grown : l.self ≡ l.fn.self ++ l.yielded;
  small : is_large l.self ≡ false;
}
