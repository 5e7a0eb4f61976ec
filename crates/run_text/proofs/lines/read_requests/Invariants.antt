use Rattle.std.proofs.Common.{◌≡◌, ◌≤◌, ◌+◌, ◌-◌, [], drop, length, map}
use Rattle.run_text.specs.Script.{lines_in, entries_from}
use Rattle.run_text.specs.Reading.{in_first}
use Rattle.run_text.proofs.lines.read_requests.Given as goal

abbrev pub invariant-loop-at : goal.invariant-loop-at
invariant-loop-at l = record {
  rest : entries_from 1 [] (lines_in l.bytes) ≡ entries_from l.number (map in_first l.requests.items) (lines_in (drop l.at l.bytes));
  within : l.at ≤ length l.bytes + 1;
  few : length l.requests.items + 1 ≤ l.number;
  counted : l.number ≤ l.at + 1;
  below : l.number ≤ length l.bytes + 1;
}

abbrev pub decreases-loop-at : goal.decreases-loop-at
decreases-loop-at l = length l.bytes + 1 - l.at
