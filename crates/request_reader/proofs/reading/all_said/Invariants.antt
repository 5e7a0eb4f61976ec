use Rattle.std.proofs.Common.{◌≡◌, drop}
use Rattle.request_reader.specs.Request.{each_of, said_by, operation, all_said}
use Rattle.request_reader.proofs.EachLemmas.{with_front}
use Rattle.request_reader.proofs.reading.all_said.Given as goal

abbrev pub invariant-loop-item : goal.invariant-loop-item
invariant-loop-item l = with_front l.ops (each_of (λ j. said_by (operation j)) (drop l.item-index l.items)) ≡ all_said l.items
