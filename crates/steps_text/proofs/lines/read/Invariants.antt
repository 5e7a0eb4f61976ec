use Rattle.std.proofs.Common.{◌≡◌, ◌++◌, length}
use Rattle.std.specs.List.{flat_map, AllByRecursion}
use Rattle.steps_text.specs.EventText.{IsEvent, event_line}
use Rattle.steps_text.proofs.lines.read.Given as goal

abbrev pub invariant-loop-rest : goal.invariant-loop-rest
invariant-loop-rest l = record {
  each : AllByRecursion (IsEvent l.nodes) l.events.items;
  lines : l.text ≡ flat_map event_line l.events.items ++ l.rest;
}

abbrev pub decreases-loop-rest : goal.decreases-loop-rest
decreases-loop-rest l = length l.rest
