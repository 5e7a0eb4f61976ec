use Rattle.std.proofs.Common.{◌-◌}
use Rattle.object_view.specs.declared.mem_view.TheConstants.{PLACE_COUNT}
use Rattle.object_view.specs.Slots.{IsTakenBelow}
use Rattle.object_view.proofs.mem_view.MemView.first_vacant.Given as goal

abbrev pub invariant-loop-number : goal.invariant-loop-number
invariant-loop-number l = IsTakenBelow l.self.over l.self.heap l.self.nodes l.node l.number

abbrev pub decreases-loop-number : goal.decreases-loop-number
decreases-loop-number l = PLACE_COUNT - l.number
