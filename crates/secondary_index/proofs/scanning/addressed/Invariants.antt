use Rattle.std.proofs.Common.{◌≡◌, map}
use Rattle.object_view.specs.Layout.{addr_of}
use Rattle.secondary_index.proofs.scanning.addressed.Given as goal

abbrev pub invariant-loop-key : goal.invariant-loop-key
invariant-loop-key l = l.found.items ≡ map (λ p. (p.0, addr_of p.1)) l.yielded
