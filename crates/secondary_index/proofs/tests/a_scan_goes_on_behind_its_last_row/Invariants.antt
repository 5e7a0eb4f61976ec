use Rattle.a1_value.specs.Encoding.{IsKey}
use Rattle.secondary_index.proofs.tests.a_scan_goes_on_behind_its_last_row.Given as goal

abbrev pub invariant-loop-wanted : goal.invariant-loop-wanted
invariant-loop-wanted g l = IsKey l.low
