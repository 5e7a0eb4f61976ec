use Rattle.std.proofs.Common.{◌+◌, ◌-◌}
use Rattle.turnstile.proofs.tests.book.+fn-write_by_each-join+arg3+write_by_each.Given as goal

abbrev pub decreases-join+arg3 : goal.decreases-join+arg3
decreases-join+arg3 g l = l.writers + l.writers - 1

abbrev pub decreases-write_by_each : goal.decreases-write_by_each
decreases-write_by_each g l = l.writers + l.writers
