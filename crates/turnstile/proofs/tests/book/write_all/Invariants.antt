use Rattle.std.proofs.Common.{◌≡◌}
use Rattle.turnstile.specs.Book.{HasWritten}
use Rattle.turnstile.specs.Passes.{IsPassOf, numbers, seen}
use Rattle.turnstile.proofs.tests.book.write_all.Given as goal

abbrev pub invariant-loop-nth : goal.invariant-loop-nth
invariant-loop-nth g l =
    IsPassOf l.lock l.pass
    × (numbers l.pass ≡ numbers l.initial.pass)
    × HasWritten l.by l.nth (seen l.initial.pass) (seen l.pass)
