use Rattle.turnstile.proofs.Books.{another, parted}
use Rattle.turnstile.proofs.tests.book.part.Goals as goal

pub split-requires-clause-among : goal.split-requires-clause-among
split-requires-clause-among c = (another _ _ c.requires.two c.requires.all).0

pub split-requires-clause-another : goal.split-requires-clause-another
split-requires-clause-another c = (another _ _ c.requires.two c.requires.all).1

pub returns-clause-numbers : goal.returns-clause-numbers
returns-clause-numbers c = (c.split.ensures.numbers.0, parted _ _ _ c.requires.two c.requires.all c.split.ensures.numbers.1)
