use Rattle.std.proofs.Common.{rules, ap, subst}
use Rattle.turnstile.specs.Entries.{EachOnce}
use Rattle.turnstile.proofs.Histories.{once_apart}
use Rattle.turnstile.proofs.Joins.{joins}
use Rattle.turnstile.proofs.Learns.{learns}
use Rattle.turnstile.proofs.lock.Turnstile.join.Goals as goal

pub join_seat-requires : goal.join_seat-requires
join_seat-requires g c = (search rules, search rules, search rules, search rules, joins g.T.Keeps.stands g.T.Keeps.number _ _ _ _ _ _ c.args.first.idle c.args.second.idle)

pub load-requires : goal.load-requires
load-requires g c = (search rules, search rules, learns g.T.Keeps.stands g.T.Keeps.number _ _ _ _ _ (ap (λ m. m.0.stage) c.join_seat.ensures.2))

pub returns-clause-apart : goal.returns-clause-apart
returns-clause-apart g c = once_apart _ _ (subst (λ m. EachOnce m.0.numbers) c.join_seat.ensures.2 c.load.ensures.2.2)
