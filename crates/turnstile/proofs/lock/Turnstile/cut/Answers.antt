use Rattle.std.proofs.Common.{rules}
use Rattle.turnstile.proofs.Splits.{splits}
use Rattle.turnstile.proofs.lock.Turnstile.cut.Goals as goal

pub split_seat-requires : goal.split_seat-requires
split_seat-requires g c = (search rules, search rules, splits g.T.Keeps.stands g.T.Keeps.number _ _ _ _ _ c.requires.idle.0 c.requires.among)
