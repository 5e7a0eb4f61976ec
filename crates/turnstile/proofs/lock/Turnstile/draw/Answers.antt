use Rattle.std.proofs.Common.{rules}
use Rattle.turnstile.proofs.Draws.{draws}
use Rattle.turnstile.proofs.lock.Turnstile.draw.Goals as goal

pub fetch_add-requires : goal.fetch_add-requires
fetch_add-requires g c = (
  search rules,
  search rules,
  draws g.T.Keeps.stands g.T.Keeps.number _ _ _ _ _ c.requires.idle.0 c.requires.idle.1,
)
