use Rattle.std.proofs.Common.{rules}
use Rattle.turnstile.proofs.Serves.{serves}
use Rattle.turnstile.proofs.lock.Turnstile.serve_next.Goals as goal

pub fetch_add-requires : goal.fetch_add-requires
fetch_add-requires g c = let d = c.requires.done in (search rules, search rules, serves g.T.Keeps.stands g.T.Keeps.number _ _ _ _ d.0 _ d.1 d.2 d.3 d.4)
