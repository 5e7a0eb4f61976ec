use Rattle.std.proofs.Common.{rules, ap}
use Rattle.turnstile.proofs.Hands.{hand_rest}
use Rattle.turnstile.proofs.lock.Turnstile.enter.Goals as goal

pub exchange-held-requires : goal.exchange-held-requires
exchange-held-requires g c =
    let e = c.look.ensures.entered.1 in (search rules, (_, hand_rest _ _ (ap (λ m. m.1) e.1)))
