use Rattle.std.proofs.Common.{rules, ap, ◌∙◌}
use Rattle.turnstile.proofs.Looks.{looks_any}
use Rattle.turnstile.proofs.lock.Turnstile.look.Goals as goal

pub load-serving-requires : goal.load-serving-requires
load-serving-requires g c =
    let same = c.loop.invariant.4 in let w = c.requires.waits in (
      search rules,
      search rules,
      looks_any g.T.Keeps.stands g.T.Keeps.number _ _ _ _ w.0 _ (ap (λ m. m.0.stage) same ∙ w.1) (ap (λ m. m.1) same ∙ w.2),
    )
