use Rattle.turnstile.proofs.Hands.{done}
use Rattle.turnstile.proofs.lock.Turnstile.leave.Goals as goal

pub serve_next-requires-clause-done : goal.serve_next-requires-clause-done
serve_next-requires-clause-done g c =
    let t = c.args.turn in
    done g.T.Keeps.stands _ _ _ t.value t.held.inside t.held.hand c.exchange-empty.ensures.3 c.requires.stands
