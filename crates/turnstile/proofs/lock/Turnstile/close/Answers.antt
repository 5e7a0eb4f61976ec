use Rattle.turnstile.proofs.Closes.{closes_with, closes_at}
use Rattle.turnstile.proofs.lock.Turnstile.close.Goals as goal

pub unreachable-requires : goal.unreachable-requires
unreachable-requires g c =
    let p = c.args.pass in
    let r = closes_with g.T.Keeps.stands g.T.Keeps.number _ _ _ _ _ _ c.take-slot.result p.idle p.some_number c.requires.all c.close_with-closed.ensures.values.2 c.take-slot.ensures.value in
    c.in_default.not-Some r.0 r.1

pub returns : goal.returns
returns g c =
    let p = c.args.pass in
    let r = closes_with g.T.Keeps.stands g.T.Keeps.number _ _ _ _ _ _ c.take-slot.result p.idle p.some_number c.requires.all c.close_with-closed.ensures.values.2 c.take-slot.ensures.value in
    closes_at g.T.Keeps.stands g.T.Keeps.number 0 _ c.take-slot.result r.0 c.in-Some.value p.seat.me.0.seen r.1 c.in-Some.is r.2
