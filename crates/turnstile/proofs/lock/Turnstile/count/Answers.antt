use Rattle.std.proofs.Common.{rules, ap, sym, ◌∙◌, ◌%◌, ◌^◌, length}
use Rattle.turnstile.proofs.Hands.{inside_is}
use Rattle.turnstile.proofs.Counts.{counts}
use Rattle.turnstile.proofs.lock.Turnstile.count.Goals as goal

pub fetch_add-requires : goal.fetch_add-requires
fetch_add-requires g c =
    let n = inside_is _ c.requires.inside in (
      search rules,
      search rules,
      counts g.T.Keeps.stands g.T.Keeps.number _ _ _ _ n.0 _ _ g.N.News.entries n.1 (c.count.ensures ∙ ap (λ es. length es % 2 ^ 64) (sym c.requires.told)) c.requires.mine,
    )
