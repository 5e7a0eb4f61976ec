use Rattle.std.proofs.Common.{ap, sym, subst, ◌<◌, length}
use Rattle.turnstile.proofs.Histories.{without_has, has_some}
use Rattle.turnstile.proofs.lock.Turnstile.split.Goals as goal

pub invariant_of-result-2 : goal.invariant_of-result-2
invariant_of-result-2 g c =
    let is = c.cut-other.ensures.right in let other = c.requires.another in
    record {
      empty = ap (λ m. m.1) is;
      idle = ap (λ m. m.0.stage) is;
      some_number = subst (λ m. 0 < length m.0.numbers) (sym is) (has_some other.0 _ (without_has c.args.number other.0 _ other.1 other.2));
    }
