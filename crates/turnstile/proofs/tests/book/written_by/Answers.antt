use Rattle.std.proofs.Common.{subst, sym, IfSome}
use Rattle.turnstile.specs.Entries.{HasAll}
use Rattle.turnstile.specs.Passes.{numbers}
use Rattle.turnstile.specs.Book.{HasEach}
use Rattle.turnstile.proofs.Books.{all_up_to, closed}
use Rattle.turnstile.proofs.tests.book.written_by.Goals as goal
use Rattle.turnstile.proofs.tests.book.written_by.Goals.{then-all_wrote, else-all_wrote}

pub close-marks-requires-clause-all : goal.close-marks-requires-clause-all
close-marks-requires-clause-all g c =
    subst (λ n. HasAll n (numbers c.write_by_each-pass.result.0)) (sym c.in-Ok.ensures.lock.0) (all_up_to _ _ c.write_by_each-pass.ensures.numbers)

pub returns : goal.returns
returns g c = elim c.if-all_wrote.branch [
  | then-all_wrote w ↦ subst (λ r. IfSome r (λ marks. HasEach c.args.writers c.args.times marks.items)) (sym w.result-is)
      (closed c.args.writers c.args.times _ _ _ c.in-Ok.ensures.pass.2 c.close-marks.ensures.0 (c.write_by_each-pass.ensures.written w.if-all_wrote.true))
  | else-all_wrote w ↦ subst (λ r. IfSome r (λ marks. HasEach c.args.writers c.args.times marks.items)) (sym w.result-is) tt
]
