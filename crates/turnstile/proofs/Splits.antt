-- Splitting a seat keeps the rule.
use Rattle.std.proofs.Common.{sum_by, ◌≡◌, ℕ, ◌+◌, ◌<◌, List, [], ◌∷◌, ◌++◌, length, set, sym, ap, subst, ⊎_elim, arith}
use Rattle.std.specs.Prelude.{Option}
use Rattle.atomic_table.specs.Table.{State, Splits}
use Rattle.atomic_table.proofs.Lists.{at_set, at_longer}
use Rattle.a1_base.proofs.Sums.{sum_set, sum_more}
use Rattle.turnstile.specs.declared.view.View.{View}
use Rattle.turnstile.specs.declared.view.Stage.TheVariants.{Idle, Inside}
use Rattle.turnstile.specs.Turns.{tickets, first_half, second_half, ViewFits, Apart, Kept}
use Rattle.a1_base.specs.Lists.{IsAmong}
use Rattle.a1_base.proofs.Views.{each_set, each_end}
use Rattle.turnstile.proofs.Lists.{apart_set, apart_end, somebody_set}
use Rattle.turnstile.proofs.Histories.{without_else, without_less, has_some, once_without}
use Rattle.turnstile.proofs.Draws.{not_inside}
use Rattle.turnstile.proofs.Idles.{idle_fits, kept_views}

module _ {T E : Type 0} (stands : T → List E → Type 0) (number : E → ℕ) (passes : ℕ) (start : E) where
  abbrev K : State (Option T) (View E) → Type 0
  K = Kept stands number passes start

  pub splits : (id n : ℕ) (v : View E) → v.stage ≡ Idle → IsAmong n v.numbers → Splits K id v (first_half n v) (second_half n v)
  splits id n v idle has s k at =
      let left : View E = first_half n v in
      let right : View E = second_half n v in
      let f : View E → ℕ = λ z. tickets z.stage in
      let g : View E → ℕ = λ z. length z.numbers in
      let views : List (View E) = set s.views id left in
      let sum : sum_by f views + f v ≡ sum_by f s.views + f left = sum_set f s.views id v left at in
      let sum' : sum_by g views + g v ≡ sum_by g s.views + g left = sum_set g s.views id v left at in
      let end : sum_by f (views ++ right ∷ []) ≡ sum_by f views + f right = sum_more f views right in
      let end' : sum_by g (views ++ right ∷ []) ≡ sum_by g views + g right = sum_more g views right in
      let none : f v ≡ 0 = ap tickets idle in
      let less = without_less n v.numbers has in
      let mine = k.fits id v at in
      let some_number : 0 < length v.numbers = has_some n v.numbers has in
      let mine_of : (j : ℕ) → IsAmong j (n ∷ []) → IsAmong j v.numbers = λ j. ⊎_elim (λ (e : n ≡ j). subst (λ (z : ℕ). IsAmong z v.numbers) e has) (λ x. absurd x) in
      let P : View E → Type 0 = λ z. (m : ℕ) → z.stage ≡ Inside m → ⊥ in
      kept_views stands number passes start s k (views ++ right ∷ []) (omega arith) (omega arith)
      (each_end (ViewFits number passes k.log k.drawn k.served) views right
      (each_set (ViewFits number passes k.log k.drawn k.served) s.views id left (λ j u ne e. k.fits j u e)
      (idle_fits number passes k.log k.drawn k.served _ _ mine.seen (λ j h. mine.own j (mine_of j h)) (λ some. mine.zero some_number) (λ j h. mine.range j (mine_of j h)) ((λ h. h), tt)))
      (idle_fits number passes k.log k.drawn k.served _ _ mine.seen
      (λ j h. mine.own j (without_else n j v.numbers h).0) (λ some. mine.zero some_number) (λ j h. mine.range j (without_else n j v.numbers h).0) (once_without n v.numbers mine.once)))
      (apart_end views right
      (apart_set s.views id left k.apart (λ j u ne e. let a = k.apart id j v u (λ (z : id ≡ j). ne (sym z)) at e in record {
        numbers = λ x p q. a.numbers x (mine_of x p) q;
        tickets = λ m p q. absurd p;
      }))
      (λ j u e. ⊎_elim
      (λ t. subst (λ (z : View E). Apart right z) t.1 record {
        numbers = λ x p q. ⊎_elim (λ (z : n ≡ x). (without_else n x v.numbers p).1 (sym z)) (λ z. absurd z) q;
        tickets = λ m p q. absurd p;
      })
      (λ t. let a = k.apart id j v u (λ (z : id ≡ j). t.0 (sym z)) at t.1 in record {
        numbers = λ x p q. a.numbers x (without_else n x v.numbers p).0 q;
        tickets = λ m p q. absurd p;
      })
      (at_set s.views id j left u e)))
      (λ nobody i u m e. each_end P views right (each_set P s.views id left (λ j u ne e m. nobody j u m e) (λ m is. cc)) (λ m is. cc) i u e m)
      (λ somebody. let b = somebody_set s.views id v left at (not_inside v idle) somebody in (b.0, b.1, b.2, at_longer views (right ∷ []) b.0 b.1 b.3, b.4))
