-- A load by which a seat learns that what it has seen begins with what it heard.
use Rattle.std.proofs.Common.{sum_by, ◌≡◌, ℕ, ◌+◌, List, length, set, sym, refl, ◌∙◌, inl, inr, ⊎_elim, arith}
use Rattle.std.specs.Prelude.{Option}
use Rattle.atomic_table.specs.Table.{State, Me, keeps, Allows}
use Rattle.a1_base.proofs.Sums.{sum_set}
use Rattle.turnstile.specs.declared.view.View.{View}
use Rattle.turnstile.specs.declared.view.Stage.TheVariants.{Idle}
use Rattle.turnstile.specs.Turns.{tickets, view, ViewFits, Kept, Learned}
use Rattle.turnstile.proofs.Histories.{begins_none}
use Rattle.a1_base.proofs.Views.{each_set}
use Rattle.turnstile.proofs.Lists.{apart_set, nobody_set, somebody_set}
use Rattle.turnstile.proofs.Looks.{same_words}
use Rattle.turnstile.proofs.Draws.{not_inside}

module _ {T E : Type 0} (stands : T → List E → Type 0) (number : E → ℕ) (passes : ℕ) (start : E) where
  abbrev K : State (Option T) (View E) → Type 0
  K = Kept stands number passes start

  pub learns : (slots id : ℕ) (me : Me (Option T) (View E)) → me.0.stage ≡ Idle
      → Allows K slots id me 1 (λ n. n) (λ n m'. Learned number me m')
  learns slots id me idle s k deep at small =
      let v : View E = me.0 in
      let w : View E = view v.stage v.numbers v.seen in
      let f : View E → ℕ = λ z. tickets z.stage in
      let g : View E → ℕ = λ z. length z.numbers in
      let sum : sum_by f (set s.views id w) + f v ≡ sum_by f s.views + f w = sum_set f s.views id v w at in
      let sum' : sum_by g (set s.views id w) + g v ≡ sum_by g s.views + g w = sum_set g s.views id v w at in
      let mine = k.fits id v at in
      let out = k.out in (
        w,
        keeps,
        tt,
        record {
          log = k.log;
          drawn = k.drawn;
          served = k.served;
          words = same_words stands number passes start s k ∙ k.words;
          out = omega arith;
          few = k.few;
          held = let h = k.held in omega arith;
          begins = k.begins;
          zeros = k.zeros;
          no_more = k.no_more;
          fits = each_set (ViewFits number passes k.log k.drawn k.served) s.views id w (λ j u ne e. k.fits j u e)
              record { seen = mine.seen; heard = begins_none _; heard_own = λ x h. absurd h; own = mine.own; zero = mine.zero; range = mine.range; once = mine.once; ticket = mine.ticket; inside = mine.inside };
          apart = apart_set s.views id w k.apart
              (λ j u ne e. let a = k.apart id j v u (λ (z : id ≡ j). ne (sym z)) at e in record { numbers = a.numbers; tickets = a.tickets });
          slot = ⊎_elim
              (λ t. inl (t.0, t.1, t.2, nobody_set s.views id w t.3 (not_inside v idle)))
              (λ t. inr (t.0, somebody_set s.views id v w at (not_inside v idle) t.1))
              k.slot;
        },
        (mine.heard, mine.heard_own, mine.once, refl),
      )
