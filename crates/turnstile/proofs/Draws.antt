-- Drawing a ticket keeps the rule.
use Rattle.std.proofs.Common.{sum_by, ◌≡◌, ℕ, ◌+◌, ◌%◌, ◌^◌, ◌<◌, ◌≤◌, List, [], ◌∷◌, length, get_or, set, sym, refl, ap, ◌∙◌, subst, inl, inr, ⊎_elim, arith}
use Rattle.std.specs.Prelude.{Option}
use Rattle.atomic_table.specs.Table.{State, Me, keeps, Allows}
use Rattle.a1_base.proofs.Sums.{sum_set}
use Rattle.turnstile.specs.declared.view.View.{View}
use Rattle.turnstile.specs.declared.view.Stage.TheVariants.{Idle, Waits, Inside}
use Rattle.turnstile.specs.Turns.{word_of, tickets, view, ViewFits, Kept, Drawn}
use Rattle.turnstile.proofs.Histories.{begins_none}
use Rattle.a1_base.proofs.Views.{each_set}
use Rattle.turnstile.proofs.Lists.{apart_set, nobody_set, somebody_set}

pub next_word : (d : ℕ) → (word_of d + 1) % 2 ^ 64 ≡ word_of (d + 1)
next_word d = omega arith

pub not_inside : {E : Type 0} (v : View E) → v.stage ≡ Idle → (n : ℕ) → v.stage ≡ Inside n → ⊥
not_inside v idle n is = let e = sym idle ∙ is in cc

module _ {T E : Type 0} (stands : T → List E → Type 0) (number : E → ℕ) (passes : ℕ) (start : E) where
  abbrev K : State (Option T) (View E) → Type 0
  K = Kept stands number passes start

  pub draws : (slots id : ℕ) (me : Me (Option T) (View E)) → me.0.stage ≡ Idle → 0 < length me.0.numbers
      → Allows K slots id me 0 (λ n. (n + 1) % 2 ^ 64) (λ n m'. Drawn me n m')
  draws slots id me idle some_number s k deep at small =
      let v : View E = me.0 in
      let w : View E = view (Waits k.drawn) v.numbers v.seen in
      let f : View E → ℕ = λ z. tickets z.stage in
      let g : View E → ℕ = λ z. length z.numbers in
      let sum : sum_by f (set s.views id w) + f v ≡ sum_by f s.views + f w = sum_set f s.views id v w at in
      let sum' : sum_by g (set s.views id w) + g v ≡ sum_by g s.views + g w = sum_set g s.views id v w at in
      let none : f v ≡ 0 = ap tickets idle in
      let mine = k.fits id v at in
      let out = k.out in
      let is : get_or s.words 0 0 ≡ word_of k.drawn = ap (λ (z : List ℕ). get_or z 0 0) k.words in
      let le : k.served ≤ k.drawn = omega arith in (
        w,
        keeps,
        tt,
        record {
          log = k.log;
          drawn = k.drawn + 1;
          served = k.served;
          words = ap (λ (z : List ℕ). set z 0 ((get_or s.words 0 0 + 1) % 2 ^ 64)) k.words
              ∙ ap (λ (z : ℕ). z ∷ word_of k.served ∷ word_of (length k.log) ∷ []) (ap (λ (z : ℕ). (z + 1) % 2 ^ 64) is ∙ next_word k.drawn);
          out = omega arith;
          few = k.few;
          held = let h = k.held in omega arith;
          begins = k.begins;
          zeros = k.zeros;
          no_more = k.no_more;
          fits = each_set (ViewFits number passes k.log (k.drawn + 1) k.served) s.views id w
              (λ j u ne e. let o = k.fits j u e in record {
                seen = o.seen;
                heard = o.heard;
                heard_own = o.heard_own;
                own = o.own;
                zero = o.zero;
                range = o.range;
                once = o.once;
                ticket = λ n t. let p = o.ticket n t in (p.0, (let q = p.1 in omega arith), p.2);
                inside = o.inside;
              })
              record {
                seen = mine.seen;
                heard = begins_none _;
                heard_own = λ x h. absurd h;
                own = mine.own;
                zero = mine.zero;
                range = mine.range;
                once = mine.once;
                ticket = λ n t. (subst (λ (z : ℕ). k.served ≤ z) t le, (let t' : k.drawn ≡ n = t in omega arith), some_number);
                inside = λ n e. cc;
              };
          apart = apart_set s.views id w k.apart
              (λ j u ne e. let a = k.apart id j v u (λ (z : id ≡ j). ne (sym z)) at e in record {
                numbers = a.numbers;
                tickets = λ n p q. let b = (k.fits j u e).ticket n q in let c = b.1 in let p' : k.drawn ≡ n = p in omega arith;
              });
          slot = ⊎_elim
              (λ t. inl (t.0, t.1, t.2, nobody_set s.views id w t.3 (λ n e. cc)))
              (λ t. inr (t.0, somebody_set s.views id v w at (not_inside v idle) t.1))
              k.slot;
        },
        (k.drawn, is, refl),
      )
