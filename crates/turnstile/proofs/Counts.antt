-- The step that adds the entries of a turn to the log keeps the rule.
use Rattle.std.proofs.Common.{sum_by, ◌≡◌, ◌≢◌, ℕ, ◌+◌, ◌%◌, ◌^◌, List, [], ◌∷◌, ◌++◌, length, get_or, set, sym, refl, ap, ◌∙◌, subst, inr, ⊎_elim, arith, length-append}
use mathlib.Core.Option.{some}
use lib.ListN.{get_elem?}
use Rattle.a1_base.proofs.Sums.{sum_set}
use Rattle.std.specs.Prelude.{Option}
use Rattle.atomic_table.specs.Table.{State, Me, keeps, Allows}
use Rattle.turnstile.specs.declared.view.View.{View}
use Rattle.turnstile.specs.declared.view.Stage.{Stage}
use Rattle.turnstile.specs.declared.view.Stage.TheVariants.{Inside}
use Rattle.turnstile.specs.Turns.{word_of, HasTicket, tickets, ViewFits, Kept, having_added}
use Rattle.turnstile.specs.Entries.{AllOf}
use Rattle.a1_base.specs.Lists.{IsAmong, BeginsWith, entries_of}
use Rattle.a1_base.proofs.Views.{each_set}
use Rattle.turnstile.proofs.Lists.{apart_set, here_set}
use Rattle.turnstile.proofs.Histories.{begins_none, of_more, begins_itself, begins_more}

module _ {T E : Type 0} (stands : T → List E → Type 0) (number : E → ℕ) (passes : ℕ) (start : E) where
  abbrev K : State (Option T) (View E) → Type 0
  K = Kept stands number passes start

  -- whoever is inside is there alone
  pub alone_inside : (s : State (Option T) (View E)) (k : K s) (id n : ℕ) (v : View E) → get_elem? s.views id ≡ some v → v.stage ≡ Inside n
      → (j : ℕ) (u : View E) → j ≢ id → get_elem? s.views j ≡ some u → (m : ℕ) → u.stage ≡ Inside m → ⊥
  alone_inside s k id n v at inside j u ne e m is =
      (k.apart j id u v ne e at).tickets n
      (subst (λ (z : Stage). HasTicket z n) (sym is) (((k.fits j u e).inside m is).0 ∙ sym ((k.fits id v at).inside n inside).0))
      (subst (λ (z : Stage). HasTicket z n) (sym inside) refl)

  count_grows : (log new : List E) → (word_of (length log) + length new % 2 ^ 64) % 2 ^ 64 ≡ word_of (length (log ++ new))
  count_grows log new = let l : length (log ++ new) ≡ length log + length new = length-append log new in omega arith

  pub counts : (slots id n amount : ℕ) (me : Me (Option T) (View E)) (new : List E) → me.0.stage ≡ Inside n → amount ≡ length new % 2 ^ 64 → AllOf number me.0.numbers new
      → Allows K slots id me 2 (λ x. (x + amount) % 2 ^ 64) (λ x m'. m' ≡ (having_added new me.0, me.1))
  counts slots id n amount me new inside told all s k deep at small =
      let v : View E = me.0 in
      let w : View E = having_added new v in
      let f : View E → ℕ = λ z. tickets z.stage in
      let g : View E → ℕ = λ z. length z.numbers in
      let sum : sum_by f (set s.views id w) + f v ≡ sum_by f s.views + f w = sum_set f s.views id v w at in
      let sum' : sum_by g (set s.views id w) + g v ≡ sum_by g s.views + g w = sum_set g s.views id v w at in
      let mine = k.fits id v at in
      let now : n ≡ k.served = (mine.inside n inside).0 in
      let whole : k.log ≡ v.seen = (mine.inside n inside).1 in
      let grown : k.log ++ new ≡ v.seen ++ new = ap (λ (z : List E). z ++ new) whole in
      let above : IsAmong 0 v.numbers → ⊥ = (λ (h : IsAmong 0 v.numbers). let p = (mine.range 0 h).0 in omega arith) in
      let out = k.out in
      let is : get_or s.words 2 0 ≡ word_of (length k.log) = ap (λ (z : List ℕ). get_or z 2 0) k.words in
      let next : (get_or s.words 2 0 + amount) % 2 ^ 64 ≡ word_of (length (k.log ++ new)) =
      ap (λ (z : ℕ). (z + amount) % 2 ^ 64) is ∙ (ap (λ (z : ℕ). (word_of (length k.log) + z) % 2 ^ 64) told ∙ count_grows k.log new) in (
        w,
        keeps,
        tt,
        record {
          log = k.log ++ new;
          drawn = k.drawn;
          served = k.served;
          words = ap (λ (z : List ℕ). set z 2 ((get_or s.words 2 0 + amount) % 2 ^ 64)) k.words
              ∙ ap (λ (z : ℕ). word_of k.drawn ∷ word_of k.served ∷ z ∷ []) next;
          out = omega arith;
          few = k.few;
          held = let h = k.held in omega arith;
          begins = begins_more k.log (start ∷ []) new k.begins;
          zeros = of_more number 0 v.numbers k.log new all above ∙ k.zeros;
          no_more = λ j over. of_more number j v.numbers k.log new all (λ (h : IsAmong j v.numbers). let p = (mine.range j h).1 in omega arith) ∙ k.no_more j over;
          fits = each_set (ViewFits number passes (k.log ++ new) k.drawn k.served) s.views id w
              (λ j u ne e. let o = k.fits j u e in let a = k.apart j id u v ne e at in record {
                seen = begins_more k.log u.seen new o.seen;
                heard = o.heard;
                heard_own = o.heard_own;
                own = λ x h. of_more number x v.numbers k.log new all (a.numbers x h) ∙ o.own x h;
                zero = λ some. of_more number 0 v.numbers k.log new all above ∙ o.zero some;
                range = o.range;
                once = o.once;
                ticket = o.ticket;
                inside = λ m is. absurd (alone_inside s k id n v at inside j u ne e m is);
              })
              record {
                seen = subst (λ (z : List E). BeginsWith (k.log ++ new) z) grown (begins_itself (k.log ++ new));
                heard = begins_none _;
                heard_own = λ x h. absurd h;
                own = λ x h. ap (entries_of number x) grown;
                zero = λ some. ap (entries_of number 0) grown;
                range = mine.range;
                once = mine.once;
                ticket = mine.ticket;
                inside = λ m is. ((mine.inside m is).0, grown);
              };
          apart = apart_set s.views id w k.apart
              (λ j u ne e. let a = k.apart id j v u (λ (z : id ≡ j). ne (sym z)) at e in record { numbers = a.numbers; tickets = a.tickets });
          slot = ⊎_elim
              (λ t. absurd (t.3 id v n at inside))
              (λ t. inr (t.0, (id, w, n, here_set s.views id v w at, inside)))
              k.slot;
        },
        refl,
      )
