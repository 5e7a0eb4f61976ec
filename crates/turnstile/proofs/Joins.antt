-- Joining two seats keeps the rule.
use Rattle.std.proofs.Common.{sum_by, ◌≡◌, ◌≢◌, ℕ, ◌+◌, ◌<◌, ◌≤◌, Bool, true, false, cond, nat_lt, List, ◌++◌, length, set, sym, refl, ap, ◌∙◌, subst, ⊎_elim, arith, length-append, lt-ltb, le-ltb}
use mathlib.Core.Option.{some}
use lib.ListN.{get_elem?}
use Rattle.a1_base.proofs.Sums.{sum_set}
use Rattle.std.specs.Prelude.{Option}
use Rattle.atomic_table.specs.Table.{State, Joins}
use Rattle.atomic_table.proofs.Lists.{at_set, set_else}
use Rattle.turnstile.specs.declared.view.View.{View}
use Rattle.turnstile.specs.declared.view.Stage.TheVariants.{Idle}
use Rattle.turnstile.specs.Turns.{tickets, joined, spent, ViewFits, Apart, Kept}
use Rattle.turnstile.specs.Entries.{longer, shorter}
use Rattle.a1_base.specs.Lists.{IsAmong, BeginsWith, entries_of}
use Rattle.a1_base.proofs.Views.{each_set}
use Rattle.turnstile.proofs.Lists.{apart_set, apart_flip, nobody_set, somebody_set, set_swap}
use Rattle.turnstile.proofs.Histories.{has_either, once_both, between, of_between, begins_itself}
use Rattle.turnstile.proofs.Draws.{not_inside}
use Rattle.turnstile.proofs.Idles.{idle_fits, kept_views}
use Rattle.std.proofs.lemmas.Bool.{cases_lt}

module _ {E : Type 0} where
  by_length : (P : Bool → Type 0) (a b : List E) → (length a < length b → P true) → (length b ≤ length a → P false) → P (nat_lt (length a) (length b))
  by_length P a b less rest = ⊎_elim (λ lt. subst P (sym (lt-ltb _ _ lt)) (less lt)) (λ le. subst P (sym (le-ltb _ _ le)) (rest le)) (cases_lt (length a) (length b))

  joined_heard : (log a b : List E) → BeginsWith log a → BeginsWith log b → BeginsWith (longer a b) (shorter a b)
  joined_heard log a b p q = by_length (λ t. BeginsWith (cond t b a) (cond t a b)) a b (λ lt. between log a b p q (omega arith)) (between log b a q p)

  joined_own : (number : E → ℕ) (log : List E) (v w : View E) → BeginsWith log v.seen → BeginsWith log w.seen
      → ((k : ℕ) → IsAmong k v.numbers → entries_of number k log ≡ entries_of number k v.seen)
      → ((k : ℕ) → IsAmong k w.numbers → entries_of number k log ≡ entries_of number k w.seen)
      → (k : ℕ) → IsAmong k (joined v w).heard_numbers → entries_of number k (joined v w).seen ≡ entries_of number k (joined v w).heard
  joined_own number log v w p q own own' k = by_length
      (λ t. IsAmong k (cond t v.numbers w.numbers) → entries_of number k (cond t w.seen v.seen) ≡ entries_of number k (cond t v.seen w.seen)) v.seen w.seen
      (λ lt h. sym (of_between number k log v.seen w.seen q (between log v.seen w.seen p q (omega arith)) (own k h)) ∙ own k h)
      (λ le h. sym (of_between number k log w.seen v.seen p (between log w.seen v.seen q p le) (own' k h)) ∙ own' k h)

  pub longer_begins : (log a b : List E) → BeginsWith log a → BeginsWith log b → BeginsWith log (longer a b)
  longer_begins log a b p q = by_length (λ t. BeginsWith log (cond t b a)) a b (λ _. q) (λ _. p)

  pub longer_begun : (log a b : List E) → BeginsWith log a → BeginsWith log b → BeginsWith (longer a b) a × BeginsWith (longer a b) b
  longer_begun log a b p q = by_length (λ t. BeginsWith (cond t b a) a × BeginsWith (cond t b a) b) a b
      (λ lt. (between log a b p q (omega arith), begins_itself b)) (λ le. (begins_itself a, between log b a q p le))

module _ {T E : Type 0} (stands : T → List E → Type 0) (number : E → ℕ) (passes : ℕ) (start : E) where
  abbrev K : State (Option T) (View E) → Type 0
  K = Kept stands number passes start

  abbrev State' : Type 0
  State' = State (Option T) (View E)

  apart_spent : (u : View E) → Apart spent u
  apart_spent u = record { numbers = λ x p q. absurd p; tickets = λ m p q. absurd p }

  joins_swapped : (id other : ℕ) (v w : View E) (s : State') (k : K s) → v.stage ≡ Idle → w.stage ≡ Idle → other ≢ id
      → get_elem? s.views id ≡ some v → get_elem? s.views other ≡ some w
      → K record { words = s.words; homes = s.homes; views = set (set s.views other spent) id (joined v w) }
  joins_swapped id other v w s k idle idle' ne at at' =
      let both : View E = joined v w in
      let f : View E → ℕ = λ z. tickets z.stage in
      let g : View E → ℕ = λ z. length z.numbers in
      let less : List (View E) = set s.views other spent in
      let at1 : get_elem? less id ≡ some v = set_else s.views other id spent (λ (z : id ≡ other). ne (sym z)) ∙ at in
      let sum : sum_by f less + f w ≡ sum_by f s.views + f spent = sum_set f s.views other w spent at' in
      let sum' : sum_by g less + g w ≡ sum_by g s.views + g spent = sum_set g s.views other w spent at' in
      let all : sum_by f (set less id both) + f v ≡ sum_by f less + f both = sum_set f less id v both at1 in
      let all' : sum_by g (set less id both) + g v ≡ sum_by g less + g both = sum_set g less id v both at1 in
      let wide : g both ≡ g v + g w = length-append v.numbers w.numbers in
      let none : f v ≡ 0 = ap tickets idle in
      let none' : f w ≡ 0 = ap tickets idle' in
      let a = k.fits id v at in
      let b = k.fits other w at' in
      let begun = longer_begun k.log v.seen w.seen a.seen b.seen in
      let begins = longer_begins k.log v.seen w.seen a.seen b.seen in
      kept_views stands number passes start s k (set less id both) (omega arith) (omega arith)
      (each_set (ViewFits number passes k.log k.drawn k.served) less id both
      (λ j u ne. each_set (ViewFits number passes k.log k.drawn k.served) s.views other spent (λ j u ne e. k.fits j u e)
      (idle_fits number passes k.log k.drawn k.served _ _ (k.log, refl) (λ x h. absurd h) (λ some. absurd (omega arith)) (λ x h. absurd h) tt) j u)
      record {
        seen = begins;
        heard = joined_heard k.log v.seen w.seen a.seen b.seen;
        heard_own = joined_own number k.log v w a.seen b.seen a.own b.own;
        own = λ x h. ⊎_elim
            (λ p. of_between number x k.log v.seen (longer v.seen w.seen) begins begun.0 (a.own x p))
            (λ p. of_between number x k.log w.seen (longer v.seen w.seen) begins begun.1 (b.own x p))
            (has_either x v.numbers w.numbers h);
        zero = λ some. ⊎_elim
            (λ (p : 0 < length v.numbers). of_between number 0 k.log v.seen (longer v.seen w.seen) begins begun.0 (a.zero p))
            (λ (p : length v.numbers ≤ 0). of_between number 0 k.log w.seen (longer v.seen w.seen) begins begun.1 (b.zero (let n : length (v.numbers ++ w.numbers) ≡ length v.numbers + length w.numbers = wide in omega arith)))
            (cases_lt 0 (length v.numbers));
        range = λ x h. ⊎_elim (a.range x) (b.range x) (has_either x v.numbers w.numbers h);
        once = once_both v.numbers w.numbers a.once b.once (k.apart id other v w (λ (z : id ≡ other). ne (sym z)) at at').numbers;
        ticket = λ m t. absurd t;
        inside = λ m e. cc;
      })
      (apart_set less id both
      (apart_set s.views other spent k.apart (λ j u ne e. apart_spent u))
      (λ j u ne' e. ⊎_elim
      (λ t. subst (λ (z : View E). Apart both z) t.1 (apart_flip spent both (apart_spent both)))
      (λ t.
      let p = k.apart id j v u (λ (z : id ≡ j). ne' (sym z)) at t.1 in
      let q = k.apart other j w u (λ (z : other ≡ j). t.0 (sym z)) at' t.1 in
      record {
        numbers = λ x h r. ⊎_elim (λ y. p.numbers x y r) (λ y. q.numbers x y r) (has_either x v.numbers w.numbers h);
        tickets = λ m h r. absurd h;
      })
      (at_set s.views other j spent u e)))
      (λ nobody. nobody_set less id both (nobody_set s.views other spent nobody (λ m is. cc)) (λ m is. cc))
      (λ somebody. somebody_set less id v both at1 (not_inside v idle) (somebody_set s.views other w spent at' (not_inside w idle') somebody))

  pub joins : (id other : ℕ) (v w : View E) → v.stage ≡ Idle → w.stage ≡ Idle → Joins K id v other w (joined v w) spent
  joins id other v w idle idle' s k at ne at' =
      let there : get_elem? s.views other ≡ some w = sym (set_else s.views id other (joined v w) ne) ∙ at' in
      subst (λ (z : List (View E)). K record { words = s.words; homes = s.homes; views = z })
      (set_swap s.views other id spent (joined v w) ne)
      (joins_swapped id other v w s k idle idle' ne at there)
