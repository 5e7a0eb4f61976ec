-- The rule holds at the start.
use Rattle.std.proofs.Common.{◌≡◌, ◌≢◌, ℕ, zero, suc, ◌^◌, ◌<◌, List, [], ◌∷◌, sym, refl, inl, arith, eq-eqb, ne_eqb}
use mathlib.Core.Option.{some, some-ne-none}
use lib.ListN.{get_elem?}
use Rattle.std.specs.Prelude.{Some}
use Rattle.atomic_table.specs.Table.{opening}
use Rattle.turnstile.specs.declared.view.View.{View}
use Rattle.turnstile.specs.declared.view.Stage.TheVariants.{Inside}
use Rattle.turnstile.specs.Turns.{newcomer, ViewFits, Apart, Kept}
use Rattle.a1_base.specs.Lists.{entries_of}
use Rattle.std.proofs.lemmas.Bool.{cond-true, cond-false}
use Rattle.a1_base.proofs.Views.{each_alone}
use Rattle.turnstile.proofs.Histories.{up_to_has, up_to_length, once_up_to, begins_itself}
use Rattle.turnstile.proofs.Idles.{idle_fits}

module _ {T E : Type 0} (stands : T → List E → Type 0) (number : E → ℕ) (passes : ℕ) (start : E) where
  of_start : (k : ℕ) → number start ≢ k → entries_of number k (start ∷ []) ≡ []
  of_start k ne = cond-false _ _ _ (ne_eqb (number start) k ne)

  of_zero : number start ≡ 0 → entries_of number 0 (start ∷ []) ≡ start ∷ []
  of_zero is = cond-true _ _ _ (eq-eqb (number start) 0 is)

  no_two : (i j : ℕ) (v w : View E) → i ≢ j → get_elem? (newcomer passes start ∷ []) i ≡ some v → get_elem? (newcomer passes start ∷ []) j ≡ some w → Apart v w
  no_two zero zero v w ne e f = absurd (ne refl)
  no_two zero (suc j) v w ne e f = absurd (some-ne-none w (sym f))
  no_two (suc i) j v w ne e f = absurd (some-ne-none v (sym e))

  pub starts : (value : T) → stands value (start ∷ []) → number start ≡ 0 → passes < 2 ^ 32
      → Kept stands number passes start (opening (0 ∷ 0 ∷ 1 ∷ []) (Some value ∷ []) (newcomer passes start))
  starts value st is few = record {
    log = start ∷ [];
    drawn = 0;
    served = 0;
    words = refl;
    out = refl;
    few = few;
    held = let l = up_to_length passes in omega arith;
    begins = begins_itself (start ∷ []);
    zeros = of_zero is;
    no_more = λ k over. of_start k (λ (e : number start ≡ k). omega arith);
    fits = each_alone (ViewFits number passes (start ∷ []) 0 0) (newcomer passes start)
        (idle_fits number passes (start ∷ []) 0 0 _ _ (begins_itself (start ∷ [])) (λ k h. refl) (λ some. refl) (λ k h. up_to_has k passes h) (once_up_to passes));
    apart = no_two;
    slot = inl (value, refl, st, λ i v n e. each_alone (λ (z : View E). (m : ℕ) → z.stage ≡ Inside m → ⊥) (newcomer passes start) (λ m e. cc) i v e n);
  }
