-- Seats that stand outside.
use Rattle.std.proofs.Common.{sum_by, ◌≡◌, ◌≢◌, ℕ, ◌<◌, ◌≤◌, List, length, inl, inr, ⊎_elim, arith}
use mathlib.Core.Option.{some}
use lib.ListN.{get_elem?}
use Rattle.std.specs.Prelude.{Option}
use Rattle.atomic_table.specs.Table.{State}
use Rattle.a1_base.specs.Lists.{IsAmong, BeginsWith, entries_of}
use Rattle.turnstile.specs.declared.view.View.{View}
use Rattle.turnstile.specs.declared.view.Stage.TheVariants.{Idle}
use Rattle.turnstile.specs.Turns.{tickets, view, ViewFits, Apart, Kept, NobodyInside, SomebodyInside}
use Rattle.turnstile.specs.Entries.{EachOnce}
use Rattle.turnstile.proofs.Histories.{begins_none}

-- what the rule says of a seat outside, which has nothing to learn
pub idle_fits : {E : Type 0} (number : E → ℕ) (passes : ℕ) (log : List E) (drawn served : ℕ) (numbers : List ℕ) (seen : List E) → BeginsWith log seen
    → ((k : ℕ) → IsAmong k numbers → entries_of number k log ≡ entries_of number k seen) → (0 < length numbers → entries_of number 0 log ≡ entries_of number 0 seen)
    → ((k : ℕ) → IsAmong k numbers → (0 < k) × (k ≤ passes)) → EachOnce numbers
    → ViewFits number passes log drawn served (view Idle numbers seen)
idle_fits number passes log drawn served numbers seen begins own zero range once = record {
  seen = begins;
  own = own;
  zero = zero;
  range = range;
  once = once;
  ticket = λ n t. absurd t;
  inside = λ n e. cc;
  heard = begins_none _;
  heard_own = λ x h. absurd h;
}

module _ {T E : Type 0} (stands : T → List E → Type 0) (number : E → ℕ) (passes : ℕ) (start : E) where
  -- other views of seats, with as many tickets out and no more numbers held
  pub kept_views : (s : State (Option T) (View E)) (k : Kept stands number passes start s) (views : List (View E))
      → sum_by (λ (v : View E). tickets v.stage) views ≡ sum_by (λ (v : View E). tickets v.stage) s.views
      → sum_by (λ (v : View E). length v.numbers) views ≤ sum_by (λ (v : View E). length v.numbers) s.views
      → ((i : ℕ) (v : View E) → get_elem? views i ≡ some v → ViewFits number passes k.log k.drawn k.served v)
      → ((i j : ℕ) (v w : View E) → i ≢ j → get_elem? views i ≡ some v → get_elem? views j ≡ some w → Apart v w)
      → (NobodyInside s.views → NobodyInside views) → (SomebodyInside s.views → SomebodyInside views)
      → Kept stands number passes start record { words = s.words; homes = s.homes; views = views }
  kept_views s k views out held fits apart nobody somebody = record {
    log = k.log;
    drawn = k.drawn;
    served = k.served;
    words = k.words;
    out = let o = k.out in omega arith;
    few = k.few;
    held = let h = k.held in omega arith;
    begins = k.begins;
    zeros = k.zeros;
    no_more = k.no_more;
    fits = fits;
    apart = apart;
    slot = ⊎_elim (λ t. inl (t.0, t.1, t.2, nobody t.3)) (λ t. inr (t.0, somebody t.1)) k.slot;
  }
