-- What a walk answers and reads, as the views that it begins with tell.
use Rattle.std.proofs.Common.{◌≡◌, ℕ, List, Option, Result, Ok, Err, sym, subst}
use Rattle.std.specs.Prelude.{IsErrAnd}
use Rattle.a1_base.specs.declared.place.Addr.{Addr}
use Rattle.object_view.specs.Agreement.{Seen, State}
use Rattle.object_view.specs.Parts.{ReadsOnly, Tells, Gives}
use Rattle.object_view.specs.declared.parts.PartFault.{PartFault}
use Rattle.object_view.specs.declared.parts.PartFault.TheVariants as part
use Rattle.type_schema.specs.declared.objects.Half.{Half}
use Rattle.half_edge_lists.specs.Changes.{WalkReads}

gave : {A B : Type 0} (e : PartFault) (a : A) (P : B → Type 0) → Gives {A = A} (Err e) a → Tells {A = B} (Err e) P
gave part.Memory a P p = tt
gave (part.Spent n) a P p = absurd p
gave (part.Torn at) a P p = p
gave part.Tall a P p = p

-- a look's fault handed on by `?` as that of another answer
pub tells_gave : {A B : Type 0} (r : Result B PartFault) (e : PartFault) (a : A) (P : B → Type 0)
    → IsErrAnd r (λ f. f ≡ e) → Gives {A = A} (Err e) a → Tells r P
tells_gave (Ok x) e a P h p = absurd h
tells_gave {A} {B} (Err f) e a P h p =
    subst (λ (x : PartFault). Tells {A = B} (Err x) P) (sym h) (gave e a P p)

-- what a walk of the same list reads in a later view
pub reads_later : (n m : ℕ) (s t : State) (owner at a : Addr) (halves : List Half) (places : List Addr)
    (from : Option Half) (limit : ℕ) (old new : List Seen) → m ≡ n → t ≡ s → a ≡ at
    → ReadsOnly (WalkReads m t owner a halves places from limit) old new
    → ReadsOnly (WalkReads n s owner at halves places from limit) old new
reads_later n m s t owner at a halves places from limit old new count same here r =
    subst (λ (k : ℕ). ReadsOnly (WalkReads k s owner at halves places from limit) old new) count
    (subst (λ (u : State). ReadsOnly (WalkReads m u owner at halves places from limit) old new) same
    (subst (λ (b : Addr). ReadsOnly (WalkReads m t owner b halves places from limit) old new) here r))
