-- Answers handed on.
use Rattle.std.proofs.Common.{◌≡◌, Result, Ok, Err, OnOk, sym, subst}
use Rattle.std.specs.Prelude.{IsErrAnd}
use Rattle.object_view.specs.Parts.{Tells, Gives}
use Rattle.object_view.specs.declared.parts.PartFault.{PartFault}
use Rattle.object_view.specs.declared.parts.PartFault.TheVariants as part
use Rattle.object_view.proofs.Views.{tells_from}

gives_err : {A B : Type 0} (e : PartFault) (w : A) (v : B) → Gives {A = B} (Err e) v → Gives {A = A} (Err e) w
gives_err part.Memory w v p = tt
gives_err (part.Spent n) w v p = p
gives_err (part.Torn a) w v p = p
gives_err part.Tall w v p = p

-- a look's fault handed on by `?`
pub gives_from : {A B : Type 0} (r : Result A PartFault) (e : PartFault) (w : A) (v : B) → IsErrAnd r (λ f. f ≡ e)
    → Gives {A = B} (Err e) v → Gives r w
gives_from (Ok x) e w v h p = absurd h
gives_from {A} (Err f) e w v h p = subst (λ (x : PartFault). Gives {A = A} (Err x) w) (sym h) (gives_err e w v p)

gives_tells : {B : Type 0} (e : PartFault) (v : B) → Gives {A = B} (Err e) v → Tells {A = B} (Err e) (λ x. x ≡ v)
gives_tells part.Memory v p = tt
gives_tells (part.Spent n) v p = tt
gives_tells (part.Torn a) v p = p
gives_tells part.Tall v p = p

-- the same in a call that changes
pub tells_given : {A B : Type 0} (r : Result A PartFault) (e : PartFault) (P : A → Type 0) (v : B)
    → IsErrAnd r (λ f. f ≡ e) → Gives {A = B} (Err e) v → Tells r P
tells_given r e P v h p = tells_from r e P (λ x. x ≡ v) h (gives_tells e v p)

-- what an answer that is no fault says
pub on_ok : {A : Type 0} (r : Result A PartFault) (P Q : Type 0) → (P → Q) → OnOk r P → OnOk r Q
on_ok (Ok x) P Q f p = f p
on_ok (Err e) P Q f p = tt
