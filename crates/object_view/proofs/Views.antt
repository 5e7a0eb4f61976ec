-- Steps from view to view, and their answers.
use Rattle.std.proofs.Common.{◌≡◌, Bool, true, false, ◌⊎◌, inl, inr, ℕ, ◌%◌, cond, eqb-true, eq-eqb, List, Option, Some, None, Result, Ok, Err, IfOk, IfErr, OnOk, refl, sym, ap, subst, ◌∙◌}
use Rattle.std.specs.Prelude.{IsSome, IsErrAnd, ◌==◌}
use Rattle.a1_base.specs.declared.place.Addr.{Addr}
use Rattle.object_view.specs.Agreement.{Heap, Overlay, Seen, State, Agrees, stood, same_addr}
use Rattle.object_view.specs.Calls.{StandsIn}
use Rattle.object_view.specs.Parts.{with_bytes, LookTells, Tells, Gives, Lasts}
use Rattle.object_view.specs.Trees.{is_on}
use Rattle.object_view.specs.declared.parts.PartFault.{PartFault}
use Rattle.object_view.specs.declared.parts.PartFault.TheVariants as part
use Rattle.object_view.proofs.Addresses.{same_or, same_itself}

-- ---- answers

pub tells_map : {A : Type 0} (r : Result A PartFault) (P Q : A → Type 0) → ((x : A) → P x → Q x) → Tells r P
    → Tells r Q
tells_map (Ok x) P Q f p = f x p
tells_map (Err part.Memory) P Q f p = tt
tells_map (Err (part.Spent n)) P Q f p = tt
tells_map (Err (part.Torn a)) P Q f p = p
tells_map (Err part.Tall) P Q f p = p

pub tells_err : {A B : Type 0} (e : PartFault) (P : A → Type 0) (Q : B → Type 0) → Tells {A = A} (Err e) P
    → Tells {A = B} (Err e) Q
tells_err part.Memory P Q p = tt
tells_err (part.Spent n) P Q p = tt
tells_err (part.Torn a) P Q p = p
tells_err part.Tall P Q p = p

-- a call's fault handed on by `?`
pub tells_from : {A B : Type 0} (r : Result A PartFault) (e : PartFault) (P : A → Type 0) (Q : B → Type 0)
    → IsErrAnd r (λ f. f ≡ e) → Tells {A = B} (Err e) Q → Tells r P
tells_from (Ok x) e P Q h p = absurd h
tells_from {A} (Err f) e P Q h p = subst (λ (x : PartFault). Tells {A = A} (Err x) P) (sym h) (tells_err e Q P p)

pub look_err : {A : Type 0} (at : Addr) (e : PartFault) (r : Bool) (o : Option (List ℕ)) (b : List ℕ) (P : A → Type 0)
    → LookTells at r o (Err e) → r ≡ true → o ≡ Some b → Tells {A = A} (Err e) P
look_err at part.Memory r o b P l served some = tt
look_err at (part.Spent n) r o b P l served some = absurd l
look_err at (part.Torn a) r o b P l served some = let n : o ≡ None = l.1 served in absurd cc
look_err at part.Tall r o b P l served some = absurd l

look_gives : {A : Type 0} (at : Addr) (e : PartFault) (r : Bool) (o : Option (List ℕ)) (b : List ℕ) (want : A)
    → LookTells at r o (Err e) → r ≡ true → o ≡ Some b → Gives (Err e) want
look_gives at part.Memory r o b want l served some = tt
look_gives at (part.Spent n) r o b want l served some = absurd l
look_gives at (part.Torn a) r o b want l served some = let n : o ≡ None = l.1 served in absurd cc
look_gives at part.Tall r o b want l served some = absurd l

-- a look's fault handed on by `?`, where something stands
pub gives_look : {A : Type 0} (x : Result A PartFault) (at : Addr) (e : PartFault) (r : Bool) (o : Option (List ℕ))
    (b : List ℕ) (want : A) → IsErrAnd x (λ f. f ≡ e) → LookTells at r o (Err e) → r ≡ true → o ≡ Some b
    → Gives x want
gives_look (Ok y) at e r o b want h l served some = absurd h
gives_look {A} (Err f) at e r o b want h l served some =
    subst (λ (g : PartFault). Gives {A = A} (Err g) want) (sym h) (look_gives at e r o b want l served some)

there_tells : {A : Type 0} (at : Addr) (e : PartFault) (r : Bool) (o : Option (List ℕ)) (P : A → Type 0)
    → LookTells at r o (Err e) → r ≡ true → (o ≡ None → ⊥) → Tells {A = A} (Err e) P
there_tells at part.Memory r o P l served there = tt
there_tells at (part.Spent n) r o P l served there = absurd l
there_tells at (part.Torn a) r o P l served there = there (l.1 served)
there_tells at part.Tall r o P l served there = absurd l

pub tells_look : {A : Type 0} (x : Result A PartFault) (at : Addr) (e : PartFault) (r : Bool) (o : Option (List ℕ))
    (P : A → Type 0) → IsErrAnd x (λ f. f ≡ e) → LookTells at r o (Err e) → r ≡ true → (o ≡ None → ⊥) → Tells x P
tells_look (Ok y) at e r o P h l served there = absurd h
tells_look {A} (Err f) at e r o P h l served there =
    subst (λ (g : PartFault). Tells {A = A} (Err g) P) (sym h) (there_tells at e r o P l served there)

pub memory_tells : {A : Type 0} (e : PartFault) (P : A → Type 0) → e ≡ part.Memory → Tells {A = A} (Err e) P
memory_tells {A} e P m = subst (λ (x : PartFault). Tells {A = A} (Err x) P) (sym m) tt

pub made_tells : {A : Type 0} (e : PartFault) (n : ℕ) (P : A → Type 0) → (e ≡ part.Memory) ⊎ (e ≡ part.Spent n)
    → Tells {A = A} (Err e) P
made_tells {A} e n P (inl m) = memory_tells e P m
made_tells {A} e n P (inr m) = subst (λ (x : PartFault). Tells {A = A} (Err x) P) (sym m) tt

-- ---- one address that changes

pub place_or : (a b : Addr) → (a ≡ b) ⊎ (same_addr a b ≡ false)
place_or a b = elim (same_or a b) [ inl s ↦ inl s.1 | inr f ↦ inr f ]

pub unlike : (a at : Addr) → same_addr a at ≡ false → a ≡ at → ⊥
unlike a at f e =
    let t : same_addr a at ≡ true = ap (λ (x : Addr). same_addr a x) (sym e) ∙ same_itself a in
    absurd cc

pub here_now : (s t : State) (at : Addr) (bytes : Option (List ℕ)) → t ≡ with_bytes at bytes s → t at ≡ bytes
here_now s t at bytes e =
    ap (λ (f : State). f at) e ∙ ap (λ (x : Bool). cond x bytes (s at)) (same_itself at)

pub beside : (s t : State) (at : Addr) (bytes : Option (List ℕ)) → t ≡ with_bytes at bytes s → (b : Addr)
    → (b ≡ at → ⊥) → t b ≡ s b
beside s t at bytes e b other = elim (same_or at b) [
  | inl p ↦ absurd (other (sym p.1))
  | inr f ↦ ap (λ (g : State). g b) e ∙ ap (λ (x : Bool). cond x bytes (s b)) f
]

-- ---- what stands

pub some_not_none : (o : Option (List ℕ)) (b : List ℕ) → o ≡ Some b → o ≡ None → ⊥
some_not_none o b e f = cc

pub none_some : (o : Option (List ℕ)) → (o ≡ None → ⊥) → IsSome o
none_some None n = absurd (n refl)
none_some (Some b) n = refl

pub some_none : (o : Option (List ℕ)) → IsSome o → o ≡ None → ⊥
some_none None s n = absurd cc
some_none (Some b) s n = absurd cc

-- bytes were put where something stood
pub store_lasts : (trace : List Seen) (old new : Overlay) (at : Addr) (bytes : List ℕ)
    → ((h : Heap) → stood h new ≡ with_bytes at (Some bytes) (stood h old)) → Lasts trace old new
store_lasts trace old new at bytes put h agrees a none = elim (place_or a at) [
  | inl e ↦ absurd (some_not_none (stood h new at) bytes (here_now (stood h old) (stood h new) at (Some bytes) (put h))
      (ap (stood h new) (sym e) ∙ none))
  | inr f ↦ sym (beside (stood h old) (stood h new) at (Some bytes) (put h) a (unlike a at f)) ∙ none
]

-- nothing changed
pub same_lasts : (trace : List Seen) (old new : Overlay) → new ≡ old → Lasts trace old new
same_lasts trace old new same h agrees a none = ap (λ (o : Overlay). stood h o a) (sym same) ∙ none

pub lasts_then : (t1 t2 : List Seen) (o0 o1 o2 : Overlay) → Lasts t1 o0 o1
    → ((h : Heap) → Agrees h t2 o2 → Agrees h t1 o1) → Lasts t2 o1 o2 → Lasts t2 o0 o2
lasts_then t1 t2 o0 o1 o2 first back second h agrees a none =
    first h (back h agrees) a (second h agrees a none)

-- what stood in each agreeing heap still stands
pub stands_later : (t0 t1 : List Seen) (o0 o1 : Overlay) (at : Addr) → StandsIn t0 o0 at
    → ((h : Heap) → Agrees h t1 o1 → Agrees h t0 o0) → Lasts t1 o0 o1 → StandsIn t1 o1 at
stands_later t0 t1 o0 o1 at stands back lasts h agrees =
    none_some (stood h o1 at) (λ none. some_none (stood h o0 at) (stands h (back h agrees)) (lasts h agrees at none))

-- ---- the node of the heap

eqb_is : (a b : ℕ) → a == b ≡ true → a ≡ b
eqb_is a b e = eqb-true a b e

pub on_served : (reach : ℕ → Bool) (nodes node : ℕ) (at : Addr) → is_on nodes node at ≡ true → reach node ≡ true
    → reach (at.region % nodes) ≡ true
on_served reach nodes node at on served = ap reach (eqb_is (at.region % nodes) node on) ∙ served

-- what a made object's answer tells
pub made_result : (r : Result Addr PartFault) (n : ℕ) (P Q : Addr → Type 0)
    → IfErr r (λ f. (f ≡ part.Memory) ⊎ (f ≡ part.Spent n)) → IfOk r P → ((a : Addr) → P a → Q a) → Tells r Q
made_result (Ok a) n P Q f p into = into a p
made_result (Err e) n P Q f p into = made_tells e n Q f

-- what a stored object's answer tells
pub stored_result : {A : Type 0} (r : Result A PartFault) (P Q : Type 0) → IfErr r (λ f. f ≡ part.Memory)
    → OnOk r P → (P → Q) → Tells r (λ _. Q)
stored_result (Ok a) P Q f p into = into p
stored_result (Err e) P Q f p into = memory_tells e (λ _. Q) f

pub ok_lasts : {A : Type 0} (r : Result A PartFault) (trace : List Seen) (old new : Overlay) (at : Addr)
    (bytes : List ℕ) → OnOk r ((h : Heap) → stood h new ≡ with_bytes at (Some bytes) (stood h old))
    → OnOk r (Lasts trace old new)
ok_lasts (Ok a) trace old new at bytes put = store_lasts trace old new at bytes put
ok_lasts (Err e) trace old new at bytes put = tt

pub made_lasts : (r : Result Addr PartFault) (trace : List Seen) (old new : Overlay) (bytes : List ℕ)
    → IfOk r (λ at. (h : Heap) → stood h new ≡ with_bytes at (Some bytes) (stood h old)) → OnOk r (Lasts trace old new)
made_lasts (Ok at) trace old new bytes put = store_lasts trace old new at bytes put
made_lasts (Err e) trace old new bytes put = tt

pub ok_lasts_then : {A : Type 0} (r : Result A PartFault) (t1 t2 : List Seen) (o0 o1 o2 : Overlay) → Lasts t1 o0 o1
    → ((h : Heap) → Agrees h t2 o2 → Agrees h t1 o1) → OnOk r (Lasts t2 o1 o2) → OnOk r (Lasts t2 o0 o2)
ok_lasts_then (Ok a) t1 t2 o0 o1 o2 first back second = lasts_then t1 t2 o0 o1 o2 first back second
ok_lasts_then (Err e) t1 t2 o0 o1 o2 first back second = tt

pub place_on : (nodes node : ℕ) (a : Addr) → a.region % nodes ≡ node → is_on nodes node a ≡ true
place_on nodes node a e = eq-eqb (a.region % nodes) node e
