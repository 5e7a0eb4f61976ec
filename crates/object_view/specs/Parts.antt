-- What the structures over a view say of their calls.
use Rattle.std.specs.Prelude.{◌≡◌, ◌⊎◌, ℕ, Bool, true, cond, List, ◌++◌, Option, Some, None, Result, Ok, Err, ⊤}
use Rattle.std.specs.List.{AllByRecursion}
use Rattle.a1_base.specs.Lists.{IsAmong}
use Rattle.a1_base.specs.declared.place.Addr.{Addr}
use Rattle.object_view.specs.declared.parts.PartFault.{PartFault}
use Rattle.object_view.specs.declared.parts.PartFault.TheVariants as fault
use Rattle.object_view.specs.Agreement.{Seen, Heap, Overlay, State, Agrees, stood, same_addr}
use Rattle.object_view.specs.Calls.{IsSteady}

-- from a view to a later one: what agrees with the later agrees with the earlier
pub record Onward {S K : Type 0} (trace : S → List Seen) (overlay : S → Overlay) (reach : S → ℕ
    → Bool) (number : S → ℕ) (keep : S → K) (old new : S) : Type 0 where
  pub agreed : (h : Heap) → Agrees h (trace new) (overlay new) → Agrees h (trace old) (overlay old)
  pub steady : IsSteady reach number keep old new

-- from a trace to a later one: what was read besides, each read at such an address
pub record ReadsOnly (P : Addr → Type 0) (old new : List Seen) : Type 0 where
  pub reads : List Seen
  pub grown : new ≡ old ++ reads
  pub among : AllByRecursion (λ s. P s.at) reads

-- with other bytes, or none, at an address
abbrev pub with_bytes : Addr → Option (List ℕ) → State → State
with_bytes a bytes s b = cond (same_addr a b) bytes (s b)

-- from a state to another: a part on the places ps came to stand on qs, and no other place changed
pub record Moves (s t : State) (ps qs : List Addr) : Type 0 where
  pub others : (b : Addr) → (IsAmong b ps → ⊥) → (IsAmong b qs → ⊥) → t b ≡ s b
  pub made : (b : Addr) → IsAmong b qs → IsAmong b ps ⊎ (s b ≡ None)
  pub freed : (b : Addr) → IsAmong b ps → IsAmong b qs ⊎ (t b ≡ None)

-- a look: the bytes there, or Torn where the view does not serve the address or nothing stands there
abbrev pub LookTells : Addr → Bool → Option (List ℕ) → Result (List ℕ) PartFault → Type 0
LookTells a served here (Ok bytes) = (served ≡ true) × (here ≡ Some bytes)
LookTells a served here (Err fault.Memory) = ⊤
LookTells a served here (Err (fault.Torn at)) = (at ≡ a) × (served ≡ true → here ≡ None)
LookTells a served here (Err _) = ⊥

-- an answer of a change: Torn and Tall can't be where the part stands
abbrev pub Tells : {A : Type 0} → Result A PartFault → (A → Type 0) → Type 0
Tells (Ok x) P = P x
Tells (Err fault.Memory) P = ⊤
Tells (Err (fault.Spent n)) P = ⊤
Tells (Err _) P = ⊥

-- an answer of a look: what is wanted, unless memory was wanting
abbrev pub Gives : {A : Type 0} → Result A PartFault → A → Type 0
Gives (Ok x) want = x ≡ want
Gives (Err fault.Memory) want = ⊤
Gives (Err _) want = ⊥

-- what stands in the earlier view stands in the later
abbrev pub Lasts : List Seen → Overlay → Overlay → Type 0
Lasts trace old new = (h : Heap) → Agrees h trace new → (a : Addr) → stood h new a ≡ None → stood h old a ≡ None
