-- What is seen of the outside in a call: of the source, the sink and the store.
use Rattle.std.specs.Prelude.{◌≡◌, ℕ, List, [], Option, Some, IfSome}
use Rattle.std.specs.Io.KnownBytes.{append_known}
use Rattle.a1_base.specs.Outside.{Rose}
use Rattle.a1.specs.Streams.{WritesFront}

-- one part of the outside: what it held before and after, where it tells that, and its counts of faults
pub record Side (X : Type 0) : Type 0 where
  pub before : Option X
  pub after : Option X
  pub faults_before : ℕ
  pub faults_after : ℕ

abbrev pub side : {S X : Type 0} → (S → Option X) → (S → ℕ) → S → S → Side X
side holds faults old new = record {
  before = holds old;
  after = holds new;
  faults_before = faults old;
  faults_after = faults new;
}

-- the bytes that the source has left, the bytes that the sink has taken, and the items of the store
pub record Outside : Type 0 where
  pub source : Side (List ℕ)
  pub sink : Side (List ℕ)
  pub store : Side (List (List ℕ))

abbrev pub outside : Side (List ℕ) → Side (List ℕ) → Side (List (List ℕ)) → Outside
outside source sink store = record { source = source; sink = sink; store = store }

-- it failed in the call
abbrev pub HasFailed : {X : Type 0} → Side X → Type 0
HasFailed part = Rose part.faults_before part.faults_after

-- it holds what it held, and counted no fault
abbrev pub IsUntouched : {X : Type 0} → Side X → Type 0
IsUntouched part = (part.after ≡ part.before) × (part.faults_after ≡ part.faults_before)

-- a store that a call is not given
abbrev pub no_store : Side (List (List ℕ))
no_store = record { before = Some []; after = Some []; faults_before = 0; faults_after = 0 }

-- a source is read to its end
abbrev pub IsReadWhole : Side (List ℕ) → Type 0
IsReadWhole source = IfSome source.before (λ bytes. source.after ≡ Some [])

-- the whole text is written behind what was
abbrev pub IsWritten : Side (List ℕ) → List ℕ → Type 0
IsWritten sink text = sink.after ≡ append_known sink.before text

-- a front of the text, and not all of it, is written behind what was, because the sink failed
abbrev pub IsCutShort : Side (List ℕ) → List ℕ → Type 0
IsCutShort sink text = WritesFront sink.before sink.after text × HasFailed sink
