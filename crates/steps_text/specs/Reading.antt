-- For the clauses of the readers of parts of a line.
use Rattle.std.specs.Prelude.{◌≡◌, ◌≢◌, ℕ, List, [], ◌∷◌, ◌++◌, drop, slice_index_or, Option, Some, None, Result, Ok, Err, ⊤}
use Rattle.std.specs.List.{join_with_byte, AllByRecursion}
use Rattle.hex.specs.Hex.{IsBytes}
use Rattle.a1_base.specs.declared.place.Addr.{Addr}
use Rattle.a1_base.specs.declared.place.TxnId.{TxnId}
use Rattle.farm_core.specs.Machine.{IsActor, IsAddr, IsObject, IsNew}
use Rattle.farm_core.specs.declared.event.Event.{Event}
use Rattle.steps_text.specs.EventText.{event_words, FitsTxn, FitsAddr, FitsNew, IsEvent, NoLine}
use Rattle.steps_text.specs.declared.fault.LineFault.{LineFault}
use Rattle.steps_text.specs.declared.fault.LineFault.TheVariants.{Malformed, Memory}

-- ---- parts

abbrev pub Lacks : ℕ → List ℕ → Type 0
Lacks mark bytes = AllByRecursion (λ b. b ≢ mark) bytes

-- the text in front of its first mark, and behind it
pub record IsCut (mark : ℕ) (text front back : List ℕ) : Type 0 where
  pub whole : text ≡ front ++ mark ∷ back
  pub first : Lacks mark front

-- ---- readers

-- the text is that of none of these values
pub record Refuses {A : Type 0} (written : A → List ℕ) (IsValue : A → Type 0) (text : List ℕ) : Type 0 where
  pub none : (x : A) → IsValue x → written x ≡ text → ⊥

-- the value of a text, or none where it is the text of none
abbrev pub Parses : {A : Type 0} → (A → List ℕ) → (A → Type 0) → List ℕ → Option A → Type 0
Parses written IsValue text (Some x) = (written x ≡ text) × IsValue x
Parses written IsValue text None = Refuses written IsValue text

abbrev pub Fails : {A : Type 0} → (A → List ℕ) → (A → Type 0) → List ℕ → LineFault → Type 0
Fails written IsValue text Malformed = Refuses written IsValue text
Fails written IsValue text Memory = ⊤

-- the same of a reader that takes memory
abbrev pub ParsesOrFails : {A : Type 0} → (A → List ℕ) → (A → Type 0) → List ℕ → Result A LineFault → Type 0
ParsesOrFails written IsValue text (Ok x) = (written x ≡ text) × IsValue x
ParsesOrFails written IsValue text (Err e) = Fails written IsValue text e

-- ---- values

abbrev pub IsTxn : TxnId → Type 0
IsTxn t = IsActor t × FitsTxn t

abbrev pub IsTextAddr : ℕ → Addr → Type 0
IsTextAddr nodes a = IsAddr nodes a × FitsAddr a

abbrev pub IsContent : List ℕ → Type 0
IsContent bytes = IsObject bytes × IsBytes bytes

abbrev pub IsNewContent : Option (List ℕ) → Type 0
IsNewContent new = IsNew new × FitsNew new

-- two words, parted by a blank
abbrev pub pair_text : {A B : Type 0} → (A → List ℕ) → (B → List ℕ) → A × B → List ℕ
pair_text front back x = front x.0 ++ 32 ∷ back x.1

abbrev pub Both : {A B : Type 0} → (A → Type 0) → (B → Type 0) → A × B → Type 0
Both P Q x = P x.0 × Q x.1

-- ---- events by their first word

abbrev pub verb : Event → List ℕ
verb e = slice_index_or (event_words e) 0 []

abbrev pub arguments : Event → List ℕ
arguments e = join_with_byte 32 (drop 1 (event_words e))

abbrev pub IsForm : ℕ → List ℕ → Event → Type 0
IsForm nodes word e = (verb e ≡ word) × IsEvent nodes e

-- the first line of the text is no event's, or memory is wanting
abbrev pub FailsLine : ℕ → List ℕ → LineFault → Type 0
FailsLine nodes text Malformed = NoLine nodes text
FailsLine nodes text Memory = ⊤
