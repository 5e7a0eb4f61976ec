-- The text of events and of answers: a line of words for each.
use Rattle.std.specs.Prelude.{◌≡◌, ℕ, ◌+◌, ◌^◌, ◌<◌, ◌≤◌, ◌⊎◌, List, [], ◌∷◌, ◌++◌, length, codes, decimal, Option, Some, None, ⊤}
use Rattle.std.specs.List.{join_with_byte, flat_map, AllByRecursion}
use Rattle.a1_base.specs.declared.limits.TheConstants.{SCRIPT_LIMIT}
use Rattle.hex.specs.Hex.{encode_lower, IsBytes}
use Rattle.a1_base.specs.declared.place.Addr.{Addr}
use Rattle.a1_base.specs.declared.place.TxnId.{TxnId}
use Rattle.farm_core.specs.Machine.{InRange}
use Rattle.farm_core.specs.declared.event.Event.{Event}
use Rattle.farm_core.specs.declared.event.Event.TheVariants.{Load, Begin, Read, Alloc, Lock, Draw, Check, Put, Unlock, Shut, Collect}
use Rattle.farm_core.specs.declared.event.Answer.{Answer}
use Rattle.farm_core.specs.declared.event.Answer.TheVariants as answer
use Rattle.steps_text.specs.declared.fault.TextFault.{TextFault}
use Rattle.steps_text.specs.declared.fault.TextFault.TheVariants.{Line, Memory}

-- ---- words

-- `actor.number`
abbrev pub txn_text : TxnId → List ℕ
txn_text t = decimal t.actor ++ 46 ∷ decimal t.number

-- `region:offset`
abbrev pub addr_text : Addr → List ℕ
addr_text a = decimal a.region ++ 58 ∷ decimal a.offset

-- bytes in lower-case hexadecimal, and `-` for none
abbrev pub new_text : Option (List ℕ) → List ℕ
new_text None = codes "-"
new_text (Some bytes) = encode_lower bytes

-- ---- an event

abbrev pub event_words : Event → List (List ℕ)
event_words (Load a bytes) = codes "load" ∷ addr_text a ∷ encode_lower bytes ∷ []
event_words (Begin t) = codes "begin" ∷ txn_text t ∷ []
event_words (Read t a) = codes "read" ∷ txn_text t ∷ addr_text a ∷ []
event_words (Alloc t n bytes) = codes "alloc" ∷ txn_text t ∷ decimal n ∷ encode_lower bytes ∷ []
event_words (Lock t a new) = codes "lock" ∷ txn_text t ∷ addr_text a ∷ new_text new ∷ []
event_words (Draw t) = codes "draw" ∷ txn_text t ∷ []
event_words (Check t a) = codes "check" ∷ txn_text t ∷ addr_text a ∷ []
event_words (Put t a) = codes "put" ∷ txn_text t ∷ addr_text a ∷ []
event_words (Unlock t a) = codes "unlock" ∷ txn_text t ∷ addr_text a ∷ []
event_words (Shut t) = codes "shut" ∷ txn_text t ∷ []
event_words (Collect n) = codes "collect" ∷ decimal n ∷ []

-- the words, parted by one blank
abbrev pub event_text : Event → List ℕ
event_text e = join_with_byte 32 (event_words e)

abbrev pub FitsTxn : TxnId → Type 0
FitsTxn t = t.number < 2 ^ 64

abbrev pub FitsAddr : Addr → Type 0
FitsAddr a = a.region < 2 ^ 32

abbrev pub FitsNode : ℕ → Type 0
FitsNode n = n < 2 ^ 32

abbrev pub FitsNew : Option (List ℕ) → Type 0
FitsNew None = ⊤
FitsNew (Some bytes) = IsBytes bytes

-- the numbers and the bytes lie within their types
abbrev pub EventFits : Event → Type 0
EventFits (Load a bytes) = FitsAddr a × IsBytes bytes
EventFits (Begin t) = FitsTxn t
EventFits (Read t a) = FitsTxn t × FitsAddr a
EventFits (Alloc t n bytes) = FitsTxn t × FitsNode n × IsBytes bytes
EventFits (Lock t a new) = FitsTxn t × FitsAddr a × FitsNew new
EventFits (Draw t) = FitsTxn t
EventFits (Check t a) = FitsTxn t × FitsAddr a
EventFits (Put t a) = FitsTxn t × FitsAddr a
EventFits (Unlock t a) = FitsTxn t × FitsAddr a
EventFits (Shut t) = FitsTxn t
EventFits (Collect n) = FitsNode n

-- an event of a farm of so many nodes
abbrev pub IsEvent : ℕ → Event → Type 0
IsEvent nodes e = InRange nodes e × EventFits e

-- ---- a text of events

-- an event's text and LF
abbrev pub event_line : Event → List ℕ
event_line e = event_text e ++ 10 ∷ []

-- the text is the lines of these events
pub record IsTextOf (nodes : ℕ) (text : List ℕ) (events : List Event) : Type 0 where
  pub short : length text ≤ SCRIPT_LIMIT
  pub each : AllByRecursion (IsEvent nodes) events
  pub lines : text ≡ flat_map event_line events

-- the text begins with no event's line
abbrev pub NoLine : ℕ → List ℕ → Type 0
NoLine nodes text = (e : Event) (rest : List ℕ) → IsEvent nodes e → text ≡ event_line e ++ rest → ⊥

-- behind the lines of these events, what is left begins with no event's line
pub record BreaksAfter (nodes : ℕ) (text : List ℕ) (events : List Event) (rest : List ℕ) : Type 0 where
  pub each : AllByRecursion (IsEvent nodes) events
  pub lines : text ≡ flat_map event_line events ++ rest
  pub more : 0 < length rest
  pub none : NoLine nodes rest

-- line n, counted from 1, is the first that is no event's
pub record IsFirstBroken (nodes : ℕ) (text : List ℕ) (n : ℕ) : Type 0 where
  pub short : length text ≤ SCRIPT_LIMIT
  pub events : List Event
  pub rest : List ℕ
  pub number : n ≡ length events + 1
  pub breaks : BreaksAfter nodes text events rest

-- the fault of a text: it is too long, or this is its first line that is no event's
abbrev pub IsFaultOf : ℕ → List ℕ → TextFault → Type 0
IsFaultOf nodes text (Line n) = ((SCRIPT_LIMIT < length text) × (n ≡ 0)) ⊎ IsFirstBroken nodes text n
IsFaultOf nodes text Memory = ⊤

-- ---- an answer

abbrev pub answer_words : Answer → List (List ℕ)
answer_words answer.Loaded = codes "loaded" ∷ []
answer_words (answer.At stamp) = codes "at" ∷ decimal stamp ∷ []
answer_words (answer.Value stamp bytes) = codes "value" ∷ decimal stamp ∷ encode_lower bytes ∷ []
answer_words (answer.Absent stamp) = codes "absent" ∷ decimal stamp ∷ []
answer_words (answer.Held by) = codes "held" ∷ txn_text by ∷ []
answer_words (answer.Placed a bound) = codes "placed" ∷ addr_text a ∷ decimal bound ∷ []
answer_words answer.Spent = codes "spent" ∷ []
answer_words (answer.Locked seen bound) = codes "locked" ∷ decimal seen ∷ decimal bound ∷ []
answer_words (answer.Changed seen now) = codes "changed" ∷ decimal seen ∷ decimal now ∷ []
answer_words (answer.Stamp stamp) = codes "stamp" ∷ decimal stamp ∷ []
answer_words answer.Same = codes "same" ∷ []
answer_words answer.Put = codes "put" ∷ []
answer_words answer.Unlocked = codes "unlocked" ∷ []
answer_words answer.Shut = codes "shut" ∷ []
answer_words (answer.Collected floor versions objects) =
    codes "floor" ∷ decimal floor ∷ codes "versions" ∷ decimal versions ∷ codes "objects" ∷ decimal objects ∷ []
answer_words answer.No = codes "no" ∷ []

-- the words, parted by one blank
abbrev pub answer_text : Answer → List ℕ
answer_text a = join_with_byte 32 (answer_words a)
