-- The rule of a turnstile's table, and what each step tells.
use Rattle.std.specs.Prelude.{◌≡◌, ◌≢◌, ◌⊎◌, ℕ, ◌+◌, ◌%◌, ◌^◌, ◌<◌, ◌≤◌, cond, nat_lt, Bool, true, false, List, [], ◌∷◌, ◌++◌, length, Option, Some}
use Rattle.std.specs.List.{sum_by}
use mathlib.Core.Option as maybe
use mathlib.Core.Option.{some, none}
use lib.ListN.{get_elem?}
use Rattle.atomic_table.specs.Table.{State, Me, Step}
use Rattle.turnstile.specs.declared.view.Stage.{Stage}
use Rattle.turnstile.specs.declared.view.Stage.TheVariants.{Idle, Waits, Inside}
use Rattle.turnstile.specs.declared.view.View.{View}
use Rattle.turnstile.specs.Entries.{without, up_to, longer, shorter, SameOwn, EachOnce}
use Rattle.a1_base.specs.Lists.{IsAmong, BeginsWith, entries_of}

-- the words count modulo 2^64
abbrev pub word_of : ℕ → ℕ
word_of n = n % 2 ^ 64

abbrev pub HasTicket : Stage → ℕ → Type 0
HasTicket Idle n = ⊥
HasTicket (Waits m) n = m ≡ n
HasTicket (Inside m) n = m ≡ n

abbrev pub tickets : Stage → ℕ
tickets Idle = 0
tickets (Waits m) = 1
tickets (Inside m) = 1

abbrev pub is_inside : Stage → Bool
is_inside Idle = false
is_inside (Waits m) = false
is_inside (Inside m) = true

module _ {E : Type 0} where
  abbrev pub view : Stage → List ℕ → List E → View E
  view stage numbers seen = record { stage = stage; numbers = numbers; seen = seen; heard = []; heard_numbers = [] }

  -- a pass with the number k alone, and one with the others
  abbrev pub first_half : ℕ → View E → View E
  first_half k v = view Idle (k ∷ []) v.seen

  abbrev pub second_half : ℕ → View E → View E
  second_half k v = view Idle (without k v.numbers) v.seen

  -- two passes in one, which has yet to learn that the longer list begins with the shorter
  abbrev pub joined : View E → View E → View E
  joined v w = record {
    stage = Idle;
    numbers = v.numbers ++ w.numbers;
    seen = longer v.seen w.seen;
    heard = shorter v.seen w.seen;
    heard_numbers = cond (nat_lt (length v.seen) (length w.seen)) v.numbers w.numbers;
  }

  abbrev pub having_added : List E → View E → View E
  having_added new v = view v.stage v.numbers (v.seen ++ new)

  abbrev pub spent : View E
  spent = view Idle [] []

  abbrev pub newcomer : ℕ → E → View E
  newcomer passes start = view Idle (up_to passes) (start ∷ [])

  abbrev pub NobodyInside : List (View E) → Type 0
  NobodyInside views = (i : ℕ) (v : View E) (n : ℕ) → get_elem? views i ≡ some v → v.stage ≡ Inside n → ⊥

  abbrev pub SomebodyInside : List (View E) → Type 0
  SomebodyInside views =
      (i : ℕ) × (v : View E) × (n : ℕ) × (get_elem? views i ≡ some v) × (v.stage ≡ Inside n)

-- what the rule says of one view
pub record ViewFits {E : Type 0} (number : E → ℕ) (passes : ℕ) (log : List E) (drawn served : ℕ)
    (v : View E) : Type 0 where
  pub seen : BeginsWith log v.seen
  -- the entries of each number that it holds are those that it shows
  pub own : (k : ℕ) → IsAmong k v.numbers → entries_of number k log ≡ entries_of number k v.seen
  -- and so is the first entry, where it holds any number
  pub zero : 0 < length v.numbers → entries_of number 0 log ≡ entries_of number 0 v.seen
  pub range : (k : ℕ) → IsAmong k v.numbers → (0 < k) × (k ≤ passes)
  pub once : EachOnce v.numbers
  -- a ticket is drawn and not yet served
  pub ticket : (n : ℕ) → HasTicket v.stage n → (served ≤ n) × (n < drawn) × (0 < length v.numbers)
  -- only the ticket that is served is inside, and knows the whole log
  pub inside : (n : ℕ) → v.stage ≡ Inside n → (n ≡ served) × (log ≡ v.seen)
  pub heard : BeginsWith v.seen v.heard
  pub heard_own : (k : ℕ) → IsAmong k v.heard_numbers → entries_of number k v.seen ≡ entries_of number k v.heard

-- no number and no ticket belongs to both
pub record Apart {E : Type 0} (v w : View E) : Type 0 where
  pub numbers : (k : ℕ) → IsAmong k v.numbers → IsAmong k w.numbers → ⊥
  pub tickets : (n : ℕ) → HasTicket v.stage n → HasTicket w.stage n → ⊥

-- a value at home stands for the log; else somebody inside has it
abbrev pub Slot : {T E : Type 0} → (T → List E → Type 0) → List E → List (maybe.Option (Option T)) → List (View E)
    → Type 0
Slot {T} stands log homes views =
    ((y : T) × (homes ≡ some (Some y) ∷ []) × stands y log × NobodyInside views)
    ⊎ ((homes ≡ none ∷ []) × SomebodyInside views)

-- The words are the tickets drawn, the tickets served and the entries of the log. Fewer than 2^32 tickets are out, so
-- two
-- equal words are one ticket
pub record Kept {T E : Type 0} (stands : T → List E → Type 0) (number : E → ℕ) (passes : ℕ) (start : E)
    (s : State (Option T) (View E)) : Type 0 where
  pub log : List E
  pub drawn : ℕ
  pub served : ℕ
  pub words : s.words ≡ word_of drawn ∷ word_of served ∷ word_of (length log) ∷ []
  pub out : sum_by (λ (v : View E). tickets v.stage) s.views + served ≡ drawn
  pub few : passes < 2 ^ 32
  pub held : sum_by (λ (v : View E). length v.numbers) s.views ≤ passes
  pub begins : BeginsWith log (start ∷ [])
  pub zeros : entries_of number 0 log ≡ start ∷ []
  pub no_more : (k : ℕ) → passes < k → entries_of number k log ≡ []
  pub fits : (i : ℕ) (v : View E) → get_elem? s.views i ≡ some v → ViewFits number passes log drawn served v
  pub apart : (i j : ℕ) (v w : View E) → i ≢ j → get_elem? s.views i ≡ some v → get_elem? s.views j ≡ some w
      → Apart v w
  pub slot : Slot stands log s.homes s.views

module _ {S E : Type 0} where
  -- a ticket was drawn
  abbrev pub Drawn : Me S (View E) → ℕ → Me S (View E) → Type 0
  Drawn m n m' = (d : ℕ) × (n ≡ word_of d) × (m' ≡ (view (Waits d) m.0.numbers m.0.seen, m.1))

  abbrev pub drew : Step S → Me S (View E) → ℕ → Me S (View E) → Type 0
  drew st m n m' = Drawn m n m'

  -- a seat that has drawn a ticket, which the word tells
  abbrev pub IsWaiting : Me S (View E) → ℕ → Type 0
  IsWaiting m n = (d : ℕ) × (m.0.stage ≡ Waits d) × (m.1 ≡ []) × (n ≡ word_of d)

module _ {T E : Type 0} (stands : T → List E → Type 0) (number : E → ℕ) where
  -- with the slot in hand, the value stands for the list that is then seen, which begins with what was seen before and
  -- has no other entries of its numbers
  abbrev pub Entered : ℕ → View E → Me (Option T) (View E) → Type 0
  Entered d v m' =
      (y : T) × (m' ≡ (view (Inside d) v.numbers m'.0.seen, (0, Some y) ∷ [])) × stands y m'.0.seen
      × BeginsWith m'.0.seen v.seen × SameOwn number v.numbers v.seen m'.0.seen

  -- the ticket that is served was looked at, and is this seat's or not
  abbrev pub LookedAt : ℕ → Me (Option T) (View E) → ℕ → Me (Option T) (View E) → Type 0
  LookedAt d m n m' = (n ≡ word_of d → Entered d m.0 m') × (n ≢ word_of d → m' ≡ m)

  abbrev pub looked : Step (Option T) → Me (Option T) (View E) → ℕ → Me (Option T) (View E) → Type 0
  looked st m n m' = (d : ℕ) → m.0.stage ≡ Waits d → LookedAt d m n m'

module _ {S E : Type 0} where
  -- these entries were added, by the seat that is inside
  abbrev pub counted : List E → Step S → Me S (View E) → ℕ → Me S (View E) → Type 0
  counted new st m n m' = m' ≡ (having_added new m.0, m.1)

  -- the turn ended, and the slot came home
  abbrev pub Gone : Me S (View E) → Me S (View E) → Type 0
  Gone m m' = m' ≡ (view Idle m.0.numbers m.0.seen, [])

  abbrev pub gone : Step S → Me S (View E) → ℕ → Me S (View E) → Type 0
  gone st m n m' = Gone m m'

  -- what was seen begins with what was heard, and hides no entries of the other's numbers, none of which is held twice
  abbrev pub Learned : (E → ℕ) → Me S (View E) → Me S (View E) → Type 0
  Learned number m m' =
      BeginsWith m.0.seen m.0.heard × SameOwn number m.0.heard_numbers m.0.heard m.0.seen × EachOnce m.0.numbers
      × (m' ≡ (view m.0.stage m.0.numbers m.0.seen, m.1))

  abbrev pub learned : (E → ℕ) → Step S → Me S (View E) → ℕ → Me S (View E) → Type 0
  learned number st m n m' = Learned number m m'

-- a seat inside, with a value in hand that stands for what it has seen
abbrev pub IsDone : {T E : Type 0} → (T → List E → Type 0) → Me (Option T) (View E) → Type 0
IsDone {T} stands m =
    (n : ℕ) × (y : T) × (m.0.stage ≡ Inside n) × (m.1 ≡ (0, Some y) ∷ []) × stands y m.0.seen

-- the value at the end stands for what was seen, in which number 0 has the first entry alone
abbrev pub ClosesWith : {T E : Type 0} → (T → List E → Type 0) → (E → ℕ) → E → T → List E → Type 0
ClosesWith {T} {E} stands number start y seen = stands y seen × (entries_of number 0 seen ≡ start ∷ [])
