-- What a list told stays told in each longer list, and what an actor's own entries make of its stories.
use Rattle.std.proofs.Common.{◌≡◌, ℕ, cond, Bool, true, false, List, [], ◌∷◌, ◌++◌, Option, Some, None, is_some, sym, refl, ap, ◌∙◌, subst, append_assoc, append-nil}
use Rattle.std.proofs.Math.Logic.{∥∥₁_elim, ∥∥₁_prop}
use Rattle.std.proofs.Math.Bool.{Bool-set}
use Rattle.std.proofs.lemmas.Bool.{eq-eqb, ne_eqb}
use Rattle.std.specs.List.{AllByRecursion}
use Rattle.a1_base.specs.declared.place.Addr.{Addr}
use Rattle.a1_base.specs.declared.place.TxnId.{TxnId}
use Rattle.a1_base.specs.Lists.{BeginsWith, IsAmong, entries_of}
use Rattle.farm_node.specs.declared.entry.Found.{Found}
use Rattle.farm_node.specs.declared.entry.CheckFault.{CheckFault}
use Rattle.farm_node.specs.declared.entry.Entry.{Entry}
use Rattle.farm_node.specs.Cell.{Bytes, Cell, found_at}
use Rattle.farm_node.specs.NodeState.{NodeState, PinnedBy, HasValue, Lawful, replay}
use Rattle.farm_node.specs.State.{versions_there}
use Rattle.farm_node.specs.Laws.{versions_at}
use Rattle.farm_node.proofs.Owning.{owned}
use Rattle.farm_node.specs.Story.{stamped_bytes, Story, story_after, story_from, untold, number_of}
use Rattle.farm_node.specs.Locks.{IsOther}
use Rattle.farm_node.specs.Owned.{WasRead}
use Rattle.turnstile.proofs.Histories.{of_append}
use Rattle.transaction_part.proofs.Lists.{among_front}
use Rattle.node_turns.specs.Turned.{GoesOn}
use Rattle.transaction_part.specs.Running.{ReadBytes, WasMade, WasChecked, WasRefused}
use Rattle.transaction_part.specs.Stories.{own_story, SameStory, SamePuts}

-- lists that go on

pub begins_then : (x y z : List Entry) → BeginsWith y x → BeginsWith z y → BeginsWith z x
begins_then x y z p q = (p.0 ++ q.0, q.1 ∙ (ap (λ (es : List Entry). es ++ q.0) p.1 ∙ append_assoc x p.0 q.0))

pub begins_same : (x : List Entry) → BeginsWith x x
begins_same x = ([], sym (append-nil x))

pub begins_on : (k : ℕ) (before later : List Entry) → GoesOn k before later → BeginsWith later before
begins_on k before later g = (g.between, g.is)

split_more : (before rest : List Entry) (e : Entry) (log later : List Entry) (more : List Entry) → log ≡ before ++ e ∷ rest
    → later ≡ log ++ more → later ≡ before ++ e ∷ (rest ++ more)
split_more before rest e log later more is grown =
    grown ∙ (ap (λ (es : List Entry). es ++ more) is ∙ append_assoc before (e ∷ rest) more)

pub read_grown : (k : ℕ) (a : Addr) (r : ℕ) (found : Found) (log later : List Entry) → BeginsWith later log
    → WasRead k a r found log → WasRead k a r found later
read_grown k a r found log later b x =
    record { before = x.before; rest = x.rest ++ b.0; is = split_more x.before x.rest _ log later b.0 x.is b.1 }

pub bytes_grown : (k : ℕ) (a : Addr) (r : ℕ) (log later : List Entry) → BeginsWith later log
    → ReadBytes k a r log → ReadBytes k a r later
bytes_grown k a r log later b x =
    record { found = x.found; bytes = x.bytes; read = read_grown k a r x.found log later b x.read; is = x.is }

-- the same of facts that leave open where the entry stands
pub grown_kept : {A B : Type 0} → (A → B) → ∥ A ∥₁ → ∥ B ∥₁
grown_kept f x = ∥∥₁_elim x ∥∥₁_prop (λ a. ∣ f a ∣₁)

pub made_grown : (t : TxnId) (a : Addr) (r : ℕ) (log later : List Entry) → BeginsWith later log
    → WasMade t a r log → WasMade t a r later
made_grown t a r log later b x = record {
  before = x.before;
  bytes = x.bytes;
  placed = x.placed;
  rest = x.rest ++ b.0;
  is = split_more x.before x.rest _ log later b.0 x.is b.1;
  at = x.at;
}

pub checked_grown : (t : TxnId) (a : Addr) (r w : ℕ) (log later : List Entry) → BeginsWith later log
    → WasChecked t a r w log → WasChecked t a r w later
checked_grown t a r w log later b x =
    record { before = x.before; rest = x.rest ++ b.0; is = split_more x.before x.rest _ log later b.0 x.is b.1 }

pub refused_grown : (t : TxnId) (a : Addr) (r : ℕ) (fault : CheckFault) (log later : List Entry) → BeginsWith later log
    → WasRefused t a r fault log → WasRefused t a r fault later
refused_grown t a r fault log later b x =
    (x.0, subst (λ (es : List Entry). IsAmong x.0 es) (sym b.1) (among_front log b.0 x.0 x.1), x.2)

-- stories

story_append : (a : Addr) (h : Story) (xs ys : List Entry) → story_from a h (xs ++ ys) ≡ story_from a (story_from a h xs) ys
story_append a h [] ys = refl
story_append a h (x ∷ xs) ys = story_append a (story_after a h x) xs ys

none_own : (k : ℕ) (es : List Entry) → AllByRecursion (IsOther k) es → entries_of number_of k es ≡ []
none_own k [] others = refl
none_own k (e ∷ es) others =
    ap (λ (g : Bool). cond g (e ∷ entries_of number_of k es) (entries_of number_of k es)) (ne_eqb (number_of e) k others.0)
    ∙ none_own k es others.1

-- entries of others leave it
pub story_on : (k : ℕ) (before later : List Entry) → GoesOn k before later → SameStory k before later
story_on k before later g a =
    ap (λ (es : List Entry). story_from a untold (entries_of number_of k es)) g.is
    ∙ (ap (story_from a untold) (of_append number_of k before g.between)
    ∙ ap (λ (es : List Entry). story_from a untold (entries_of number_of k before ++ es)) (none_own k g.between g.others)
    ∙ ap (story_from a untold) (append-nil (entries_of number_of k before)))

-- an own entry adds its own to it
pub story_there : (k : ℕ) (a : Addr) (before : List Entry) (e : Entry) (later : List Entry) → number_of e ≡ k
    → later ≡ before ++ e ∷ [] → own_story k a later ≡ story_after a (own_story k a before) e
story_there k a before e later own is =
    ap (λ (es : List Entry). story_from a untold (entries_of number_of k es)) is
    ∙ (ap (story_from a untold) (of_append number_of k before (e ∷ [])
    ∙ ap (λ (g : Bool). entries_of number_of k before ++ cond g (e ∷ []) []) (eq-eqb (number_of e) k own))
    ∙ story_append a untold (entries_of number_of k before) (e ∷ []))

pub same_then : (k : ℕ) (x y z : List Entry) → SameStory k x y → SameStory k y z → SameStory k x z
same_then k x y z p q a = q a ∙ p a

pub puts_then : (k : ℕ) (x y z : List Entry) → SamePuts k x y → SamePuts k y z → SamePuts k x z
puts_then k x y z p q a = q a ∙ p a

pub same_puts : (k : ℕ) (x y : List Entry) → SameStory k x y → SamePuts k x y
same_puts k x y p a = ap (λ (h : Story). h.puts) (p a)

-- what was read at r is there while its actor is pinned at most r

abbrev has_bytes : Option Cell → ℕ → Bool
has_bytes c r = is_some (found_at r (versions_there c)).value

some_seen : (f g : Found) (bytes : Bytes) → g.value ≡ Some bytes → stamped_bytes f ≡ stamped_bytes g → is_some f.value ≡ true
some_seen f g bytes is same = by f.value refl where
  right : stamped_bytes g ≡ Some (g.stamp, bytes)
  right = ap (λ (x : Option Bytes). elim x as (λ _. Option (ℕ × Bytes)) [ None ↦ None | Some v ↦ Some (g.stamp, v) ]) is

  by : (o : Option Bytes) → f.value ≡ o → is_some o ≡ true
  by None e =
      let left : stamped_bytes f ≡ None = ap (λ (x : Option Bytes). elim x as (λ _. Option (ℕ × Bytes)) [ None ↦ None | Some v ↦ Some (f.stamp, v) ]) e in
      let bad : ◌≡◌ {A = Option (ℕ × Bytes)} None (Some (g.stamp, bytes)) = sym left ∙ (same ∙ right) in
      absurd (cc)
  by (Some v) e = refl

has_value : (p : NodeState) (a : Addr) (r : ℕ) → has_bytes (p.cells a) r ≡ true → HasValue p a r
has_value p a r has = by (p.cells a) refl has where
  on : (c : Cell) (o : Option Bytes) → p.cells a ≡ Some c → (found_at r c.versions).value ≡ o → is_some o ≡ true → HasValue p a r
  on c None is e has = absurd (cc)
  on c (Some v) is e has = (c, v, is, e)

  by : (c : Option Cell) → p.cells a ≡ c → has_bytes c r ≡ true → HasValue p a r
  by None is has = let bad : false ≡ true = has in absurd (cc)
  by (Some c) is has = on c (found_at r c.versions).value is refl has

pub value_there : (k : ℕ) (a : Addr) (r : ℕ) (log : List Entry) → Lawful log → PinnedBy (replay log) k r
    → ∥ ReadBytes k a r log ∥₁ → HasValue (replay log) a r
value_there k a r log lawful pinned read = has_value (replay log) a r
    (∥∥₁_elim read (Bool-set (has_bytes ((replay log).cells a) r) true)
    (λ (x : ReadBytes k a r log). some_seen (found_at r (versions_at (replay log) a)) x.found x.bytes x.is
    (owned.found log k k a r x.found lawful x.read pinned)))
