-- An actor's own locks and what it read, through entries of others and by its own.
use Rattle.farm_node.proofs.Common.{◌≡◌, ◌⊎◌, ℕ, cond, Bool, true, false, List, [], ◌∷◌, ◌++◌, Option, Some, None, Ok, Err, sym, refl, ap, ◌∙◌, subst, inl, inr, ⊎_elim}
use Rattle.farm_node.proofs.Common.{AllByRecursion, Addr, TxnId, same_addr, Version, cut, Hold, Found, Entry, Made, Open, Shut, Read, Alloc, Lock, Check, Put, Unlock, Collect}
use Rattle.farm_node.proofs.Common.{Bytes, Cell, is_open, is_gone, raised_to, locked_by, installed, released, goes, collected, found_at, NodeState, set_cell, PinnedBy, HeldBy}
use Rattle.farm_node.proofs.Common.{HeldNew, new_floor, after, begun, replay_from, Lawful, replay, Story, story, story_from, stamped_bytes, number_of, value_at, IsOther, Takes}
use Rattle.farm_node.specs.Laws.{versions_at}
use Rattle.farm_node.specs.Owned.{WasRead, Frees, OwnedHold}
use Rattle.farm_node.proofs.Addresses.{and_left, addr_eq, set_self}
use Rattle.farm_node.proofs.Steps.{Keeps, keeps_all}
use Rattle.farm_node.proofs.Stories.{replay_append, Stands, stands_behind}
use Rattle.farm_node.proofs.ReadsStay.{reads, pins}

-- what the node began with

kept_after : (p : NodeState) (e : Entry) → ((after p e).node ≡ p.node) × ((after p e).nodes ≡ p.nodes) × ((after p e).actors ≡ p.actors)
kept_after p (Made m) = (refl, refl, refl)
kept_after p (Open k c x) = (refl, refl, refl)
kept_after p (Shut k) = (refl, refl, refl)
kept_after p (Read k b s (Ok found)) = (refl, refl, refl)
kept_after p (Read k b s (Err by)) = (refl, refl, refl)
kept_after p (Alloc u r v placed) = (refl, refl, refl)
kept_after p (Lock u b r value (Ok given)) = (refl, refl, refl)
kept_after p (Lock u b r value (Err fault)) = (refl, refl, refl)
kept_after p (Check u b r w (Ok same)) = (refl, refl, refl)
kept_after p (Check u b r w (Err fault)) = (refl, refl, refl)
kept_after p (Put u b w) = (refl, refl, refl)
kept_after p (Unlock u b) = (refl, refl, refl)
kept_after p (Collect k f removed) = (refl, refl, refl)

kept_from : (p : NodeState) (es : List Entry) → ((replay_from p es).node ≡ p.node) × ((replay_from p es).nodes ≡ p.nodes) × ((replay_from p es).actors ≡ p.actors)
kept_from p [] = (refl, refl, refl)
kept_from p (e ∷ es) = let r = kept_from (after p e) es in let h = kept_after p e in (r.0 ∙ h.0, r.1 ∙ h.1, r.2 ∙ h.2)

-- the replay of a list and more is that of more behind the list's
pub replay_behind : (before rest : List Entry) → Lawful before → replay (before ++ rest) ≡ replay_from (replay before) rest
replay_behind [] rest lawful = absurd lawful
replay_behind (Made m ∷ es) rest lawful = replay_append (begun m) es rest
replay_behind (e ∷ es) rest lawful = absurd lawful

pub kept : (before rest : List Entry) → Lawful before → ((replay (before ++ rest)).node ≡ (replay before).node) × ((replay (before ++ rest)).nodes ≡ (replay before).nodes) × ((replay (before ++ rest)).actors ≡ (replay before).actors)
kept before rest lawful =
    let is = replay_behind before rest lawful in
    let r = kept_from (replay before) rest in
    (ap (λ (p : NodeState). p.node) is ∙ r.0, ap (λ (p : NodeState). p.nodes) is ∙ r.1, ap (λ (p : NodeState). p.actors) is ∙ r.2)

-- locks of one transaction

abbrev HasLock : TxnId → Option Hold → Type 0
HasLock t None = ⊥
HasLock t (Some k) = k.by ≡ t

abbrev Holds : TxnId → Option Cell → Type 0
Holds t None = ⊥
Holds t (Some c) = HasLock t c.lock

holds_held : (p : NodeState) (t : TxnId) (a : Addr) → Holds t (p.cells a) → HeldBy p t a
holds_held p t a holds = by (p.cells a) refl holds where
  on : (c : Cell) (l : Option Hold) → p.cells a ≡ Some c → c.lock ≡ l → HasLock t l → HeldBy p t a
  on c None is lock has = absurd has
  on c (Some k) is lock has = (c, k, is, lock, has)

  by : (c : Option Cell) → p.cells a ≡ c → Holds t c → HeldBy p t a
  by None is has = absurd has
  by (Some c) is has = on c c.lock is refl has

held_holds : (p : NodeState) (t : TxnId) (a : Addr) → HeldBy p t a → Holds t (p.cells a)
held_holds p t a held = subst (λ (c : Option Cell). Holds t c) (sym held.2) (subst (λ (l : Option Hold). HasLock t l) (sym held.3) held.4)

module _ (u : TxnId) where
  kept_set : (b a : Addr) (c : Option Cell) (cells : Addr → Option Cell) → (Holds u c → Holds u (cells b)) → Holds u (set_cell b c cells a) → Holds u (cells a)
  kept_set b a c cells kept = by (same_addr b a) refl where
    by : (g : Bool) → same_addr b a ≡ g → Holds u (cond g c (cells a)) → Holds u (cells a)
    by true is holds = subst (λ (z : Addr). Holds u (cells z)) (addr_eq b a is) (kept holds)
    by false is holds = holds

  taken_set : (t : TxnId) (b a : Addr) (c : Option Cell) (cells : Addr → Option Cell) → (Holds u c → t ≡ u) → Holds u (set_cell b c cells a) → Holds u (cells a) ⊎ ((t ≡ u) × (b ≡ a))
  taken_set t b a c cells taken = by (same_addr b a) refl where
    by : (g : Bool) → same_addr b a ≡ g → Holds u (cond g c (cells a)) → Holds u (cells a) ⊎ ((t ≡ u) × (b ≡ a))
    by true is holds = inr (taken holds, addr_eq b a is)
    by false is holds = inl holds

  holds_raised : (s : ℕ) (c : Option Cell) → Holds u (raised_to s c) → Holds u c
  holds_raised s None holds = holds
  holds_raised s (Some c) holds = holds

  holds_locked : (t : TxnId) (new : Option Bytes) (c : Option Cell) → Holds u (locked_by t new c) → t ≡ u
  holds_locked t new None holds = absurd holds
  holds_locked t new (Some c) holds = holds

  holds_installed : (w : ℕ) (c : Option Cell) → Holds u (installed w c) → ⊥
  holds_installed w None holds = holds
  holds_installed w (Some c) holds = holds

  holds_released : (c : Option Cell) → Holds u (released c) → ⊥
  holds_released None holds = holds
  holds_released (Some c) holds = by c.versions holds where
    by : (vs : List Version) → Holds u (elim vs as (λ _. Option Cell) [ [] ↦ None | v ∷ more ↦ Some (record c { lock = None }) ]) → ⊥
    by [] holds = holds
    by (v ∷ more) holds = holds

  holds_collected : (floor : ℕ) (c : Option Cell) → Holds u (collected floor c) → Holds u c
  holds_collected floor None holds = holds
  holds_collected floor (Some c) holds = by (goes floor c) holds where
    by : (g : Bool) → Holds u (cond g None (Some (record c { versions = cut floor c.versions }))) → Holds u (Some c)
    by true holds = absurd holds
    by false holds = holds

  holds_after : (p : NodeState) (e : Entry) (a : Addr) → Holds u ((after p e).cells a) → Holds u (p.cells a) ⊎ Takes u a e
  holds_after p (Made m) a holds = inl holds
  holds_after p (Open k c x) a holds = inl holds
  holds_after p (Shut k) a holds = inl holds
  holds_after p (Read k b s (Ok found)) a holds = inl (kept_set b a (raised_to s (p.cells b)) p.cells (holds_raised s (p.cells b)) holds)
  holds_after p (Read k b s (Err by)) a holds = inl holds
  holds_after p (Alloc t r v placed) a holds = taken_set t placed.at a _ p.cells (λ has. has) holds
  holds_after p (Lock t b r new (Ok given)) a holds = taken_set t b a (locked_by t new (p.cells b)) p.cells (holds_locked t new (p.cells b)) holds
  holds_after p (Lock t b r new (Err fault)) a holds = inl holds
  holds_after p (Check t b r w (Ok same)) a holds = inl (kept_set b a (raised_to w (p.cells b)) p.cells (holds_raised w (p.cells b)) holds)
  holds_after p (Check t b r w (Err fault)) a holds = inl holds
  holds_after p (Put t b w) a holds = inl (kept_set b a (installed w (p.cells b)) p.cells (λ has. absurd (holds_installed w (p.cells b) has)) holds)
  holds_after p (Unlock t b) a holds = inl (kept_set b a (released (p.cells b)) p.cells (λ has. absurd (holds_released (p.cells b) has)) holds)
  holds_after p (Collect k f removed) a holds = inl (holds_collected (new_floor p f) (p.cells a) holds)

  takes_own : (a : Addr) (e : Entry) → Takes u a e → number_of e ≡ u.actor
  takes_own a (Alloc t r v placed) takes = ap (λ (x : TxnId). x.actor) takes.0
  takes_own a (Lock t b r new (Ok given)) takes = ap (λ (x : TxnId). x.actor) takes.0
  takes_own a (Lock t b r new (Err fault)) takes = absurd takes
  takes_own a (Made m) takes = absurd takes
  takes_own a (Open k c x) takes = absurd takes
  takes_own a (Shut k) takes = absurd takes
  takes_own a (Read k b s answer) takes = absurd takes
  takes_own a (Check t b r w answer) takes = absurd takes
  takes_own a (Put t b w) takes = absurd takes
  takes_own a (Unlock t b) takes = absurd takes
  takes_own a (Collect k f removed) takes = absurd takes

  holds_from : (p : NodeState) (es : List Entry) (a : Addr) → AllByRecursion (IsOther u.actor) es → Holds u ((replay_from p es).cells a) → Holds u (p.cells a)
  holds_from p [] a others holds = holds
  holds_from p (e ∷ es) a others holds =
      ⊎_elim (λ before. before) (λ takes. absurd (others.0 (takes_own a e takes))) (holds_after p e a (holds_from (after p e) es a others.1 holds))

  freed : (b a : Addr) (c : Option Cell) (cells : Addr → Option Cell) → b ≡ a → (Holds u c → ⊥) → Holds u (set_cell b c cells a) → ⊥
  freed b a c cells is none holds = none (subst (λ (x : Option Cell). Holds u x) (ap (λ (z : Addr). set_cell b c cells z) (sym is) ∙ set_self b c cells) holds)

  freed_after : (p : NodeState) (e : Entry) (a : Addr) → Frees u a e → Holds u ((after p e).cells a) → ⊥
  freed_after p (Put t b w) a frees holds = freed b a (installed w (p.cells b)) p.cells frees.1 (holds_installed w (p.cells b)) holds
  freed_after p (Unlock t b) a frees holds = freed b a (released (p.cells b)) p.cells frees.1 (holds_released (p.cells b)) holds
  freed_after p (Made m) a frees holds = absurd frees
  freed_after p (Open k c x) a frees holds = absurd frees
  freed_after p (Shut k) a frees holds = absurd frees
  freed_after p (Read k b s answer) a frees holds = absurd frees
  freed_after p (Alloc t r v placed) a frees holds = absurd frees
  freed_after p (Lock t b r new answer) a frees holds = absurd frees
  freed_after p (Check t b r w answer) a frees holds = absurd frees
  freed_after p (Collect k f removed) a frees holds = absurd frees

pub held_before : (before rest : List Entry) (t : TxnId) (a : Addr) → Lawful before → AllByRecursion (IsOther t.actor) rest → HeldBy (replay (before ++ rest)) t a → HeldBy (replay before) t a
held_before before rest t a lawful others held =
    holds_held (replay before) t a (holds_from t (replay before) rest a others
    (held_holds (replay_from (replay before) rest) t a (subst (λ (p : NodeState). HeldBy p t a) (replay_behind before rest lawful) held)))

pub held_last : (before : List Entry) (e : Entry) (t : TxnId) (a : Addr) → Lawful before → HeldBy (replay (before ++ e ∷ [])) t a → HeldBy (replay before) t a ⊎ Takes t a e
held_last before e t a lawful held = ⊎_elim (λ holds. inl (holds_held (replay before) t a holds)) (λ takes. inr takes)
    (holds_after t (replay before) e a (held_holds (after (replay before) e) t a (subst (λ (p : NodeState). HeldBy p t a) (replay_behind before (e ∷ []) lawful) held)))

pub freed_last : (before : List Entry) (e : Entry) (t : TxnId) (a : Addr) → Lawful before → Frees t a e → HeldBy (replay (before ++ e ∷ [])) t a → ⊥
freed_last before e t a lawful frees held =
    freed_after t (replay before) e a frees (held_holds (after (replay before) e) t a (subst (λ (p : NodeState). HeldBy p t a) (replay_behind before (e ∷ []) lawful) held))

-- what a transaction made, through entries of others

abbrev NewAt : Hold → Option Cell → Type 0
NewAt h None = ⊥
NewAt h (Some d) = (d.lock ≡ Some h) × (d.versions ≡ [])

record StaysNew (h : Hold) (c : Option Cell) (past floor : ℕ) (story : Story) : Type 0 where
  held : NewAt h c

same_holder : (c : Cell) (h k : Hold) (t : TxnId) → c.lock ≡ Some h → c.lock ≡ Some k → k.by ≡ t → t.actor ≡ h.by.actor
same_holder c h k t is is' own = cc

not_free : (l : Option Hold) (k : Hold) → l ≡ Some k → is_open l ≡ true → ⊥
not_free None k is e = cc
not_free (Some x) k is e = cc

stays_new : (a : Addr) (h : Hold) → Keeps a (IsOther h.by.actor) (StaysNew h)
stays_new a h = record {
  aside = λ c past past' floor story more t. record { held = t.held };
  looked = λ c s past floor story free t. record { held = t.held };
  made = λ u r v placed past floor story making t. absurd t.held;
  locked = λ u b r new given c past floor story locking t. absurd (⊎_elim
      (λ (free : c.lock ≡ None). let held : c.lock ≡ Some h = t.held.0 in cc)
      (λ own. locking.fits (same_holder c h own.0 u t.held.0 own.1 own.2))
      locking.free);
  put = λ u b w c past floor story ending above t. absurd (ending.fits (same_holder c h ending.hold u t.held.0 ending.lock ending.own));
  unlocked = λ u b c past floor story ending t. absurd (ending.fits (same_holder c h ending.hold u t.held.0 ending.lock ending.own));
  back = λ u b c past floor story ending none t. absurd (ending.fits (same_holder c h ending.hold u t.held.0 ending.lock ending.own));
  cut = λ c past past' floor floor' story past_more more t. record { held = (t.held.0, ap (cut floor') t.held.1) };
  went = λ c past past' floor floor' story past_more more gone high t. absurd (not_free c.lock h t.held.0 (and_left (is_open c.lock) (is_gone floor' c.versions) gone));
  none = λ past past' floor floor' story past_more more t. absurd t.held;
}

new_cell : (h : Hold) (c : Option Cell) → NewAt h c → (d : Cell) × (c ≡ Some d) × (d.lock ≡ Some h) × (d.versions ≡ [])
new_cell h None t = absurd t
new_cell h (Some d) t = (d, refl, t.0, t.1)

pub new_stays : (before rest : List Entry) (t : TxnId) (a : Addr) → Lawful (before ++ rest) → AllByRecursion (IsOther t.actor) rest → HeldNew (replay before) t a → HeldNew (replay (before ++ rest)) t a
new_stays [] rest t a lawful others held = let none : None ≡ Some held.0 = held.2 in absurd (cc)
new_stays (Made m ∷ es) rest t a lawful others held =
    let x : Stands a (Made m ∷ es) rest = stands_behind a m es rest lawful in
    let p : NodeState = replay (Made m ∷ es) in
    let h : Hold = held.1 in
    let start : NewAt h (p.cells a) = subst (λ (z : Option Cell). NewAt h z) (sym held.2) (held.3, held.5) in
    let others' : AllByRecursion (IsOther h.by.actor) rest = subst (λ (k : TxnId). AllByRecursion (IsOther k.actor) rest) (sym held.4) others in
    let end : StaysNew h ((replay_from p rest).cells a) (replay_from p rest).past (replay_from p rest).floor (story_from a (story a (Made m ∷ es)) rest) =
    keeps_all a (IsOther h.by.actor) (StaysNew h) (stays_new a h) p (story a (Made m ∷ es)) rest x.sound x.lawful others' record { held = start } in
    let d = new_cell h ((replay (Made m ∷ (es ++ rest))).cells a) (subst (λ (z : NodeState). NewAt h (z.cells a)) (sym (replay_append (begun m) es rest)) end.held) in
    (d.0, h, d.1, d.2, held.4, d.3)
new_stays (e ∷ es) rest t a lawful others held = absurd lawful

-- what was read

pub read_stays : (log : List Entry) (j k : ℕ) (a : Addr) (r : ℕ) (found : Found) → Lawful log → WasRead k a r found log → PinnedBy (replay log) j r → stamped_bytes (found_at r (versions_at (replay log) a)) ≡ stamped_bytes found
read_stays log j k a r found lawful was pin =
    let there : value_at log a r ≡ stamped_bytes found = subst (λ (es : List Entry). value_at es a r ≡ stamped_bytes found) (sym was.is) (reads.read was.before was.rest k a r found (subst Lawful was.is lawful)) in
    pins.kept log j pin.0 a r lawful pin.1 pin.2 ∙ there

pub owned : OwnedHold
owned = record {
  kept = kept;
  held_before = held_before;
  held_last = held_last;
  freed_last = freed_last;
  new_stays = new_stays;
  found = read_stays;
}
