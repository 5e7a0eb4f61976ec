-- What an event does to one address, said once.
use Rattle.farm_node.proofs.Common.{◌≡◌, ◌⊎◌, ℕ, ◌<◌, ◌≤◌, max, cond, Bool, true, false, List, [], ◌∷◌, Option, Some, None, Result, Ok, is_some, sym, refl, ap}
use Rattle.farm_node.proofs.Common.{◌∙◌, subst, inl, inr, ⊎_elim, arith, cond_both, AllByRecursion, Addr, TxnId, IsAmong, same_addr, Version, newest, cut, Hold}
use Rattle.farm_node.proofs.Common.{Found, Placed, Locked, CheckFault, Entry, Read, Alloc, Lock, Check, Put, Unlock, Collect, Bytes, Cell, is_open, read_answer}
use Rattle.farm_node.proofs.Common.{raised_to, past_raised, made_by, locked_by, lock_answer, check_answer, pending_of, installed, released, past_released, goes}
use Rattle.farm_node.proofs.Common.{collected, past_collected, NodeState, set_cell, places, new_floor, past_over, HeldBy, HeldNew, HasValue, FitsLock, Fits}
use Rattle.farm_node.proofs.Common.{looked_at, after, replay_from, LawfulFrom, gives, Story, with_given, with_put, story_after, story_from}
use Rattle.farm_node.proofs.Addresses.{addr_eq, set_cases}
use Rattle.farm_node.proofs.Sound.{Here, Sits, Lies, among_all, Sound, sound, pinned}
use Rattle.farm_node.proofs.Replies.{read_cases, lock_cases, check_cases}

-- what is known where an object is made, where a lock is given, and where a transaction ends its lock

pub record Making (a : Addr) (Q : Entry → Type 0) (t : TxnId) (r : ℕ) (v : Bytes) (placed : Placed) (past floor : ℕ) : Type 0 where
  pub fits : Q (Alloc t r v placed)
  pub here : placed.at ≡ a
  pub actor : 0 < t.actor
  pub pinned : floor ≤ r
  pub over : past ≤ placed.bound

pub record Locking (a : Addr) (Q : Entry → Type 0) (t : TxnId) (b : Addr) (r : ℕ) (new : Option Bytes) (given : Locked) (c : Cell) (floor : ℕ) : Type 0 where
  pub fits : Q (Lock t b r new (Ok given))
  pub here : b ≡ a
  pub actor : 0 < t.actor
  pub pinned : floor ≤ r
  pub low : newest c.versions ≤ r
  pub free : (c.lock ≡ None) ⊎ ((k : Hold) × (c.lock ≡ Some k) × (k.by ≡ t))

pub record Ending (a : Addr) (Q : Entry → Type 0) (e : Entry) (t : TxnId) (b : Addr) (c : Cell) : Type 0 where
  pub fits : Q e
  pub here : b ≡ a
  pub hold : Hold
  pub lock : c.lock ≡ Some hold
  pub own : hold.by ≡ t

-- P speaks of what is at the address, the node's past and floor, and the address's story; Q of the entries
pub record Keeps (a : Addr) (Q : Entry → Type 0) (P : Option Cell → ℕ → ℕ → Story → Type 0) : Type 0 where
  pub aside : (c : Option Cell) (past past' floor : ℕ) (h : Story) → past ≤ past' → P c past floor h → P c past' floor h
  pub looked : (c : Cell) (s past floor : ℕ) (h : Story) → (c.lock ≡ None) ⊎ (s < newest c.versions) → P (Some c) past floor h
      → P (Some (record c { bound = max c.bound s })) past floor h
  pub made : (t : TxnId) (r : ℕ) (v : Bytes) (placed : Placed) (past floor : ℕ) (h : Story) → Making a Q t r v placed past floor → P None past floor h
      → P (Some (made_by t v placed.bound)) past floor (with_given t (gives r (Some v)) h)
  pub locked : (t : TxnId) (b : Addr) (r : ℕ) (new : Option Bytes) (given : Locked) (c : Cell) (past floor : ℕ) (h : Story) → Locking a Q t b r new given c floor → P (Some c) past floor h
      → P (Some (record c { lock = Some (record { by = t; pending = new }) })) past floor (with_given t (gives r new) h)
  pub put : (t : TxnId) (b : Addr) (w : ℕ) (c : Cell) (past floor : ℕ) (h : Story) → Ending a Q (Put t b w) t b c → c.bound < w → P (Some c) past floor h
      → P (Some (record { versions = (w, pending_of c.lock) ∷ c.versions; bound = w; lock = None })) past floor (with_put t w h)
  pub unlocked : (t : TxnId) (b : Addr) (c : Cell) (past floor : ℕ) (h : Story) → Ending a Q (Unlock t b) t b c → P (Some c) past floor h
      → P (Some (record c { lock = None })) past floor h
  -- an object without a version is given back
  pub back : (t : TxnId) (b : Addr) (c : Cell) (past floor : ℕ) (h : Story) → Ending a Q (Unlock t b) t b c → c.versions ≡ [] → P (Some c) past floor h
      → P None (max past c.bound) floor h
  -- a collection: an object with its versions cut, one that goes, and none
  pub cut : (c : Cell) (past past' floor floor' : ℕ) (h : Story) → past ≤ past' → floor ≤ floor' → P (Some c) past floor h
      → P (Some (record c { versions = cut floor' c.versions })) past' floor' h
  pub went : (c : Cell) (past past' floor floor' : ℕ) (h : Story) → past ≤ past' → floor ≤ floor' → goes floor' c ≡ true → c.bound ≤ past' → P (Some c) past floor h
      → P None past' floor' h
  pub none : (past past' floor floor' : ℕ) (h : Story) → past ≤ past' → floor ≤ floor' → P None past floor h → P None past' floor' h

-- past never falls

past_raised_more : (s : ℕ) (c : Option Cell) (past : ℕ) → past ≤ past_raised s c past
past_raised_more s None past = omega arith
past_raised_more s (Some c) past = omega arith

past_released_more : (c : Option Cell) (past : ℕ) → past ≤ past_released c past
past_released_more None past = omega arith
past_released_more (Some c) past = elim c.versions as (λ vs. past ≤ elim vs as (λ _. ℕ) [ [] ↦ max past c.bound | v ∷ more ↦ past ]) [ [] ↦ omega arith | v ∷ more ↦ omega arith ]

past_collected_more : (floor : ℕ) (c : Option Cell) (past : ℕ) → past ≤ past_collected floor c past
past_collected_more floor None past = omega arith
past_collected_more floor (Some c) past = elim (goes floor c) as (λ g. past ≤ cond g (max c.bound past) past) [ true ↦ omega arith | false ↦ omega arith ]

past_over_more : (floor : ℕ) (cells : Addr → Option Cell) (all : List Addr) (past : ℕ) → past ≤ past_over floor cells all past
past_over_more floor cells [] past = omega arith
past_over_more floor cells (b ∷ bs) past =
    let r : past ≤ past_over floor cells bs past = past_over_more floor cells bs past in
    let s : past_over floor cells bs past ≤ past_collected floor (cells b) (past_over floor cells bs past) = past_collected_more floor (cells b) (past_over floor cells bs past) in
    omega arith

-- past reaches the bound of what goes

abbrev pub Reaches : ℕ → Option Cell → ℕ → Type 0
Reaches floor None past = Unit {0}
Reaches floor (Some c) past = goes floor c ≡ true → c.bound ≤ past

reached : (floor : ℕ) (c : Option Cell) (past : ℕ) → Reaches floor c (past_collected floor c past)
reached floor None past = tt
reached floor (Some c) past = λ g. subst (λ (x : Bool). c.bound ≤ cond x (max c.bound past) past) (sym g) (omega arith)

reaches_more : (floor : ℕ) (c : Option Cell) (m n : ℕ) → m ≤ n → Reaches floor c m → Reaches floor c n
reaches_more floor None m n le t = tt
reaches_more floor (Some c) m n le t = λ g. let x : c.bound ≤ m = t g in omega arith

pub reached_over : (floor : ℕ) (cells : Addr → Option Cell) (all : List Addr) (past : ℕ) (a : Addr) → IsAmong a all → Reaches floor (cells a) (past_over floor cells all past)
reached_over floor cells [] past a there = absurd there
reached_over floor cells (b ∷ bs) past a there = ⊎_elim
    (λ (is : b ≡ a). subst (λ (z : Addr). Reaches floor (cells z) (past_over floor cells (b ∷ bs) past)) is (reached floor (cells b) (past_over floor cells bs past)))
    (λ more. reaches_more floor (cells a) (past_over floor cells bs past) (past_over floor cells (b ∷ bs) past) (past_collected_more floor (cells b) (past_over floor cells bs past))
    (reached_over floor cells bs past a more)) there

-- what an answer says of the object

read_open : (s : ℕ) (found : Found) (c : Cell) → Ok found ≡ read_answer s (Some c) → (c.lock ≡ None) ⊎ (s < newest c.versions)
read_open s found c due = read_cases s c (λ z. Ok found ≡ z → (c.lock ≡ None) ⊎ (s < newest c.versions)) (λ free e. free) (λ k is e. absurd (cc)) due

check_open : (r : ℕ) (c : Cell) → Ok tt ≡ check_answer r (Some c) → (c.lock ≡ None) × (newest c.versions ≤ r)
check_open r c due = check_cases r c (λ z. Ok tt ≡ z → (c.lock ≡ None) × (newest c.versions ≤ r)) (λ k is e. absurd (cc)) (λ above e. absurd (cc)) (λ is low e. (is, low)) due

-- a lock that was given was free, and no version is above r, or is the transaction's own of a new object
record LockOpen (t : TxnId) (r : ℕ) (c : Cell) : Type 0 where
  low : newest c.versions ≤ r
  free : (c.lock ≡ None) ⊎ ((k : Hold) × (c.lock ≡ Some k) × (k.by ≡ t))

lock_open : (t : TxnId) (r : ℕ) (given : Locked) (c : Cell) → ((k : Hold) → c.lock ≡ Some k → k.by ≡ t → c.versions ≡ []) → Ok given ≡ lock_answer t r (Some c) → LockOpen t r c
lock_open t r given c new due = lock_cases t r c (λ z. Ok given ≡ z → LockOpen t r c) (λ k is e. absurd (cc)) (λ above e. absurd (cc)) (λ is low e. record { low = low; free = inl is })
    (λ k is own e. record { low = subst (λ (vs : List Version). newest vs ≤ r) (sym (new k is own)) (omega arith); free = inr (k, is, own) }) due

pub no_cell : (c : Option Cell) → is_some c ≡ false → c ≡ None
no_cell None e = refl
no_cell (Some c) e = cc

-- where a lock is asked for, an object is there, and one that the transaction holds has no version
pub record Askable (t : TxnId) (found : Option Cell) : Type 0 where
  pub cell : Cell
  pub is : found ≡ Some cell
  pub new : (k : Hold) → cell.lock ≡ Some k → k.by ≡ t → cell.versions ≡ []

-- the condition of a lock says so
pub askable : (p : NodeState) (t : TxnId) (b : Addr) (r : ℕ) (answer : Result Locked CheckFault) → FitsLock p t b r answer → Askable t (p.cells b)
askable p t b r answer fits = ⊎_elim
    (λ (x : HasValue p b r × (HeldBy p t b → ⊥)). record { cell = x.0.0; is = x.0.2; new = λ k lock own. absurd (x.1 (x.0.0, k, x.0.2, lock, own)) })
    (λ (x : HeldNew p t b). record { cell = x.0; is = x.2; new = λ k lock own. x.5 })
    fits.may

lock_was : (p : NodeState) (t : TxnId) (b : Addr) (r : ℕ) (given : Locked) (fits : FitsLock p t b r (Ok given)) → LockOpen t r (askable p t b r (Ok given) fits).cell
lock_was p t b r given fits = let ask : Askable t (p.cells b) = askable p t b r (Ok given) fits in lock_open t r given ask.cell ask.new (fits.due ∙ ap (lock_answer t r) ask.is)

-- where a lock was given, no version is above r
pub lock_low : (p : NodeState) (t : TxnId) (b : Addr) (r : ℕ) (given : Locked) (fits : FitsLock p t b r (Ok given)) → newest (askable p t b r (Ok given) fits).cell.versions ≤ r
lock_low p t b r given fits = (lock_was p t b r given fits).low

pub check_open_at : (r : ℕ) (found : Option Cell) → Ok tt ≡ check_answer r found → (c : Cell) → found ≡ Some c → (c.lock ≡ None) × (newest c.versions ≤ r)
check_open_at r found due c is = check_open r c (due ∙ ap (check_answer r) is)

-- an object that is there lies among the places, so past reaches its bound
reached_sound : (floor : ℕ) (p : NodeState) (a : Addr) → Sound p → Reaches floor (p.cells a) (past_over floor p.cells (places p.regions) p.past)
reached_sound floor p a s = by (p.cells a) (s.sits a) (λ lies. reached_over floor p.cells (places p.regions) p.past a (among_all a p.regions lies)) where
  by : (c : Option Cell) → Here (Sits p.regions a) c → (Lies p.regions a → Reaches floor c (past_over floor p.cells (places p.regions) p.past)) → Reaches floor c (past_over floor p.cells (places p.regions) p.past)
  by None sits reach = tt
  by (Some c) sits reach = reach sits.lies

module _ (a : Addr) (Q : Entry → Type 0) (P : Option Cell → ℕ → ℕ → Story → Type 0) (k : Keeps a Q P) where
  abbrev At : NodeState → Story → Type 0
  At p h = P (p.cells a) p.past p.floor h

  -- P of what is at b, where b is a
  moved : (b : Addr) (p : NodeState) (h : Story) (c : Option Cell) → b ≡ a → p.cells b ≡ c → At p h → P c p.past p.floor h
  moved b p h c e is t = subst (λ (z : Option Cell). P z p.past p.floor h) (ap p.cells (sym e) ∙ is) t

  -- a change at b: it makes P where b is a, and elsewhere past alone may rise
  step : (b : Addr) (c : Option Cell) (past : ℕ) (p : NodeState) (h : Story) → p.past ≤ past → (b ≡ a → P c past p.floor h) → At p h → P (set_cell b c p.cells a) past p.floor h
  step b c past p h le here t = set_cases (λ z d. z ≡ a → P d past p.floor h) b a c p.cells here (λ e is. k.aside (p.cells a) p.past past p.floor h le t) refl

  -- the same where the story goes on with it
  told : (b : Addr) (c : Option Cell) (p : NodeState) (h new : Story) → (b ≡ a → P c p.past p.floor new) → At p h → P (set_cell b c p.cells a) p.past p.floor (cond (same_addr b a) new h)
  told b c p h new here t = by (same_addr b a) refl where
    by : (g : Bool) → same_addr b a ≡ g → P (cond g c (p.cells a)) p.past p.floor (cond g new h)
    by true e = here (addr_eq b a e)
    by false e = t

  look_step : (s : ℕ) (b : Addr) (p : NodeState) (h : Story) → ((c : Cell) → p.cells b ≡ Some c → (c.lock ≡ None) ⊎ (s < newest c.versions)) → At p h → At (looked_at b s p) h
  look_step s b p h is_open t = step b (raised_to s (p.cells b)) (past_raised s (p.cells b) p.past) p h (past_raised_more s (p.cells b) p.past) (λ e. on (p.cells b) refl (moved b p h (p.cells b) e refl t)) t where
    on : (c : Option Cell) → p.cells b ≡ c → P c p.past p.floor h → P (raised_to s c) (past_raised s c p.past) p.floor h
    on None is t = k.aside None p.past (max p.past s) p.floor h (omega arith) t
    on (Some c) is t = k.looked c s p.past p.floor h (is_open c is) t

  unlock_here : (u : TxnId) (b : Addr) (past floor : ℕ) (h : Story) (c : Cell) → Ending a Q (Unlock u b) u b c → (vs : List Version) → c.versions ≡ vs → P (Some c) past floor h
      → P (elim vs as (λ _. Option Cell) [ [] ↦ None | v ∷ more ↦ Some (record c { lock = None }) ]) (elim vs as (λ _. ℕ) [ [] ↦ max past c.bound | v ∷ more ↦ past ]) floor h
  unlock_here u b past floor h c ending [] is t = k.back u b c past floor h ending is t
  unlock_here u b past floor h c ending (v ∷ more) is t = k.unlocked u b c past floor h ending t

  collect_here : (floor floor' past past' : ℕ) (h : Story) (c : Option Cell) → past ≤ past' → floor ≤ floor' → Reaches floor' c past' → P c past floor h → P (collected floor' c) past' floor' h
  collect_here floor floor' past past' h None le more reach t = k.none past past' floor floor' h le more t
  collect_here floor floor' past past' h (Some c) le more reach t = cond_both (goes floor' c) _ _ (λ d. P d past' floor' h)
      (λ is. k.went c past past' floor floor' h le more is (reach is) t) (λ e. k.cut c past past' floor floor' h le more t)

  -- each lawful entry keeps P
  pub keeps : (p : NodeState) (h : Story) (e : Entry) → Sound p → Fits p e → Q e → At p h → At (after p e) (story_after a h e)
  keeps p h (Read j b x (Ok found)) s fits q t = look_step x b p h (λ c is. read_open x found c (fits.2 ∙ ap (read_answer x) is)) t
  keeps p h (Alloc u r v placed) s fits q t =
      let pin = pinned p u.actor r s fits.0 in
      told placed.at (Some (made_by u v placed.bound)) p h (with_given u (gives r (Some v)) h)
      (λ is. k.made u r v placed p.past p.floor h record { fits = q; here = is; actor = pin.0; pinned = pin.1; over = omega arith }
      (moved placed.at p h None is (no_cell (p.cells placed.at) fits.2.free) t)) t
  keeps p h (Lock u b r new (Ok given)) s fits q t =
      let ask : Askable u (p.cells b) = askable p u b r (Ok given) fits in
      let was : LockOpen u r ask.cell = lock_was p u b r given fits in
      let pin = pinned p u.actor r s fits.pinned in
      told b (locked_by u new (p.cells b)) p h (with_given u (gives r new) h)
      (λ is. subst (λ (c : Option Cell). P (locked_by u new c) p.past p.floor (with_given u (gives r new) h)) (sym ask.is)
      (k.locked u b r new given ask.cell p.past p.floor h record { fits = q; here = is; actor = pin.0; pinned = pin.1; low = was.low; free = was.free } (moved b p h (Some ask.cell) is ask.is t))) t
  keeps p h (Check u b r w (Ok same)) s fits q t = look_step w b p h (λ c is. inl (check_open_at r (p.cells b) fits.due c is).0) t
  keeps p h (Put u b w) s fits q t =
      let may = fits.0 in
      told b (installed w (p.cells b)) p h (with_put u w h)
      (λ is. subst (λ (c : Option Cell). P (installed w c) p.past p.floor (with_put u w h)) (sym may.2)
      (k.put u b w may.0 p.past p.floor h record { fits = q; here = is; hold = may.1; lock = may.3; own = may.4 } may.5 (moved b p h (Some may.0) is may.2 t))) t
  keeps p h (Unlock u b) s held q t =
      step b (released (p.cells b)) (past_released (p.cells b) p.past) p h (past_released_more (p.cells b) p.past)
      (λ is. subst (λ (c : Option Cell). P (released c) (past_released c p.past) p.floor h) (sym held.2)
      (unlock_here u b p.past p.floor h held.0 record { fits = q; here = is; hold = held.1; lock = held.3; own = held.4 } held.0.versions refl (moved b p h (Some held.0) is held.2 t))) t
  keeps p h (Collect j f removed) s fits q t = collect_here p.floor (new_floor p f) p.past (past_over (new_floor p f) p.cells (places p.regions) p.past) h (p.cells a)
      (past_over_more (new_floor p f) p.cells (places p.regions) p.past) (omega arith) (reached_sound (new_floor p f) p a s) t
  keeps p h e s fits q t = t

  -- and so does a list of them
  pub keeps_all : (p : NodeState) (h : Story) (es : List Entry) → Sound p → LawfulFrom p es → AllByRecursion Q es → At p h → At (replay_from p es) (story_from a h es)
  keeps_all p h [] s lawful q t = t
  keeps_all p h (e ∷ es) s lawful q t = keeps_all (after p e) (story_after a h e) es (sound p e lawful.0 s) lawful.1 q.1 (keeps p h e s lawful.0 q.0 t)

  -- what P says of each entry, holds of each
  pub keeps_each : (R : Entry → Type 0) → ((p : NodeState) (h : Story) (e : Entry) → Fits p e → At p h → R e) → (p : NodeState) (h : Story) (es : List Entry)
      → Sound p → LawfulFrom p es → AllByRecursion Q es → At p h → AllByRecursion R es
  keeps_each R f p h [] s lawful q t = tt
  keeps_each R f p h (e ∷ es) s lawful q t =
      (f p h e lawful.0 t, keeps_each R f (after p e) (story_after a h e) es (sound p e lawful.0 s) lawful.1 q.1 (keeps p h e s lawful.0 q.0 t))
