-- What the state at one address knows of the address's whole story.
use Rattle.farm_node.proofs.Common.{◌≡◌, ℕ, ◌<◌, ◌≤◌, nat_le, max, cond, Bool, true, false, List, [], ◌∷◌, ◌++◌, Option, Some, None, sym, refl, ap, ◌∙◌, subst}
use Rattle.farm_node.proofs.Common.{arith, and_parts, AllByRecursion, Addr, TxnId, same_addr, Version, version_at, newest, cut, Falls, Hold, Start, Entry, Made}
use Rattle.farm_node.proofs.Common.{Bytes, Cell, is_open, found_of, found_at, loaded_cell, pending_of, is_gone, NodeState, after, loaded_cells, begun}
use Rattle.farm_node.proofs.Common.{replay_from, LawfulFrom, replay, Lawful, gives, Installed, Story, with_given, story_after, story_from, nobody, loaded_puts}
use Rattle.farm_node.proofs.Common.{story_begun, story, versions_of, stamped_bytes, versions_there}
use Rattle.farm_node.proofs.Sound.{txn_self, Sound, sound_begun, sound_end}
use Rattle.farm_node.proofs.Steps.{Keeps, keeps_all}
use Rattle.farm_node.proofs.Chains.{cut_at, newest_cut, gone_at, BelowAll, below_more, newest_below, Decided}

-- the value that waits is what its transaction last gave, and no put so far is above the read stamp there

abbrev pub WaitsLock : Option Hold → Story → Type 0
WaitsLock None h = Unit {0}
WaitsLock (Some k) h = (k.pending ≡ (h.given k.by).value) × BelowAll (h.given k.by).read h.puts

abbrev pub Waits : Option Cell → Story → Type 0
Waits None h = Unit {0}
Waits (Some c) h = WaitsLock c.lock h

-- every put so far is at most the bound, or past where there is no object
abbrev pub Under : Option Cell → ℕ → List Installed → Type 0
Under None past puts = BelowAll past puts
Under (Some c) past puts = BelowAll c.bound puts

-- the newest version is at most the bound
abbrev pub Below : Option Cell → Type 0
Below None = Unit {0}
Below (Some c) = newest c.versions ≤ c.bound

-- from the floor on the versions there show what the puts show, and no put is above both
pub record Shows (versions : List Version) (floor : ℕ) (puts : List Installed) : Type 0 where
  pub same : (s : ℕ) → floor ≤ s → stamped_bytes (found_at s versions) ≡ stamped_bytes (found_at s (versions_of puts))
  pub top : BelowAll (max floor (newest versions)) puts

pub record Tells (c : Option Cell) (past floor : ℕ) (h : Story) : Type 0 where
  pub shows : Shows (versions_there c) floor h.puts
  pub waits : Waits c h
  pub under : Under c past h.puts
  pub below : Below c
  pub order : Falls (versions_of h.puts) × Decided h.puts

under_more : (c : Option Cell) (past past' : ℕ) (puts : List Installed) → past ≤ past' → Under c past puts → Under c past' puts
under_more None past past' puts le t = below_more past past' puts le t
under_more (Some c) past past' puts le t = t

gave : (t : TxnId) (r : ℕ) (v : Option Bytes) (h : Story) → BelowAll r h.puts → WaitsLock (Some (record { by = t; pending = v })) (with_given t (gives r v) h)
gave t r v h low = subst (λ (x : Bool). (v ≡ (cond x (gives r v) (h.given t)).value) × BelowAll (cond x (gives r v) (h.given t)).read h.puts) (sym (txn_self t)) (refl, low)

-- the value and the read stamp that wait, by the lock's transaction
pub waiting : (c : Cell) (k : Hold) (t : TxnId) (h : Story) → c.lock ≡ Some k → k.by ≡ t → WaitsLock c.lock h → (pending_of c.lock ≡ (h.given t).value) × BelowAll (h.given t).read h.puts
waiting c k t h lock own w = subst (λ (u : TxnId). (pending_of c.lock ≡ (h.given u).value) × BelowAll (h.given u).read h.puts) own
    (subst (λ (l : Option Hold). WaitsLock l h → (pending_of l ≡ (h.given k.by).value) × BelowAll (h.given k.by).read h.puts) (sym lock) (λ z. z) w)

same_le : (n : ℕ) → n ≤ n
same_le n = omega arith

-- what a put, a higher floor, a cut and a collection of the whole object show

shows_put : (w floor : ℕ) (vs : List Version) (v : Option Bytes) (i : Installed) (puts : List Installed) → i.stamp ≡ w → v ≡ i.value → BelowAll w puts → Shows vs floor puts → Shows ((w, v) ∷ vs) floor (i ∷ puts)
shows_put w floor vs v i puts at is low t = record {
  same = λ s le. subst (λ (x : Version). stamped_bytes (found_at s ((w, v) ∷ vs)) ≡ stamped_bytes (found_at s (x ∷ versions_of puts))) (λ k. (sym at k, is k))
      (elim (nat_le w s) as (λ g. stamped_bytes (found_of (cond g (Some (w, v)) (version_at s vs))) ≡ stamped_bytes (found_of (cond g (Some (w, v)) (version_at s (versions_of puts))))) [ true ↦ refl | false ↦ t.same s le ]);
  top = (omega arith, below_more w (max floor w) puts (omega arith) low);
}

shows_higher : (floor floor' : ℕ) (vs : List Version) (puts : List Installed) → floor ≤ floor' → Shows vs floor puts → Shows vs floor' puts
shows_higher floor floor' vs puts more t = record {
  same = λ s low. let l : floor ≤ s = omega arith in t.same s l;
  top = below_more (max floor (newest vs)) (max floor' (newest vs)) puts (omega arith) t.top;
}

shows_cut : (floor : ℕ) (vs : List Version) (puts : List Installed) → Shows vs floor puts → Shows (cut floor vs) floor puts
shows_cut floor vs puts t = record {
  same = λ s low. ap (λ (x : Option Version). stamped_bytes (found_of x)) (cut_at floor s vs low) ∙ t.same s low;
  top = subst (λ (n : ℕ). BelowAll (max floor n) puts) (sym (newest_cut floor vs)) t.top;
}

shows_gone : (floor : ℕ) (vs : List Version) (puts : List Installed) → is_gone floor vs ≡ true → Shows vs floor puts → Shows [] floor puts
shows_gone floor vs puts gone t = record {
  same = λ s low. sym (gone_at floor s vs low gone).0 ∙ t.same s low;
  top = let n : newest vs ≤ floor = (gone_at floor floor vs (same_le floor) gone).1 in below_more (max floor (newest vs)) (max floor 0) puts (omega arith) t.top;
}

tells : (a : Addr) → Keeps a (λ e. Unit {0}) Tells
tells a = record {
  aside = λ c past past' floor h le t. record { shows = t.shows; waits = t.waits; under = under_more c past past' h.puts le t.under; below = t.below; order = t.order };
  looked = λ c s past floor h free t.
      let b : newest c.versions ≤ c.bound = t.below in
      record { shows = t.shows; waits = t.waits; under = below_more c.bound (max c.bound s) h.puts (omega arith) t.under; below = omega arith; order = t.order };
  made = λ u r v placed past floor h making t.
      let waits = gave u r (Some v) h (below_more (max floor 0) r h.puts (omega arith) t.shows.top) in
      record { shows = t.shows; waits = waits; under = below_more past placed.bound h.puts making.over t.under; below = omega arith; order = t.order };
  locked = λ u b r new given c past floor h locking t.
      let waits = gave u r new h (below_more (max floor (newest c.versions)) r h.puts (omega arith) t.shows.top) in
      record { shows = t.shows; waits = waits; under = t.under; below = t.below; order = t.order };
  put = λ u b w c past floor h ending above t.
      let wait = waiting c ending.hold u h ending.lock ending.own t.waits in
      let low : BelowAll w h.puts = below_more c.bound w h.puts (omega arith) t.under in
      let n : newest (versions_of h.puts) ≤ c.bound = newest_below c.bound h.puts t.under in
      record { shows = shows_put w floor c.versions _ _ h.puts refl wait.0 low t.shows; waits = tt; under = (omega arith, low); below = same_le w; order = ((omega arith, t.order.0), (wait.1, t.order.1)) };
  unlocked = λ u b c past floor h ending t. record { shows = t.shows; waits = tt; under = t.under; below = t.below; order = t.order };
  back = λ u b c past floor h ending none t.
      let shows : Shows [] floor h.puts = subst (λ (vs : List Version). Shows vs floor h.puts) none t.shows in
      record { shows = shows; waits = tt; under = below_more c.bound (max past c.bound) h.puts (omega arith) t.under; below = tt; order = t.order };
  cut = λ c past past' floor floor' h le more t.
      let shows = shows_cut floor' c.versions h.puts (shows_higher floor floor' c.versions h.puts more t.shows) in
      record { shows = shows; waits = t.waits; under = t.under; below = subst (λ (n : ℕ). n ≤ c.bound) (sym (newest_cut floor' c.versions)) t.below; order = t.order };
  went = λ c past past' floor floor' h le more gone high t.
      let shows = shows_gone floor' c.versions h.puts (and_parts (is_open c.lock) (is_gone floor' c.versions) gone).1 (shows_higher floor floor' c.versions h.puts more t.shows) in
      record { shows = shows; waits = tt; under = below_more c.bound past' h.puts high t.under; below = tt; order = t.order };
  none = λ past past' floor floor' h le more t.
      record { shows = shows_higher floor floor' [] h.puts more t.shows; waits = tt; under = below_more past past' h.puts le t.under; below = tt; order = t.order };
}

tells_begun : (a : Addr) (stamp : ℕ) (heap : List (Addr × Bytes)) → 0 < stamp → Tells (loaded_cells stamp heap a) stamp stamp (record { puts = loaded_puts a stamp heap; given = λ t. gives 0 None })
tells_begun a stamp [] low = record { shows = record { same = λ s le. refl; top = tt }; waits = tt; under = tt; below = tt; order = (tt, tt) }
tells_begun a stamp (x ∷ xs) low =
    elim (same_addr x.0 a) as (λ g. Tells (cond g (Some (loaded_cell stamp x.1)) (loaded_cells stamp xs a)) stamp stamp
    (record { puts = cond g (record { by = nobody; read = 0; stamp = stamp; value = Some x.1 } ∷ []) (loaded_puts a stamp xs); given = λ t. gives 0 None })) [
      | true ↦ record { shows = record { same = λ s le. refl; top = (omega arith, tt) }; waits = tt; under = (omega arith, tt); below = same_le stamp; order = ((low, tt), (tt, tt)) }
      | false ↦ tells_begun a stamp xs low
    ]

-- lists

split_lawful : (p : NodeState) (before rest : List Entry) → LawfulFrom p (before ++ rest) → LawfulFrom p before × LawfulFrom (replay_from p before) rest
split_lawful p [] rest lawful = (tt, lawful)
split_lawful p (e ∷ es) rest lawful = let r = split_lawful (after p e) es rest lawful.1 in ((lawful.0, r.0), r.1)

pub each_unit : (es : List Entry) → AllByRecursion (λ e. Unit {0}) es
each_unit [] = tt
each_unit (e ∷ es) = (tt, each_unit es)

story_append : (a : Addr) (h : Story) (before rest : List Entry) → story_from a h (before ++ rest) ≡ story_from a (story_from a h before) rest
story_append a h [] rest = refl
story_append a h (e ∷ es) rest = story_append a (story_after a h e) es rest

pub replay_append : (p : NodeState) (before rest : List Entry) → replay_from p (before ++ rest) ≡ replay_from (replay_from p before) rest
replay_append p [] rest = refl
replay_append p (e ∷ es) rest = replay_append (after p e) es rest

abbrev pub TellsAt : Addr → NodeState → Story → Type 0
TellsAt a p h = Tells (p.cells a) p.past p.floor h

-- the end of a lawful list
pub record Ends (a : Addr) (log : List Entry) : Type 0 where
  pub sound : Sound (replay log)
  pub tells : TellsAt a (replay log) (story a log)

-- what a lawful list leads to, and its story
pub ends : (a : Addr) (log : List Entry) → Lawful log → Ends a log
ends a [] lawful = absurd lawful
ends a (Made m ∷ es) lawful = record {
  sound = sound_end (Made m ∷ es) lawful;
  tells = keeps_all a (λ e. Unit {0}) Tells (tells a) (begun m) (story_begun a m) es (sound_begun m lawful.0) lawful.1 (each_unit es) (tells_begun a m.stamp m.heap lawful.0.2);
}
ends a (x ∷ es) lawful = absurd lawful

-- a place inside a lawful list, behind its first entry
pub record Stands (a : Addr) (before rest : List Entry) : Type 0 where
  pub begins : Lawful before
  pub sound : Sound (replay before)
  pub tells : TellsAt a (replay before) (story a before)
  pub lawful : LawfulFrom (replay before) rest
  pub story : story a (before ++ rest) ≡ story_from a (story a before) rest

abbrev pub NotMade : Entry → Type 0
NotMade (Made m) = ⊥
NotMade e = Unit {0}

no_first : (e : Entry) (rest : List Entry) → NotMade e → Lawful (e ∷ rest) → ⊥
no_first (Made m) rest n lawful = n
no_first e rest n lawful = lawful

pub stands_behind : (a : Addr) (m : Start) (es rest : List Entry) → Lawful (Made m ∷ (es ++ rest)) → Stands a (Made m ∷ es) rest
stands_behind a m es rest lawful =
    let two = split_lawful (begun m) es rest lawful.1 in
    let end : Ends a (Made m ∷ es) = ends a (Made m ∷ es) (lawful.0, two.0) in
    record {
      begins = (lawful.0, two.0);
      sound = end.sound;
      tells = end.tells;
      lawful = two.1;
      story = story_append a (story_begun a m) es rest;
    }

pub stands : (a : Addr) (before : List Entry) (e : Entry) (rest : List Entry) → NotMade e → Lawful (before ++ e ∷ rest) → Stands a before (e ∷ rest)
stands a [] e rest n lawful = absurd (no_first e rest n lawful)
stands a (Made m ∷ es) e rest n lawful = stands_behind a m es (e ∷ rest) lawful
stands a (x ∷ es) e rest n lawful = absurd lawful
