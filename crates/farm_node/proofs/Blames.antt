-- Who and what a conflict blames, and the ranges of stamps.
use Rattle.farm_node.proofs.Common.{◌≡◌, ℕ, ◌<◌, ◌≤◌, nat_le, leb-true, List, [], ◌∷◌, ◌++◌, Option, Some, None, Ok, Err, sym, refl, ap, ◌∙◌, subst, inl, inr, ⊎_elim, arith}
use Rattle.farm_node.proofs.Common.{Version, version_at, found_of, found_at, cond_both, AllByRecursion, Addr, TxnId, IsAmong, same_addr, newest, Hold, Held, Changed, Entry, Made, Read, Alloc}
use Rattle.farm_node.proofs.Common.{Lock, Check, Bytes, Cell, read_answer, lock_answer, check_answer, NodeState, PinnedBy, Fits, loaded_cells, begun, replay}
use Rattle.farm_node.proofs.Common.{Lawful, Installed, Story, story_from, untold, story, versions_there, Takes, BlamesHolder, BlamesPut}
use Rattle.farm_node.specs.Locks.{LocksHold, RangesHold, TellsChanged}
use Rattle.farm_node.proofs.Sound.{Here, Sits, PinOk, sound_begun, sound_end, pinned}
use Rattle.farm_node.proofs.Steps.{Keeps, keeps_all}
use Rattle.farm_node.proofs.Stories.{Stands, stands}
use Rattle.farm_node.proofs.LocksStay.{below, stays, pin}
use Rattle.farm_node.proofs.Later.{PutAt, later_end}
use Rattle.farm_node.proofs.PutsStay.{loaded}
use Rattle.farm_node.proofs.Answered.{answered}
use Rattle.farm_node.proofs.Replies.{read_cases, lock_cases, check_cases}

-- who holds an address took it by an entry

abbrev TookBy : Addr → List Entry → Option Hold → Type 0
TookBy a log None = Unit {0}
TookBy a log (Some k) = (d : Entry) × IsAmong d log × Takes k.by a d

abbrev TookAt : Addr → List Entry → Option Cell → Type 0
TookAt a log None = Unit {0}
TookAt a log (Some c) = TookBy a log c.lock

record Took (a : Addr) (log : List Entry) (c : Option Cell) (past floor : ℕ) (h : Story) : Type 0 where
  took : TookAt a log c

took : (a : Addr) (log : List Entry) → Keeps a (λ e. IsAmong e log) (Took a log)
took a log = record {
  aside = λ c past past' floor h le t. record { took = t.took };
  looked = λ c s past floor h free t. record { took = t.took };
  made = λ u r v placed past floor h making t. record { took = (Alloc u r v placed, making.fits, (refl, making.here)) };
  locked = λ u b r new given c past floor h locking t. record { took = (Lock u b r new (Ok given), locking.fits, (refl, locking.here)) };
  put = λ u b w c past floor h ending above t. record { took = tt };
  unlocked = λ u b c past floor h ending t. record { took = tt };
  back = λ u b c past floor h ending none t. record { took = tt };
  cut = λ c past past' floor floor' h le more t. record { took = t.took };
  went = λ c past past' floor floor' h le more gone high t. record { took = tt };
  none = λ past past' floor floor' h le more t. record { took = tt };
}

among_more : (log : List Entry) (e : Entry) (es : List Entry) → AllByRecursion (λ d. IsAmong d log) es → AllByRecursion (λ d. IsAmong d (e ∷ log)) es
among_more log e [] t = tt
among_more log e (d ∷ ds) t = (inr t.0, among_more log e ds t.1)

among_self : (log : List Entry) → AllByRecursion (λ d. IsAmong d log) log
among_self [] = tt
among_self (e ∷ es) = (inl refl, among_more es e es (among_self es))

took_begun : (a : Addr) (log : List Entry) (stamp : ℕ) (heap : List (Addr × Bytes)) → TookAt a log (loaded_cells stamp heap a)
took_begun a log stamp [] = tt
took_begun a log stamp (x ∷ xs) = cond_both (same_addr x.0 a) _ _ (TookAt a log) (λ is. tt) (λ e. took_begun a log stamp xs)

took_end : (a : Addr) (log : List Entry) → Lawful log → TookAt a log ((replay log).cells a)
took_end a [] lawful = absurd lawful
took_end a (Made m ∷ es) lawful =
    (keeps_all a (λ e. IsAmong e (Made m ∷ es)) (Took a (Made m ∷ es)) (took a (Made m ∷ es)) (begun m) untold es (sound_begun m lawful.0) lawful.1
    (among_self (Made m ∷ es)).1 record { took = took_begun a (Made m ∷ es) m.stamp m.heap }).took
took_end a (e ∷ es) lawful = absurd lawful

-- who is blamed as the holder

abbrev HeldBecause : TxnId → Option Cell → Type 0
HeldBecause t found = (c : Cell) × (k : Hold) × (found ≡ Some c) × (c.lock ≡ Some k) × (k.by ≡ t)

module _ (t : TxnId) where
  read_held : (s : ℕ) (found : Option Cell) → Err t ≡ read_answer s found → HeldBecause t found
  read_held s None due = cc
  read_held s (Some c) due = read_cases s c (λ z. Err t ≡ z → HeldBecause t (Some c)) (λ free e. absurd (cc)) (λ k is e. (c, k, refl, is, (cc))) due

  lock_held : (u : TxnId) (r : ℕ) (found : Option Cell) → Err (Held t) ≡ lock_answer u r found → HeldBecause t found
  lock_held u r None due = cc
  lock_held u r (Some c) due = lock_cases u r c (λ z. Err (Held t) ≡ z → HeldBecause t (Some c))
      (λ k is e. (c, k, refl, is, (cc))) (λ above e. absurd (cc)) (λ is low e. absurd (cc)) (λ k is own e. absurd (cc)) due

  check_held : (r : ℕ) (found : Option Cell) → Err (Held t) ≡ check_answer r found → HeldBecause t found
  check_held r None due = cc
  check_held r (Some c) due = check_cases r c (λ z. Err (Held t) ≡ z → HeldBecause t (Some c)) (λ k is e. (c, k, refl, is, (cc))) (λ above e. absurd (cc)) (λ is low e. absurd (cc)) due

held_by : (p : NodeState) (e : Entry) (t : TxnId) (a : Addr) → BlamesHolder t a e → Fits p e → HeldBecause t (p.cells a)
held_by p (Read k b s (Err by)) t a blames fits = read_held t s (p.cells a) (ap Err (sym blames.1) ∙ (fits.2 ∙ ap (λ (z : Addr). read_answer s (p.cells z)) blames.0))
held_by p (Lock u b r new (Err (Held by))) t a blames fits =
    lock_held t u r (p.cells a) (ap (λ (z : TxnId). Err (Held z)) (sym blames.1) ∙ (fits.due ∙ ap (λ (z : Addr). lock_answer u r (p.cells z)) blames.0))
held_by p (Check u b r w (Err (Held by))) t a blames fits =
    check_held t r (p.cells a) (ap (λ (z : TxnId). Err (Held z)) (sym blames.1) ∙ (fits.due ∙ ap (λ (z : Addr). check_answer r (p.cells z)) blames.0))
held_by p e t a blames fits = absurd blames

took_by : (a : Addr) (log : List Entry) (t : TxnId) → Lawful log → HeldBecause t ((replay log).cells a) → (d : Entry) × IsAmong d log × Takes t a d
took_by a log t lawful why =
    subst (λ (u : TxnId). (d : Entry) × IsAmong d log × Takes u a d) why.4
    (subst (λ (l : Option Hold). TookBy a log l) why.3 (subst (λ (c : Option Cell). TookAt a log c) why.2 (took_end a log lawful)))

holder : (before rest : List Entry) (e : Entry) (t : TxnId) (a : Addr) → Lawful (before ++ e ∷ rest) → BlamesHolder t a e → (d : Entry) × IsAmong d before × Takes t a d
holder before rest (Made m) t a lawful blames = absurd blames
holder before rest e t a lawful blames =
    let x : Stands a before (e ∷ rest) = stands a before e rest tt lawful in
    took_by a before t x.begins (held_by (replay before) e t a blames x.lawful.0)

-- the stamp that is blamed

abbrev ChangedBecause : ℕ → ℕ → Option Cell → Type 0
ChangedBecause r now found = (c : Cell) × (found ≡ Some c) × (r < now) × (newest c.versions ≡ now)

module _ (seen now : ℕ) where
  lock_changed : (t : TxnId) (r : ℕ) (found : Option Cell) → Err (Changed seen now) ≡ lock_answer t r found → ChangedBecause r now found
  lock_changed t r None due = cc
  lock_changed t r (Some c) due = lock_cases t r c (λ z. Err (Changed seen now) ≡ z → ChangedBecause r now (Some c)) (λ k is e. absurd (cc))
      (λ above e. let same : newest c.versions ≡ now = cc in (c, refl, omega arith, same)) (λ is low e. absurd (cc)) (λ k is own e. absurd (cc)) due

  check_changed : (r : ℕ) (found : Option Cell) → Err (Changed seen now) ≡ check_answer r found → ChangedBecause r now found
  check_changed r None due = cc
  check_changed r (Some c) due = check_cases r c (λ z. Err (Changed seen now) ≡ z → ChangedBecause r now (Some c)) (λ k is e. absurd (cc))
      (λ above e. let same : newest c.versions ≡ now = cc in (c, refl, omega arith, same)) (λ is low e. absurd (cc)) due

-- who asked is pinned at the read stamp
changed_by : (p : NodeState) (e : Entry) (r now : ℕ) (a : Addr) → BlamesPut r now a e → Fits p e → (k : ℕ) × PinnedBy p k r × ChangedBecause r now (p.cells a)
changed_by p (Lock u b q new (Err (Changed s n))) r now a blames fits =
    let due : Err (Changed s now) ≡ lock_answer u r (p.cells a) = ap (λ (z : ℕ). Err (Changed s z)) (sym blames.2) ∙ (fits.due ∙ (λ i. lock_answer u (blames.1 i) (p.cells (blames.0 i)))) in
    (u.actor, subst (PinnedBy p u.actor) blames.1 fits.pinned, lock_changed s now u r (p.cells a) due)
changed_by p (Check u b q w (Err (Changed s n))) r now a blames fits =
    let due : Err (Changed s now) ≡ check_answer r (p.cells a) = ap (λ (z : ℕ). Err (Changed s z)) (sym blames.2) ∙ (fits.due ∙ (λ i. check_answer (blames.1 i) (p.cells (blames.0 i)))) in
    (u.actor, subst (PinnedBy p u.actor) blames.1 fits.pinned, check_changed s now r (p.cells a) due)
changed_by p e r now a blames fits = absurd blames

abbrev PutBecause : ℕ → ℕ → List Installed → Type 0
PutBecause r now puts = (i : Installed) × IsAmong i puts × (i.stamp ≡ now) × (r < now) × (0 < i.by.actor)

among_first : (i : Installed) (xs ys : List Installed) → IsAmong i xs → IsAmong i (xs ++ ys)
among_first i [] ys there = absurd there
among_first i (x ∷ xs) ys there = ⊎_elim (λ is. inl is) (λ more. inr (among_first i xs ys more)) there

-- the newest version above the floor is an actor's put
newest_put : (a : Addr) (k r now : ℕ) (log : List Entry) → Lawful log → PinnedBy (replay log) k r → ChangedBecause r now ((replay log).cells a) → PutBecause r now (story a log).puts
newest_put a k r now [] lawful pin why = absurd lawful
newest_put a k r now (Made m ∷ es) lawful pin why =
    let l = later_end a m es lawful in
    let p : NodeState = replay (Made m ∷ es) in
    let low : p.floor ≤ r = (pinned p k r (sound_end (Made m ∷ es) lawful) pin).1 in
    let above : r < now = why.2 in
    let top : newest (versions_there (p.cells a)) ≡ now = ap (λ (c : Option Cell). newest (versions_there c)) why.1 ∙ why.3 in
    ⊎_elim (λ (old : newest (versions_there (p.cells a)) ≤ p.floor). absurd (omega arith))
    (λ (put : PutAt (newest (versions_there (p.cells a))) (story_from a untold es).puts). (put.0, subst (IsAmong put.0) (sym (loaded m es a lawful)) (among_first put.0 _ _ put.1), put.2 ∙ top, above, (l.puts put.0 put.1).0)) l.newest
newest_put a k r now (e ∷ es) lawful pin why = absurd lawful

change : (before rest : List Entry) (e : Entry) (r now : ℕ) (a : Addr) → Lawful (before ++ e ∷ rest) → BlamesPut r now a e → PutBecause r now (story a before).puts
change before rest (Made m) r now a lawful blames = absurd blames
change before rest e r now a lawful blames =
    let x : Stands a before (e ∷ rest) = stands a before e rest tt lawful in
    let by = changed_by (replay before) e r now a blames x.lawful.0 in
    newest_put a by.0 r now before x.begins by.1 by.2

-- what was seen at the read stamp is below what is newest

found_low : (s : ℕ) (vs : List Version) → (found_at s vs).stamp ≤ s
found_low s [] = omega arith
found_low s (v ∷ vs) = cond_both (nat_le v.0 s) (Some v) (version_at s vs) (λ o. (found_of o).stamp ≤ s) (λ is. leb-true v.0 s is) (λ e. found_low s vs)

module _ (seen now : ℕ) where
  lock_apart : (t : TxnId) (r : ℕ) (found : Option Cell) → Err (Changed seen now) ≡ lock_answer t r found → seen < now
  lock_apart t r None due = absurd cc
  lock_apart t r (Some c) due = lock_cases t r c (λ z. Err (Changed seen now) ≡ z → seen < now) (λ k is e. absurd (cc))
      (λ above e. let s : (found_at r c.versions).stamp ≡ seen = cc in let n : newest c.versions ≡ now = cc in omega (arith, found_low r c.versions))
      (λ is low e. absurd (cc)) (λ k is own e. absurd (cc)) due

  check_apart : (r : ℕ) (found : Option Cell) → Err (Changed seen now) ≡ check_answer r found → seen < now
  check_apart r None due = absurd cc
  check_apart r (Some c) due = check_cases r c (λ z. Err (Changed seen now) ≡ z → seen < now) (λ k is e. absurd (cc))
      (λ above e. let s : (found_at r c.versions).stamp ≡ seen = cc in let n : newest c.versions ≡ now = cc in omega (arith, found_low r c.versions))
      (λ is low e. absurd (cc)) due

told_apart : (p : NodeState) (e : Entry) (seen now : ℕ) → TellsChanged seen now e → Fits p e → seen < now
told_apart p (Lock u b q new (Err (Changed s n))) seen now told fits =
    lock_apart seen now u q (p.cells b) ((λ i. Err (Changed (sym told.0 i) (sym told.1 i))) ∙ fits.due)
told_apart p (Check u b q w (Err (Changed s n))) seen now told fits =
    check_apart seen now q (p.cells b) ((λ i. Err (Changed (sym told.0 i) (sym told.1 i))) ∙ fits.due)
told_apart p e seen now told fits = absurd told

apart : (before rest : List Entry) (e : Entry) (seen now : ℕ) → Lawful (before ++ e ∷ rest) → TellsChanged seen now e → seen < now
apart before rest (Made m) seen now lawful told = absurd told
apart before rest e seen now lawful told =
    let x : Stands (record { region = 0; offset = 0 }) before (e ∷ rest) = stands (record { region = 0; offset = 0 }) before e rest tt lawful in
    told_apart (replay before) e seen now told x.lawful.0

pub locks : LocksHold
locks = record { below = below; stays = stays; pin = pin; holder = holder; change = change; apart = apart }

pub ranges : RangesHold
ranges = record {
  bound = λ log a c lawful is.
      let sits : Sits (replay log).regions a c = subst (λ (z : Option Cell). Here (Sits (replay log).regions a) z) is ((sound_end log lawful).sits a) in
      (sits.bound, sits.versions);
  past = λ log lawful. ((sound_end log lawful).past, (sound_end log lawful).floor);
  pin = λ log k x lawful is. (subst (PinOk (replay log).actors (replay log).floor k) is ((sound_end log lawful).pins k)).3;
  answered = answered;
}
