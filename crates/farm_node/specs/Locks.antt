-- What every lawful list of a node keeps of locks and pins, where they come from, and the range of its stamps.
use Rattle.std.specs.Prelude.{◌≡◌, ◌≢◌, ℕ, ◌<◌, ◌≤◌, List, [], ◌∷◌, ◌++◌, Ok, Err, Some}
use Rattle.a1_base.specs.declared.place.Addr.{Addr}
use Rattle.a1_base.specs.declared.place.TxnId.{TxnId}
use Rattle.version_chain.specs.Versions.{Version, newest}
use Rattle.farm_node.specs.declared.hold.Hold.{Hold}
use Rattle.farm_node.specs.declared.entry.CheckFault.TheVariants.{Held, Changed}
use Rattle.farm_node.specs.declared.entry.Entry.{Entry}
use Rattle.farm_node.specs.declared.entry.Entry.TheVariants.{Open, Read, Alloc, Lock, Check, Collect}
use Rattle.farm_node.specs.Cell.{Cell}
use Rattle.farm_node.specs.NodeState.{Lawful, replay}
use Rattle.a1_base.specs.Stamps.{IsStamp}
use Rattle.farm_node.specs.Story.{Installed, story, number_of}
use Rattle.a1_base.specs.Lists.{IsAmong}
use Rattle.std.specs.List.{AllByRecursion}

-- the entry is another's
abbrev pub IsOther : ℕ → Entry → Type 0
IsOther k e = number_of e ≢ k

-- the entry gave the transaction the lock of the address
abbrev pub Takes : TxnId → Addr → Entry → Type 0
Takes t a (Alloc u r v placed) = (u ≡ t) × (placed.at ≡ a)
Takes t a (Lock u b r new (Ok locked)) = (u ≡ t) × (b ≡ a)
Takes t a e = ⊥

-- what an answer gives as its cause: who holds the address, or the newest stamp
abbrev pub BlamesHolder : TxnId → Addr → Entry → Type 0
BlamesHolder t a (Read k b s (Err by)) = (b ≡ a) × (by ≡ t)
BlamesHolder t a (Lock u b r new (Err (Held by))) = (b ≡ a) × (by ≡ t)
BlamesHolder t a (Check u b r w (Err (Held by))) = (b ≡ a) × (by ≡ t)
BlamesHolder t a e = ⊥

abbrev pub BlamesPut : ℕ → ℕ → Addr → Entry → Type 0
BlamesPut r now a (Lock u b q new (Err (Changed s n))) = (b ≡ a) × (q ≡ r) × (n ≡ now)
BlamesPut r now a (Check u b q w (Err (Changed s n))) = (b ≡ a) × (q ≡ r) × (n ≡ now)
BlamesPut r now a e = ⊥

-- the answer is that the address has changed: its version at the read stamp, and its newest one
abbrev pub TellsChanged : ℕ → ℕ → Entry → Type 0
TellsChanged seen now (Lock t a r new (Err (Changed s n))) = (s ≡ seen) × (n ≡ now)
TellsChanged seen now (Check t a r w (Err (Changed s n))) = (s ≡ seen) × (n ≡ now)
TellsChanged seen now e = ⊥

pub record LocksHold : Type 0 where
  -- the newest version is at most the bound
  pub below : (log : List Entry) (a : Addr) (c : Cell) → Lawful log → (replay log).cells a ≡ Some c
      → newest c.versions ≤ c.bound
  -- through entries of others a held address keeps its lock with the value that waits, its bound and its newest version
  pub stays : (before rest : List Entry) (a : Addr) (c : Cell) (h : Hold) → Lawful (before ++ rest)
      → (replay before).cells a ≡ Some c → c.lock ≡ Some h → AllByRecursion (IsOther h.by.actor) rest
      → (d : Cell) × ((replay (before ++ rest)).cells a ≡ Some d) × (d.lock ≡ Some h) × (d.bound ≡ c.bound)
      × (newest d.versions ≡ newest c.versions)
  -- through entries of others a pin stays
  pub pin : (before rest : List Entry) (k : ℕ) → Lawful (before ++ rest) → AllByRecursion (IsOther k) rest
      → (replay (before ++ rest)).pins k ≡ (replay before).pins k
  -- who is blamed as the holder took the lock by an entry of its own
  pub holder : (before rest : List Entry) (e : Entry) (t : TxnId) (a : Addr) → Lawful (before ++ e ∷ rest)
      → BlamesHolder t a e → (d : Entry) × IsAmong d before × Takes t a d
  -- the stamp that is blamed is that of an actor's put, above the read stamp
  pub change : (before rest : List Entry) (e : Entry) (r now : ℕ) (a : Addr) → Lawful (before ++ e ∷ rest)
      → BlamesPut r now a e
      → (i : Installed) × IsAmong i (story a before).puts × (i.stamp ≡ now) × (r < now) × (0 < i.by.actor)
  -- and above the stamp that was seen
  pub apart : (before rest : List Entry) (e : Entry) (seen now : ℕ) → Lawful (before ++ e ∷ rest)
      → TellsChanged seen now e → seen < now

abbrev pub StampsBelow : List Version → Type 0
StampsBelow [] = Unit {0}
StampsBelow (v ∷ vs) = IsStamp v.0 × StampsBelow vs

-- every stamp and bound that the entry answers is below 2^62
abbrev pub AnswersStamps : Entry → Type 0
AnswersStamps (Open k c pin) = IsStamp pin
AnswersStamps (Read k a s (Ok found)) = IsStamp found.stamp
AnswersStamps (Alloc t r v placed) = IsStamp placed.bound
AnswersStamps (Lock t a r new (Ok locked)) = IsStamp locked.seen × IsStamp locked.bound
AnswersStamps (Lock t a r new (Err (Changed seen now))) = IsStamp seen × IsStamp now
AnswersStamps (Check t a r w (Err (Changed seen now))) = IsStamp seen × IsStamp now
AnswersStamps (Collect k f removed) = IsStamp removed.floor
AnswersStamps e = Unit {0}

-- every stamp of a state, and every one that a lawful entry answers, is below 2^62
pub record RangesHold : Type 0 where
  pub bound : (log : List Entry) (a : Addr) (c : Cell) → Lawful log → (replay log).cells a ≡ Some c
      → IsStamp c.bound × StampsBelow c.versions
  pub past : (log : List Entry) → Lawful log → IsStamp (replay log).past × IsStamp (replay log).floor
  pub pin : (log : List Entry) (k x : ℕ) → Lawful log → (replay log).pins k ≡ Some x → IsStamp x
  pub answered : (before rest : List Entry) (e : Entry) → Lawful (before ++ e ∷ rest) → AnswersStamps e
