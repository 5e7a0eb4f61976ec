-- What holds of locks and pins through entries of others.
use Rattle.farm_node.proofs.Common.{◌≡◌, ◌⊎◌, ℕ, ◌<◌, ◌≤◌, ◌==◌, max, List, [], ◌∷◌, ◌++◌, Option, Some, None, Ok, sym, refl, ap, ◌∙◌, subst, ⊎_elim, arith}
use Rattle.farm_node.proofs.Common.{cond-false, and_parts, ne_eqb, both_ways, AllByRecursion, Addr, TxnId, newest, Hold, Entry, Made, Open, Shut, Read}
use Rattle.farm_node.proofs.Common.{Lock, Check, Cell, is_open, is_gone, NodeState, after, begun, replay_from, replay, Lawful, Story, story_from, story}
use Rattle.farm_node.proofs.Common.{IsOther}
use Rattle.farm_node.proofs.Steps.{Keeps, keeps_all}
use Rattle.farm_node.proofs.Chains.{newest_cut}
use Rattle.farm_node.proofs.Stories.{Below, ends, replay_append, Stands, stands_behind}

pub below : (log : List Entry) (a : Addr) (c : Cell) → Lawful log → (replay log).cells a ≡ Some c → newest c.versions ≤ c.bound
below log a c lawful is = subst Below is (ends a log lawful).tells.below

-- a held address through entries of others

abbrev HeldAt : Hold → ℕ → ℕ → Option Cell → Type 0
HeldAt h bound top None = ⊥
HeldAt h bound top (Some d) = (d.lock ≡ Some h) × (d.bound ≡ bound) × (newest d.versions ≡ top)

record StaysHeld (h : Hold) (bound top : ℕ) (c : Option Cell) (past floor : ℕ) (story : Story) : Type 0 where
  held : HeldAt h bound top c

-- who ends or renews a lock is who has it
same_actor : (c : Cell) (h k : Hold) (t : TxnId) → c.lock ≡ Some h → c.lock ≡ Some k → k.by ≡ t → t.actor ≡ h.by.actor
same_actor c h k t is is' own = cc

bound_kept : (h : Hold) (bound top s : ℕ) (c : Cell) → top ≤ bound → HeldAt h bound top (Some c) → (c.lock ≡ None) ⊎ (s < newest c.versions) → max c.bound s ≡ bound
bound_kept h bound top s c le t free = ⊎_elim (λ (none : c.lock ≡ None). let held : c.lock ≡ Some h = t.0 in cc)
    (λ (low : s < newest c.versions). let b : c.bound ≡ bound = t.1 in let n : newest c.versions ≡ top = t.2 in (let r : max c.bound s ≡ bound = omega arith in r)) free

stays_held : (a : Addr) (h : Hold) (bound top : ℕ) → top ≤ bound → Keeps a (IsOther h.by.actor) (StaysHeld h bound top)
stays_held a h bound top le = record {
  aside = λ c past past' floor story more t. record { held = t.held };
  looked = λ c s past floor story free t. record { held = (t.held.0, bound_kept h bound top s c le t.held free, t.held.2) };
  made = λ u r v placed past floor story making t. absurd t.held;
  locked = λ u b r new given c past floor story locking t. absurd (⊎_elim
      (λ (free : c.lock ≡ None). let held : c.lock ≡ Some h = t.held.0 in cc)
      (λ own. locking.fits (same_actor c h own.0 u t.held.0 own.1 own.2)) locking.free);
  put = λ u b w c past floor story ending above t. absurd (ending.fits (same_actor c h ending.hold u t.held.0 ending.lock ending.own));
  unlocked = λ u b c past floor story ending t. absurd (ending.fits (same_actor c h ending.hold u t.held.0 ending.lock ending.own));
  back = λ u b c past floor story ending none t. absurd (ending.fits (same_actor c h ending.hold u t.held.0 ending.lock ending.own));
  cut = λ c past past' floor floor' story past_more more t. record { held = (t.held.0, t.held.1, newest_cut floor' c.versions ∙ t.held.2) };
  went = λ c past past' floor floor' story past_more more gone high t. absurd (both_ways (is_open c.lock) (ap is_open t.held.0) (and_parts (is_open c.lock) (is_gone floor' c.versions) gone).0);
  none = λ past past' floor floor' story past_more more t. absurd t.held;
}

held_cell : (h : Hold) (bound top : ℕ) (c : Option Cell) → HeldAt h bound top c → (d : Cell) × (c ≡ Some d) × (d.lock ≡ Some h) × (d.bound ≡ bound) × (newest d.versions ≡ top)
held_cell h bound top None t = absurd t
held_cell h bound top (Some d) t = (d, refl, t.0, t.1, t.2)

pub stays : (before rest : List Entry) (a : Addr) (c : Cell) (h : Hold) → Lawful (before ++ rest) → (replay before).cells a ≡ Some c → c.lock ≡ Some h → AllByRecursion (IsOther h.by.actor) rest
    → (d : Cell) × ((replay (before ++ rest)).cells a ≡ Some d) × (d.lock ≡ Some h) × (d.bound ≡ c.bound) × (newest d.versions ≡ newest c.versions)
stays [] rest a c h lawful is lock others = cc
stays (Made m ∷ es) rest a c h lawful is lock others =
    let x : Stands a (Made m ∷ es) rest = stands_behind a m es rest lawful in
    let p : NodeState = replay (Made m ∷ es) in
    let low : newest c.versions ≤ c.bound = below (Made m ∷ es) a c x.begins is in
    let start : HeldAt h c.bound (newest c.versions) (p.cells a) = subst (λ (z : Option Cell). HeldAt h c.bound (newest c.versions) z) (sym is) (lock, refl, refl) in
    let end : StaysHeld h c.bound (newest c.versions) ((replay_from p rest).cells a) (replay_from p rest).past (replay_from p rest).floor (story_from a (story a (Made m ∷ es)) rest) =
    keeps_all a (IsOther h.by.actor) (StaysHeld h c.bound (newest c.versions)) (stays_held a h c.bound (newest c.versions) low) p (story a (Made m ∷ es)) rest x.sound x.lawful others record { held = start } in
    held_cell h c.bound (newest c.versions) ((replay (Made m ∷ (es ++ rest))).cells a)
    (subst (λ (z : NodeState). HeldAt h c.bound (newest c.versions) (z.cells a)) (sym (replay_append (begun m) es rest)) end.held)
stays (e ∷ es) rest a c h lawful is lock others = absurd lawful

-- a pin through entries of others

pin_after : (p : NodeState) (k : ℕ) (e : Entry) → IsOther k e → (after p e).pins k ≡ p.pins k
pin_after p k (Open j c x) other = cond-false (j == k) (Some x) (p.pins k) (ne_eqb j k other)
pin_after p k (Shut j) other = cond-false (j == k) None (p.pins k) (ne_eqb j k other)
pin_after p k (Read j b s (Ok found)) other = refl
pin_after p k (Lock u b r new (Ok given)) other = refl
pin_after p k (Check u b r w (Ok same)) other = refl
pin_after p k e other = refl

pin_from : (p : NodeState) (k : ℕ) (es : List Entry) → AllByRecursion (IsOther k) es → (replay_from p es).pins k ≡ p.pins k
pin_from p k [] others = refl
pin_from p k (e ∷ es) others = pin_from (after p e) k es others.1 ∙ pin_after p k e others.0

pub pin : (before rest : List Entry) (k : ℕ) → Lawful (before ++ rest) → AllByRecursion (IsOther k) rest → (replay (before ++ rest)).pins k ≡ (replay before).pins k
pin [] [] k lawful others = refl
pin [] (Made m ∷ es) k lawful others = pin_from (begun m) k es others.1
pin [] (e ∷ es) k lawful others = absurd lawful
pin (Made m ∷ es) rest k lawful others =
    ap (λ (z : NodeState). z.pins k) (replay_append (begun m) es rest) ∙ pin_from (replay (Made m ∷ es)) k rest others
pin (e ∷ es) rest k lawful others = absurd lawful
