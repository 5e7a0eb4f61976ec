-- What is read stays so, and pins keep what they show.
use Rattle.farm_node.proofs.Common.{◌≡◌, ℕ, ◌≤◌, List, ◌∷◌, ◌++◌, Option, Some, None, Ok, sym, refl, ap, ◌∙◌, subst, arith, cond_both, Addr, TxnId, same_addr}
use Rattle.farm_node.proofs.Common.{Version, version_at, Found, Placed, Entry, Read, Alloc, Bytes, Cell, found_of, found_at, read_answer, raised_to}
use Rattle.farm_node.proofs.Common.{past_raised, made_by, NodeState, set_cell, looked_at, after, LawfulFrom, replay, Lawful, gives, Installed, Story}
use Rattle.farm_node.proofs.Common.{with_given, story_after, story_from, story, versions_of, stamped_bytes, value_at, versions_there, ReadsHold, PinsHold}
use Rattle.farm_node.proofs.Sound.{Sound, sound, sound_end, pinned}
use Rattle.farm_node.proofs.Steps.{Keeps, keeps_all, no_cell}
use Rattle.farm_node.proofs.Chains.{passed_at}
use Rattle.farm_node.proofs.Stories.{each_unit, Ends, ends, Stands, stands}
use Rattle.farm_node.proofs.Replies.{read_cases}
-- `set_self` is passed on: what was put at an address is there
pub use Rattle.farm_node.proofs.Addresses.{set_self}

-- a stamp that is barred sees no later put

abbrev pub Barred : ℕ → Option Cell → ℕ → Type 0
Barred s None past = s ≤ past
Barred s (Some c) past = s ≤ c.bound

pub record Fixed (s : ℕ) (target : Option Version) (c : Option Cell) (past floor : ℕ) (h : Story) : Type 0 where
  pub barred : Barred s c past
  pub still : version_at s (versions_of h.puts) ≡ target

pub barred_more : (s : ℕ) (c : Option Cell) (past past' : ℕ) → past ≤ past' → Barred s c past → Barred s c past'
barred_more s None past past' le t = omega arith
barred_more s (Some c) past past' le t = t

pub barred_less : (s w : ℕ) (c : Option Cell) (past : ℕ) → s ≤ w → Barred w c past → Barred s c past
barred_less s w None past le t = omega arith
barred_less s w (Some c) past le t = omega arith

pub fixed : (a : Addr) (s : ℕ) (target : Option Version) → Keeps a (λ e. Unit {0}) (Fixed s target)
fixed a s target = record {
  aside = λ c past past' floor h le t. record { barred = barred_more s c past past' le t.barred; still = t.still };
  looked = λ c x past floor h free t. record { barred = let b : s ≤ c.bound = t.barred in omega arith; still = t.still };
  made = λ u r v placed past floor h making t. record { barred = let b : s ≤ past = t.barred in omega arith; still = t.still };
  locked = λ u b r new given c past floor h locking t. record { barred = t.barred; still = t.still };
  put = λ u b w c past floor h ending above t. let low : s ≤ c.bound = t.barred in record { barred = omega arith; still = passed_at s _ (versions_of h.puts) (omega arith) ∙ t.still };
  unlocked = λ u b c past floor h ending t. record { barred = t.barred; still = t.still };
  back = λ u b c past floor h ending none t. record { barred = let l : s ≤ c.bound = t.barred in omega arith; still = t.still };
  cut = λ c past past' floor floor' h le more t. record { barred = t.barred; still = t.still };
  went = λ c past past' floor floor' h le more gone high t. record { barred = let l : s ≤ c.bound = t.barred in omega arith; still = t.still };
  none = λ past past' floor floor' h le more t. record { barred = let l : s ≤ past = t.barred in omega arith; still = t.still };
}

-- from where a stamp is barred on, it sees the same
pub fixed_all : (a : Addr) (s : ℕ) (p : NodeState) (h : Story) (es : List Entry) → Sound p → LawfulFrom p es → Barred s (p.cells a) p.past
    → version_at s (versions_of (story_from a h es).puts) ≡ version_at s (versions_of h.puts)
fixed_all a s p h es sound lawful bar =
    (keeps_all a (λ e. Unit {0}) (Fixed s (version_at s (versions_of h.puts))) (fixed a s (version_at s (versions_of h.puts))) p h es sound lawful (each_unit es) record { barred = bar; still = refl }).still

raised_bars : (s : ℕ) (c : Option Cell) (past : ℕ) → Barred s (raised_to s c) (past_raised s c past)
raised_bars s None past = omega arith
raised_bars s (Some c) past = omega arith

pub look_bars : (a : Addr) (s : ℕ) (p : NodeState) → Barred s ((looked_at a s p).cells a) (looked_at a s p).past
look_bars a s p = subst (λ (c : Option Cell). Barred s c (past_raised s (p.cells a) p.past)) (sym (set_self a (raised_to s (p.cells a)) p.cells)) (raised_bars s (p.cells a) p.past)

-- from an entry on that bars a stamp
pub fixed_behind : (a : Addr) (s : ℕ) (before rest : List Entry) (e : Entry) → Stands a before (e ∷ rest) → Barred s ((after (replay before) e).cells a) (after (replay before) e).past
    → version_at s (versions_of (story a (before ++ e ∷ rest)).puts) ≡ version_at s (versions_of (story_after a (story a before) e).puts)
fixed_behind a s before rest e t bar = ap (λ (z : Story). version_at s (versions_of z.puts)) t.story
    ∙ fixed_all a s (after (replay before) e) (story_after a (story a before) e) rest (sound (replay before) e t.lawful.0 t.sound) t.lawful.1 bar

-- the laws

read_is : (s : ℕ) (c : Option Cell) (found : Found) → Ok found ≡ read_answer s c → found ≡ found_at s (versions_there c)
read_is s None found due = cc
read_is s (Some c) found due = read_cases s c (λ z. Ok found ≡ z → found ≡ found_at s c.versions) (λ free e. cc) (λ k is e. cc) due

read_holds : (before rest : List Entry) (k : ℕ) (a : Addr) (s : ℕ) (found : Found)
    → Lawful (before ++ Read k a s (Ok found) ∷ rest) → value_at (before ++ Read k a s (Ok found) ∷ rest) a s ≡ stamped_bytes found
read_holds before rest k a s found lawful =
    let t : Stands a before (Read k a s (Ok found) ∷ rest) = stands a before (Read k a s (Ok found)) rest tt lawful in
    let p : NodeState = replay before in
    ap (λ (v : Option Version). stamped_bytes (found_of v)) (fixed_behind a s before rest (Read k a s (Ok found)) t (look_bars a s p))
    ∙ sym (ap stamped_bytes (read_is s (p.cells a) found t.lawful.0.2) ∙ t.tells.shows.same s (pinned p k s t.sound t.lawful.0.0).1)

made_holds : (before rest : List Entry) (u : TxnId) (r : ℕ) (v : Bytes) (placed : Placed)
    → Lawful (before ++ Alloc u r v placed ∷ rest) → value_at (before ++ Alloc u r v placed ∷ rest) placed.at r ≡ None
made_holds before rest u r v placed lawful =
    let a : Addr = placed.at in
    let e : Entry = Alloc u r v placed in
    let t : Stands a before (e ∷ rest) = stands a before e rest tt lawful in
    let p : NodeState = replay before in
    let h : Story = story a before in
    let new : Option Cell = Some (made_by u v placed.bound) in
    let fits = t.lawful.0 in
    let low : r ≤ placed.bound = omega arith in
    let bars : Barred r (set_cell a new p.cells a) p.past = subst (λ (c : Option Cell). Barred r c p.past) (sym (set_self a new p.cells)) low in
    let told : None ≡ stamped_bytes (found_at r (versions_of h.puts)) =
    ap (λ (c : Option Cell). stamped_bytes (found_at r (versions_there c))) (sym (no_cell (p.cells a) fits.2.free)) ∙ t.tells.shows.same r (pinned p u.actor r t.sound fits.0).1 in
    let puts : (story_after a h e).puts ≡ h.puts = cond_both (same_addr a a) (with_given u (gives r (Some v)) h) h (λ z. z.puts ≡ h.puts) (λ is. refl) (λ is. refl) in
    ap (λ (v : Option Version). stamped_bytes (found_of v)) (fixed_behind a r before rest e t bars ∙ ap (λ (puts : List Installed). version_at r (versions_of puts)) puts) ∙ sym told

-- the law of reads
pub reads : ReadsHold
reads = record { read = read_holds; made = made_holds }

pin_above : (p : NodeState) (k x : ℕ) → Sound p → p.pins k ≡ Some x → p.floor ≤ x
pin_above p k x s is = (pinned p k x s (x, is, omega arith)).1

-- the law of pins
pub pins : PinsHold
pins = record {
  floor_below = λ log k x lawful is. pin_above (replay log) k x (sound_end log lawful) is;
  shown = λ log a s lawful le. (ends a log lawful).tells.shows.same s le;
  kept = λ log k x a s lawful is le.
      let t : Ends a log = ends a log lawful in
      let low : (replay log).floor ≤ x = pin_above (replay log) k x t.sound is in
      t.tells.shows.same s (omega arith);
}
