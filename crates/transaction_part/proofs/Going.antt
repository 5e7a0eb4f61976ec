-- How a node's list goes on, by entries of others and by an own one, and what that leaves of what a transaction knows.
use Rattle.std.proofs.Common.{◌≡◌, ◌≢◌, ◌⊎◌, ℕ, ◌<◌, cond, Bool, true, false, List, [], ◌∷◌, ◌++◌, Option, Ok, Err, sym, refl, ap, ◌∙◌, subst, ⊎_elim, arith}
use Rattle.std.specs.List.{AllByRecursion}
use Rattle.a1_base.specs.declared.place.Addr.{Addr}
use Rattle.a1_base.specs.declared.place.TxnId.{TxnId}
use Rattle.object_region.specs.Occupancy.{same_addr}
use Rattle.farm_node.specs.declared.entry.Entry.{Entry}
use Rattle.farm_node.specs.declared.entry.Entry.TheVariants.{Made, Open, Shut, Read, Alloc, Lock, Check, Put, Unlock, Collect}
use Rattle.farm_node.specs.Cell.{Cell}
use Rattle.farm_node.specs.NodeState.{NodeState, Fits, set_cell, after, begun, replay_from, LawfulFrom, Lawful, replay, PinnedBy, HeldBy, HeldNew}
use Rattle.farm_node.specs.Locks.{IsOther, Takes}
use Rattle.farm_node.specs.Owned.{Frees}
use Rattle.farm_node.proofs.Addresses.{addr_eq}
use Rattle.farm_node.proofs.Blames.{locks}
use Rattle.farm_node.proofs.Owning.{owned, replay_behind}
use Rattle.node_turns.specs.Turned.{GoesOn}
use Rattle.transaction_part.specs.Running.{Runs, HoldsBelow}

-- through entries of others
module _ (k : ℕ) (before later : List Entry) (begins : Lawful before) (ends : Lawful later) (g : GoesOn k before later) where
  lawful_is : Lawful (before ++ g.between)
  lawful_is = subst Lawful g.is ends

  -- a fact of the list with what came in between, as one of the later list
  on : (P : NodeState → Type 0) → P (replay (before ++ g.between)) → P (replay later)
  on P p = subst (λ (es : List Entry). P (replay es)) (sym g.is) p

  others_of : (t : TxnId) → t.actor ≡ k → AllByRecursion (IsOther t.actor) g.between
  others_of t own = subst (λ (j : ℕ). AllByRecursion (IsOther j) g.between) (sym own) g.others

  pub pin_on : (replay later).pins k ≡ (replay before).pins k
  pin_on = on (λ p. p.pins k ≡ (replay before).pins k) (locks.pin before g.between k lawful_is g.others)

  pub pinned_on : (s : ℕ) → PinnedBy (replay before) k s → PinnedBy (replay later) k s
  pinned_on s pin = (pin.0, pin_on ∙ pin.1, pin.2)

  -- what is held was held before
  pub held_before : (u : TxnId) (a : Addr) → u.actor ≡ k → HeldBy (replay later) u a → HeldBy (replay before) u a
  held_before u a own held =
      owned.held_before before g.between u a begins (others_of u own) (subst (λ (es : List Entry). HeldBy (replay es) u a) g.is held)

  pub new_on : (t : TxnId) (a : Addr) → t.actor ≡ k → HeldNew (replay before) t a → HeldNew (replay later) t a
  new_on t a own new = on (λ p. HeldNew p t a) (owned.new_stays before g.between t a lawful_is (others_of t own) new)

  pub holds_on : (t : TxnId) (a : Addr) (w : ℕ) → t.actor ≡ k → HoldsBelow t a w (replay before) → HoldsBelow t a w (replay later)
  holds_on t a w own h =
      let s = locks.stays before g.between a h.0 h.1 lawful_is h.2 h.3 (others_of h.1.by (ap (λ (u : TxnId). u.actor) h.4 ∙ own)) in
      let bound : s.0.bound ≡ h.0.bound = s.3 in
      let low : h.0.bound < w = h.5 in
      on (λ p. HoldsBelow t a w p) (s.0, h.1, s.1, s.2, h.4, (let r : s.0.bound < w = omega arith in r))

pub runs_on : (t : TxnId) (r : ℕ) (P : Addr → Type 0) (before later : List Entry) → Lawful before → Lawful later
    → GoesOn t.actor before later → Runs t r P before → Runs t r P later
runs_on t r P before later begins ends g runs = record {
  pinned = pinned_on t.actor before later begins ends g r runs.pinned;
  only = λ u a own held. runs.only u a own (held_before t.actor before later begins ends g u a own held);
}

-- by one own entry

from_last : (p : NodeState) (es : List Entry) (e : Entry) → LawfulFrom p (es ++ e ∷ []) → Fits (replay_from p es) e
from_last p [] e l = l.0
from_last p (d ∷ ds) e l = from_last (after p d) ds e l.1

lawful_last : (es : List Entry) (e : Entry) → Lawful es → Lawful (es ++ e ∷ []) → Fits (replay es) e
lawful_last [] e b l = absurd b
lawful_last (Made m ∷ es) e b l = from_last (begun m) es e l.1
lawful_last (d ∷ es) e b l = absurd b

abbrev pub KeepsPins : Entry → Type 0
KeepsPins (Open k c x) = ⊥
KeepsPins (Shut k) = ⊥
KeepsPins e = Unit {0}

pins_kept : (p : NodeState) (e : Entry) (k : ℕ) → KeepsPins e → (after p e).pins k ≡ p.pins k
pins_kept p (Made m) k keeps = refl
pins_kept p (Open j c x) k keeps = absurd keeps
pins_kept p (Shut j) k keeps = absurd keeps
pins_kept p (Read j b s (Ok found)) k keeps = refl
pins_kept p (Read j b s (Err by)) k keeps = refl
pins_kept p (Alloc u r v placed) k keeps = refl
pins_kept p (Lock u b r value (Ok given)) k keeps = refl
pins_kept p (Lock u b r value (Err fault)) k keeps = refl
pins_kept p (Check u b r w (Ok same)) k keeps = refl
pins_kept p (Check u b r w (Err fault)) k keeps = refl
pins_kept p (Put u b w) k keeps = refl
pins_kept p (Unlock u b) k keeps = refl
pins_kept p (Collect j f removed) k keeps = refl

-- the entry changes nothing at the address
abbrev pub Aside : Addr → Entry → Type 0
Aside a (Made m) = Unit {0}
Aside a (Open k c x) = Unit {0}
Aside a (Shut k) = Unit {0}
Aside a (Read k b s (Ok found)) = b ≢ a
Aside a (Read k b s (Err by)) = Unit {0}
Aside a (Alloc u r v placed) = placed.at ≢ a
Aside a (Lock u b r new (Ok given)) = b ≢ a
Aside a (Lock u b r new (Err fault)) = Unit {0}
Aside a (Check u b r w (Ok same)) = b ≢ a
Aside a (Check u b r w (Err fault)) = Unit {0}
Aside a (Put u b w) = b ≢ a
Aside a (Unlock u b) = b ≢ a
Aside a (Collect k f removed) = ⊥

set_aside : (b a : Addr) (c : Option Cell) (cells : Addr → Option Cell) → b ≢ a → set_cell b c cells a ≡ cells a
set_aside b a c cells other = by (same_addr b a) refl where
  by : (g : Bool) → same_addr b a ≡ g → cond g c (cells a) ≡ cells a
  by true is = absurd (other (addr_eq b a is))
  by false is = refl

aside_after : (p : NodeState) (e : Entry) (a : Addr) → Aside a e → (after p e).cells a ≡ p.cells a
aside_after p (Made m) a aside = refl
aside_after p (Open j c x) a aside = refl
aside_after p (Shut j) a aside = refl
aside_after p (Read j b s (Ok found)) a aside = set_aside b a _ p.cells aside
aside_after p (Read j b s (Err by)) a aside = refl
aside_after p (Alloc u r v placed) a aside = set_aside placed.at a _ p.cells aside
aside_after p (Lock u b r value (Ok given)) a aside = set_aside b a _ p.cells aside
aside_after p (Lock u b r value (Err fault)) a aside = refl
aside_after p (Check u b r w (Ok same)) a aside = set_aside b a _ p.cells aside
aside_after p (Check u b r w (Err fault)) a aside = refl
aside_after p (Put u b w) a aside = set_aside b a _ p.cells aside
aside_after p (Unlock u b) a aside = set_aside b a _ p.cells aside
aside_after p (Collect j f removed) a aside = absurd aside

module _ (before : List Entry) (e : Entry) (later : List Entry) (begins : Lawful before) (ends : Lawful later) (is : later ≡ before ++ e ∷ []) where
  -- the entry meets its condition
  pub fits_there : Fits (replay before) e
  fits_there = lawful_last before e begins (subst Lawful is ends)

  pub state_there : replay later ≡ after (replay before) e
  state_there = ap replay is ∙ replay_behind before (e ∷ []) begins

  pub pin_there : (k : ℕ) → KeepsPins e → (replay later).pins k ≡ (replay before).pins k
  pin_there k keeps = ap (λ (p : NodeState). p.pins k) state_there ∙ pins_kept (replay before) e k keeps

  -- what is held was held before, or is taken now
  pub held_or : (u : TxnId) (a : Addr) → HeldBy (replay later) u a → HeldBy (replay before) u a ⊎ Takes u a e
  held_or u a held = owned.held_last before e u a begins (subst (λ (es : List Entry). HeldBy (replay es) u a) is held)

  -- and what the entry frees is not held
  pub not_freed : (u : TxnId) (a : Addr) → Frees u a e → HeldBy (replay later) u a → ⊥
  not_freed u a frees held = owned.freed_last before e u a begins frees (subst (λ (es : List Entry). HeldBy (replay es) u a) is held)

  pub cell_there : (a : Addr) → Aside a e → (replay later).cells a ≡ (replay before).cells a
  cell_there a aside = ap (λ (p : NodeState). p.cells a) state_there ∙ aside_after (replay before) e a aside

  pub new_there : (t : TxnId) (a : Addr) → Aside a e → HeldNew (replay before) t a → HeldNew (replay later) t a
  new_there t a aside new = (new.0, new.1, cell_there a aside ∙ new.2, new.3, new.4, new.5)

  pub holds_there : (t : TxnId) (a : Addr) (w : ℕ) → Aside a e → HoldsBelow t a w (replay before) → HoldsBelow t a w (replay later)
  holds_there t a w aside h = (h.0, h.1, cell_there a aside ∙ h.2, h.3, h.4, h.5)

  -- its locks: those before that it does not free, and those that it takes
  pub runs_there : (t : TxnId) (r : ℕ) (P Q : Addr → Type 0) → KeepsPins e
      → ((u : TxnId) (a : Addr) → u.actor ≡ t.actor → Takes u a e → (u ≡ t) × Q a)
      → ((a : Addr) → P a → (Frees t a e → ⊥) → Q a)
      → Runs t r P before → Runs t r Q later
  runs_there t r P Q keeps takes stay runs = record {
    pinned = (runs.pinned.0, pin_there t.actor keeps ∙ runs.pinned.1, runs.pinned.2);
    only = λ u a own held. ⊎_elim
        (λ (h : HeldBy (replay before) u a). let o = runs.only u a own h in
        (o.0, stay a o.1 (λ frees. not_freed t a frees (subst (λ (v : TxnId). HeldBy (replay later) v a) o.0 held))))
        (λ (x : Takes u a e). takes u a own x)
        (held_or u a held);
  }
