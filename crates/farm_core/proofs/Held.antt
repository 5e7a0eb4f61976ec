-- What one transaction's phase says of one address: of its lock there, and of its puts.
use Rattle.std.proofs.Common.{◌≡◌, ◌≢◌, ◌⊎◌, ℕ, ◌<◌, ◌≤◌, max, cond, Bool, true, false, List, Option, Some, None, Ok, sym, refl, ap, ◌∙◌, subst, inl, inr, ⊎_elim, arith}
use Rattle.std.proofs.lemmas.Bool.{both_ways, or_cases, cond-true}
use Rattle.farm_core.proofs.Words.{cut, with_addr, Addr, TxnId, same_addr, newest, Hold, Entry, Cell, same_txn, NodeState, HeldBy, Given, gives, Installed, Story}
use Rattle.farm_core.proofs.Words.{IsAmong, Stage, Refused, Transaction, unbegun, begun_at, drawn_at, with_locked, ended}
use Rattle.farm_node.specs.declared.entry.Entry.TheVariants as entry
use Rattle.farm_node.specs.Cell as cell
use Rattle.farm_node.proofs.Addresses.{and_left, addr_eq}
use Rattle.farm_node.proofs.Sound.{txn_self}
use Rattle.farm_node.proofs.Steps.{Keeps}
use Rattle.farm_node.proofs.Chains.{newest_cut}
use Rattle.farm_node.proofs.Decided.{HasLock}
use Rattle.farm_node.proofs.Stories.{Below}
use Rattle.farm_core.proofs.Low.{BoundLow}

abbrev pub Holds : TxnId → Option Cell → Type 0
Holds t None = ⊥
Holds t (Some c) = HasLock t c.lock

pub holds_held : (p : NodeState) (t : TxnId) (a : Addr) → Holds t (p.cells a) → HeldBy p t a
holds_held p t a = by (p.cells a) refl where
  by : (c : Option Cell) → p.cells a ≡ c → Holds t c → HeldBy p t a
  by None is has = absurd has
  by (Some c) is has = elim c.lock as (λ l. c.lock ≡ l → HasLock t l → HeldBy p t a) [ None ↦ λ lock none. absurd none | Some k ↦ λ lock own. (c, k, is, lock, own) ] refl has

-- the transaction has put
abbrev pub HasPut : TxnId → List Installed → Type 0
HasPut t puts = (i : Installed) × IsAmong i puts × (i.by ≡ t)

-- under a lock the bound stays below the write stamp, and what was last given bears the read stamp
pub record Holding (t : TxnId) (x : Transaction) (bound : ℕ) (h : Story) : Type 0 where
  pub is_open : x.is_open ≡ true
  pub low : 0 < x.write_stamp → bound < x.write_stamp
  pub read : (h.given t).read ≡ x.read_stamp

abbrev pub HoldingCell : TxnId → Transaction → Option Cell → Story → Type 0
HoldingCell t x None h = Unit {0}
HoldingCell t x (Some c) h = HasLock t c.lock → Holding t x c.bound h

pub record IsPut (x : Transaction) (i : Installed) : Type 0 where
  pub stamp : i.stamp ≡ x.write_stamp
  pub drawn : 0 < x.write_stamp
  pub read : i.read ≡ x.read_stamp

pub record Held (t : TxnId) (x : Transaction) (a : Addr) (c : Option Cell) (past floor : ℕ) (h : Story) : Type 0 where
  pub below : Below c
  pub puts : (i : Installed) → IsAmong i h.puts → i.by ≡ t → IsPut x i
  pub holding : HoldingCell t x c h
  pub locked : x.had_locked a ≡ true → x.stage ≢ Refused → Holds t c ⊎ HasPut t h.puts

-- an entry of the transaction is one that its phase allows
abbrev pub Allows : TxnId → Transaction → Entry → Type 0
Allows t x (entry.Alloc u r v placed) = u ≡ t → (x.is_open ≡ true) × (x.write_stamp ≡ 0) × (r ≡ x.read_stamp)
Allows t x (entry.Lock u b r new (Ok given)) = u ≡ t → (x.is_open ≡ true) × (x.write_stamp ≡ 0) × (r ≡ x.read_stamp)
Allows t x (entry.Put u b w) = u ≡ t → (w ≡ x.write_stamp) × (0 < x.write_stamp)
Allows t x (entry.Unlock u b) = u ≡ t → x.stage ≡ Refused
Allows t x e = Unit {0}

no_lock : (t : TxnId) (l : Option Hold) → l ≡ None → HasLock t l → ⊥
no_lock t l is has = subst (λ (z : Option Hold). HasLock t z) is has

not_free : (t : TxnId) (l : Option Hold) → cell.is_open l ≡ true → HasLock t l → ⊥
not_free t None free has = has
not_free t (Some k) free has = cc

-- two that have one lock are one
same_holder : (t u : TxnId) (l : Option Hold) (k : Hold) → l ≡ Some k → k.by ≡ u → HasLock t l → u ≡ t
same_holder t u l k is own has = let e : k.by ≡ t = subst (λ (z : Option Hold). HasLock t z) is has in sym own ∙ e

module _ (t : TxnId) (x : Transaction) (a : Addr) where
  -- a lock that is given newly
  given_holding : (u : TxnId) (r bound : ℕ) (v : Option (List ℕ)) (h : Story) → (u ≡ t → (x.is_open ≡ true) × (x.write_stamp ≡ 0) × (r ≡ x.read_stamp)) → u ≡ t
      → Holding t x bound (record h { given = λ z. cond (same_txn u z) (gives r v) (h.given z) })
  given_holding u r bound v h allowed mine =
      let ok = allowed mine in
      let undrawn : x.write_stamp ≡ 0 = ok.1 in
      record {
        is_open = ok.0;
        low = λ drawn. absurd (omega arith);
        read = ap (λ (g : Given). g.read) (cond-true (same_txn u t) (gives r v) (h.given t) (ap (λ (z : TxnId). same_txn z t) mine ∙ txn_self t)) ∙ ok.2;
      }

  ended_locked : (u : TxnId) (l : Option Hold) (k : Hold) (puts : List Installed) → l ≡ Some k → k.by ≡ u → (u ≡ t → x.stage ≡ Refused) → x.stage ≢ Refused → HasLock t l ⊎ HasPut t puts → HasPut t puts
  ended_locked u l k puts is own refused going has = ⊎_elim (λ (lock : HasLock t l). absurd (going (refused (same_holder t u l k is own lock)))) (λ put. put) has

  looked_holding : (c : Cell) (s : ℕ) (h : Story) → newest c.versions ≤ c.bound → (c.lock ≡ None) ⊎ (s < newest c.versions) → (HasLock t c.lock → Holding t x c.bound h)
      → HasLock t c.lock → Holding t x (max c.bound s) h
  looked_holding c s h below free holding has =
      let y : Holding t x c.bound h = holding has in
      ⊎_elim
      (λ (none : c.lock ≡ None). absurd (no_lock t c.lock none has))
      (λ (low : s < newest c.versions). record {
        is_open = y.is_open;
        low = λ drawn. let b : c.bound < x.write_stamp = y.low drawn in omega arith;
        read = y.read;
      })
      free

  pub held : Keeps a (Allows t x) (Held t x a)
  held = record {
    aside = λ c past past' floor h le y. record { below = y.below; puts = y.puts; holding = y.holding; locked = y.locked };
    looked = λ c s past floor h free y. let b : newest c.versions ≤ c.bound = y.below in
        record { below = omega arith; puts = y.puts; holding = looked_holding c s h y.below free y.holding; locked = y.locked };
    made = λ u r v placed past floor h making y. record {
      below = omega arith;
      puts = y.puts;
      holding = given_holding u r placed.bound (Some v) h making.fits;
      locked = λ is going. ⊎_elim (λ none. absurd none) (λ put. inr put) (y.locked is going);
    };
    locked = λ u b r new given c past floor h locking y. record {
      below = y.below;
      puts = y.puts;
      holding = given_holding u r c.bound new h locking.fits;
      locked = λ is going. ⊎_elim
          (λ (has : HasLock t c.lock). inl (⊎_elim (λ none. absurd (no_lock t c.lock none has)) (λ own. same_holder t u c.lock own.0 own.1 own.2 has) locking.free))
          (λ put. inr put)
          (y.locked is going);
    };
    put = λ u b w c past floor h ending above y. record {
      below = omega arith;
      puts = λ i there mine. ⊎_elim
          (λ is. subst (λ (z : Installed). z.by ≡ t → IsPut x z) is
          (λ (same : u ≡ t).
          let ok = ending.fits same in
          let had : Holding t x c.bound h = y.holding (subst (λ (l : Option Hold). HasLock t l) (sym ending.lock) (ending.own ∙ same)) in
          record { stamp = ok.0; drawn = ok.1; read = ap (λ (z : TxnId). (h.given z).read) same ∙ had.read })
          mine)
          (λ more. y.puts i more mine)
          there;
      holding = λ none. absurd none;
      locked = λ is going. inr (⊎_elim
          (λ (has : HasLock t c.lock). (_, inl refl, same_holder t u c.lock ending.hold ending.lock ending.own has))
          (λ put. (put.0, inr put.1, put.2))
          (y.locked is going));
    };
    unlocked = λ u b c past floor h ending y. record {
      below = y.below;
      puts = y.puts;
      holding = λ none. absurd none;
      locked = λ is going. inr (ended_locked u c.lock ending.hold h.puts ending.lock ending.own ending.fits going (y.locked is going));
    };
    back = λ u b c past floor h ending none y. record {
      below = tt;
      puts = y.puts;
      holding = tt;
      locked = λ is going. inr (ended_locked u c.lock ending.hold h.puts ending.lock ending.own ending.fits going (y.locked is going));
    };
    cut = λ c past past' floor floor' h le more y. let kept : newest (cut floor' c.versions) ≤ c.bound = subst (λ (n : ℕ). n ≤ c.bound) (sym (newest_cut floor' c.versions)) y.below in
        record { below = kept; puts = y.puts; holding = y.holding; locked = y.locked };
    went = λ c past past' floor floor' h le more gone high y. let free = not_free t c.lock (and_left (cell.is_open c.lock) (cell.is_gone floor' c.versions) gone) in
        record { below = tt; puts = y.puts; holding = tt; locked = λ is going. ⊎_elim (λ has. absurd (free has)) (λ put. inr put) (y.locked is going) };
    none = λ past past' floor floor' h le more y. record { below = tt; puts = y.puts; holding = tt; locked = y.locked };
  }

-- a phase moves on

holding_moved : (t : TxnId) (x z : Transaction) (c : Option Cell) (h : Story) → (Holds t c → (bound : ℕ) → Holding t x bound h → Holding t z bound h) → HoldingCell t x c h → HoldingCell t z c h
holding_moved t x z None h moved holding = tt
holding_moved t x z (Some c) h moved holding = λ has. moved has c.bound (holding has)

module _ (t : TxnId) (x : Transaction) (a : Addr) (c : Option Cell) (past floor : ℕ) (h : Story) where
  -- a change that leaves the stamps
  held_with : (stage : Stage) (is_open : Bool) (reads locks sames : Addr → Bool) → (Holds t c → x.is_open ≡ true → is_open ≡ true) → (locks a ≡ true → stage ≢ Refused → Holds t c ⊎ HasPut t h.puts)
      → Held t x a c past floor h → Held t (record x { stage = stage; is_open = is_open; has_read = reads; had_locked = locks; is_same = sames }) a c past floor h
  held_with stage is_open reads locks sames opens locked y = record {
    below = y.below;
    puts = λ i there mine. let z : IsPut x i = y.puts i there mine in record { stamp = z.stamp; drawn = z.drawn; read = z.read };
    holding = holding_moved t x (record x { stage = stage; is_open = is_open; has_read = reads; had_locked = locks; is_same = sames }) c h
        (λ has bound z. record { is_open = opens has z.is_open; low = z.low; read = z.read }) y.holding;
    locked = locked;
  }

  -- a change of the stage, and of what was read or is the same
  pub held_staged : (stage : Stage) (reads sames : Addr → Bool) → (stage ≢ Refused → x.stage ≢ Refused) → Held t x a c past floor h
      → Held t (record x { stage = stage; has_read = reads; is_same = sames }) a c past floor h
  held_staged stage reads sames going y = held_with stage x.is_open reads x.had_locked sames (λ has is. is) (λ is on. y.locked is (going on)) y

  -- a lock that it has
  pub held_locked : (b : Addr) → (b ≡ a → Holds t c) → Held t x a c past floor h → Held t (with_locked b x) a c past floor h
  held_locked b has y = held_with x.stage x.is_open x.has_read (with_addr b x.had_locked) x.is_same (λ has is. is)
      (λ is going. ⊎_elim (λ same. inl (has (addr_eq b a same))) (λ old. y.locked old going) (or_cases (same_addr b a) (x.had_locked a) is)) y

  pub held_ended : (Holds t c → ⊥) → Held t x a c past floor h → Held t (ended x) a c past floor h
  held_ended free y = held_with x.stage false x.has_read x.had_locked x.is_same (λ has. absurd (free has)) y.locked y

  -- a draw above every bound
  pub held_drawn : (clock w : ℕ) → x.write_stamp ≡ 0 → x.stage ≢ Refused → BoundLow clock c → clock < w → Held t x a c past floor h → Held t (drawn_at w x) a c past floor h
  held_drawn clock w undrawn going low above y = record {
    below = y.below;
    puts = λ i there mine. let z : 0 < x.write_stamp = (y.puts i there mine).drawn in absurd (omega arith);
    holding = by c low y.holding;
    locked = λ is on. y.locked is going;
  } where
    by : (c : Option Cell) → BoundLow clock c → HoldingCell t x c h → HoldingCell t (drawn_at w x) c h
    by None low holding = tt
    by (Some c) low holding = λ has. let z : Holding t x c.bound h = holding has in record { is_open = z.is_open; low = λ drawn. omega arith; read = z.read }

  pub held_begun : (r : ℕ) → x ≡ unbegun → Held t x a c past floor h → Held t (begun_at r) a c past floor h
  held_begun r is y = record {
    below = y.below;
    puts = λ i there mine. let z : 0 < x.write_stamp = (y.puts i there mine).drawn in let undrawn : x.write_stamp ≡ 0 = ap (λ (z : Transaction). z.write_stamp) is in absurd (omega arith);
    holding = holding_moved t x (begun_at r) c h (λ has bound z. absurd (both_ways _ (ap (λ (w : Transaction). w.is_open) is) z.is_open)) y.holding;
    locked = λ locked going. absurd (cc);
  }
