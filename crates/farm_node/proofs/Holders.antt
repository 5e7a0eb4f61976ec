-- Who holds a lock, and who may ask for one.
use Rattle.farm_node.proofs.Common.{◌≡◌, ℕ, Bool, true, false, List, [], ◌∷◌, Option, Some, None, is_some, sym, refl, ap, ◌∙◌, inl, inr, ⊎_elim, ◌↔◌, IsTrue}
use Rattle.farm_node.proofs.Common.{cond_both, cond-true, both_ways, Addr, TxnId, Version, Hold, Bytes, Cell, same_txn, found_at, NodeState, HeldBy, HeldNew}
use Rattle.farm_node.proofs.Common.{HasValue, MayLock, has_lock, holds_there, is_new, may_lock}
use Rattle.farm_node.proofs.Sound.{txn_eq, txn_self}

pub has_lock_to : (l : Option Hold) (t : TxnId) → has_lock t l ≡ true → (h : Hold) × (l ≡ Some h) × (h.by ≡ t)
has_lock_to None t has = absurd (cc)
has_lock_to (Some h) t has = (h, refl, txn_eq h.by t has)

holds_to : (p : NodeState) (t : TxnId) (a : Addr) (c : Option Cell) → p.cells a ≡ c → holds_there t c ≡ true → HeldBy p t a
holds_to p t a None is held = absurd (cc)
holds_to p t a (Some c) is held = let has = has_lock_to c.lock t held in (c, has.0, is, has.1, has.2)

holds_from : (p : NodeState) (t : TxnId) (a : Addr) → HeldBy p t a → holds_there t (p.cells a) ≡ true
holds_from p t a held =
    ap (holds_there t) held.2 ∙ (ap (has_lock t) held.3 ∙ (ap (λ (u : TxnId). same_txn u t) held.4 ∙ txn_self t))

-- the test that the program makes says who holds the address
pub holds_iff : (p : NodeState) (t : TxnId) (a : Addr) → IsTrue (holds_there t (p.cells a)) ↔ HeldBy p t a
holds_iff p t a = (holds_to p t a (p.cells a) refl, holds_from p t a)

has_value_to : (v : Option Bytes) → is_some v ≡ true → (x : Bytes) × (v ≡ Some x)
has_value_to None some = absurd (cc)
has_value_to (Some x) some = (x, refl)

new_to : (c : Cell) → is_new (Some c) ≡ true → c.versions ≡ []
new_to c new = by c.versions refl new where
  by : (vs : List Version) → c.versions ≡ vs → (elim vs as (λ _. Bool) [ [] ↦ true | v ∷ more ↦ false ]) ≡ true → c.versions ≡ []
  by [] is new = is
  by (v ∷ vs) is new = absurd (cc)

may_to : (p : NodeState) (t : TxnId) (a : Addr) (r : ℕ) (c : Option Cell) → p.cells a ≡ c → may_lock t r c ≡ true → MayLock p t a r
may_to p t a r None is may = absurd (cc)
may_to p t a r (Some c) is may = cond_both (has_lock t c.lock) _ _ (λ z. z ≡ true → MayLock p t a r)
    (λ has may.
    let held : HeldBy p t a = holds_to p t a (Some c) is has in
    let same : Some held.0 ≡ Some c = sym held.2 ∙ is in
    let cell : held.0 ≡ c = cc in
    inr (held.0, held.1, held.2, held.3, held.4, ap (λ (d : Cell). d.versions) cell ∙ new_to c may))
    (λ free may.
    let v = has_value_to (found_at r c.versions).value may in
    inl ((c, v.0, is, v.1), λ held. both_ways (has_lock t c.lock) free (ap (holds_there t) (sym is) ∙ holds_from p t a held))) may

may_value : (p : NodeState) (t : TxnId) (a : Addr) (r : ℕ) → HasValue p a r → (HeldBy p t a → ⊥) → may_lock t r (p.cells a) ≡ true
may_value p t a r has free = ap (may_lock t r) has.2
    ∙ cond_both (has_lock t has.0.lock) _ _ (λ z. z ≡ true) (λ lock. absurd (free (holds_to p t a (Some has.0) has.2 lock))) (λ lock. ap (is_some {T = Bytes}) has.3)

may_new : (p : NodeState) (t : TxnId) (a : Addr) (r : ℕ) → HeldNew p t a → may_lock t r (p.cells a) ≡ true
may_new p t a r held =
    let lock : has_lock t held.0.lock ≡ true = ap (has_lock t) held.3 ∙ (ap (λ (u : TxnId). same_txn u t) held.4 ∙ txn_self t) in
    ap (may_lock t r) held.2 ∙ (cond-true (has_lock t held.0.lock) _ _ lock
    ∙ ap (λ (vs : List Version). elim vs as (λ _. Bool) [ [] ↦ true | v ∷ more ↦ false ]) held.5)

-- and who may ask for its lock
pub may_iff : (p : NodeState) (t : TxnId) (a : Addr) (r : ℕ) → IsTrue (may_lock t r (p.cells a)) ↔ MayLock p t a r
may_iff p t a r = (may_to p t a r (p.cells a) refl, λ may. ⊎_elim (λ x. may_value p t a r x.0 x.1) (λ x. may_new p t a r x) may)
