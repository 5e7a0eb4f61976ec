-- What may be answered at an object, case by case: what holds of each answer in its case holds of the answer that is due.
use Rattle.farm_node.proofs.Common.{◌≡◌, ◌⊎◌, ℕ, ◌<◌, ◌≤◌, nat_lt, Option, Some, None, Result, Ok, Err, refl, inl, inr, cond_both, ltb-true, ltb-false, TxnId}
use Rattle.farm_node.proofs.Common.{newest, Hold, Found, Locked, CheckFault, Held, Changed, Cell, same_txn, found_at, read_answer, unless_changed, lock_given}
use Rattle.farm_node.proofs.Common.{lock_answer, check_answer}
use Rattle.farm_node.proofs.Sound.{txn_eq}

option_both : {X Y : Type 0} (o : Option X) (y : Y) (f : X → Y) (P : Y → Type 0) → (o ≡ None → P y) → ((x : X) → o ≡ Some x → P (f x))
    → P (elim o as (λ _. Y) [ None ↦ y | Some x ↦ f x ])
option_both None y f P none some = none refl
option_both (Some x) y f P none some = some x refl

pub read_cases : (s : ℕ) (c : Cell) (P : Result Found TxnId → Type 0)
    → ((c.lock ≡ None) ⊎ (s < newest c.versions) → P (Ok (found_at s c.versions)))
    → ((k : Hold) → c.lock ≡ Some k → P (Err k.by)) → P (read_answer s (Some c))
read_cases s c P ok held = option_both c.lock _ _ P (λ is. ok (inl is))
    (λ k is. cond_both (nat_lt s (newest c.versions)) _ _ P (λ above. ok (inr (ltb-true s (newest c.versions) above))) (λ e. held k is))

pub changed_cases : {X : Type 0} (r : ℕ) (c : Cell) (x : X) (P : Result X CheckFault → Type 0)
    → (r < newest c.versions → P (Err (Changed (found_at r c.versions).stamp (newest c.versions)))) → (newest c.versions ≤ r → P (Ok x))
    → P (unless_changed r c x)
changed_cases r c x P changed ok =
    cond_both (nat_lt r (newest c.versions)) _ _ P (λ e. changed (ltb-true r (newest c.versions) e)) (λ e. ok (ltb-false r (newest c.versions) e))

pub lock_cases : (t : TxnId) (r : ℕ) (c : Cell) (P : Result Locked CheckFault → Type 0) → ((k : Hold) → c.lock ≡ Some k → P (Err (Held k.by)))
    → (r < newest c.versions → P (Err (Changed (found_at r c.versions).stamp (newest c.versions))))
    → (c.lock ≡ None → newest c.versions ≤ r → P (Ok (lock_given (newest c.versions) c.bound)))
    → ((k : Hold) → c.lock ≡ Some k → k.by ≡ t → P (Ok (lock_given 0 c.bound))) → P (lock_answer t r (Some c))
lock_cases t r c P held changed free own = option_both c.lock _ _ P (λ is. changed_cases r c _ P changed (free is))
    (λ k is. cond_both (same_txn k.by t) _ _ P (λ e. own k is (txn_eq k.by t e)) (λ e. held k is))

pub check_cases : (r : ℕ) (c : Cell) (P : Result (Unit {0}) CheckFault → Type 0) → ((k : Hold) → c.lock ≡ Some k → P (Err (Held k.by)))
    → (r < newest c.versions → P (Err (Changed (found_at r c.versions).stamp (newest c.versions))))
    → (c.lock ≡ None → newest c.versions ≤ r → P (Ok tt)) → P (check_answer r (Some c))
check_cases r c P held changed ok = option_both c.lock _ _ P (λ is. changed_cases r c tt P changed (ok is)) held
