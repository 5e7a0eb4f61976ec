-- The stamps that lawful entries answer are in range.
use Rattle.farm_node.proofs.Common.{ℕ, nat_le, cond, true, false, List, [], ◌∷◌, ◌++◌, Option, Some, None, Result, sym, ap, subst, arith, Addr, TxnId, IsStamp}
use Rattle.farm_node.proofs.Common.{Version, version_at, newest, Found, Locked, Collected, CheckFault, Entry, Made, Open, Read, Alloc, Lock, Check, Collect}
use Rattle.farm_node.proofs.Common.{Bytes, Cell, found_of, found_at, read_answer, lock_answer, check_answer, NodeState, Fits, replay, Lawful, StampsBelow}
use Rattle.farm_node.proofs.Common.{AnswersStamps}
use Rattle.farm_node.proofs.Sound.{Here, Sits, Sound, sound, less_max}
use Rattle.farm_node.proofs.Stories.{Stands, stands}
use Rattle.farm_node.proofs.Replies.{read_cases, lock_cases, check_cases}

found_stamp : (s : ℕ) (vs : List Version) → StampsBelow vs → IsStamp (found_at s vs).stamp
found_stamp s [] low = omega arith
found_stamp s (v ∷ vs) low = elim (nat_le v.0 s) as (λ g. IsStamp (found_of (cond g (Some v) (version_at s vs))).stamp) [ true ↦ low.0 | false ↦ found_stamp s vs low.1 ]

newest_stamp : (vs : List Version) → StampsBelow vs → IsStamp (newest vs)
newest_stamp [] low = omega arith
newest_stamp (v ∷ vs) low = low.0

-- the answers that are due at an address

module _ (regions : List ℕ) (a : Addr) where
  read_stamps : (k s : ℕ) (c : Option Cell) → Here (Sits regions a) c → AnswersStamps (Read k a s (read_answer s c))
  read_stamps k s None sits = omega arith
  read_stamps k s (Some c) sits = read_cases s c (λ z. AnswersStamps (Read k a s z)) (λ free. found_stamp s c.versions sits.versions) (λ h is. tt)

  lock_stamps : (t : TxnId) (r : ℕ) (new : Option Bytes) (c : Option Cell) → Here (Sits regions a) c → AnswersStamps (Lock t a r new (lock_answer t r c))
  lock_stamps t r new None sits = (omega arith, omega arith)
  lock_stamps t r new (Some c) sits = lock_cases t r c (λ z. AnswersStamps (Lock t a r new z)) (λ h is. tt)
      (λ above. (found_stamp r c.versions sits.versions, newest_stamp c.versions sits.versions))
      (λ is low. (newest_stamp c.versions sits.versions, sits.bound)) (λ h is own. (omega arith, sits.bound))

  check_stamps : (t : TxnId) (r w : ℕ) (c : Option Cell) → Here (Sits regions a) c → AnswersStamps (Check t a r w (check_answer r c))
  check_stamps t r w None sits = tt
  check_stamps t r w (Some c) sits = check_cases r c (λ z. AnswersStamps (Check t a r w z)) (λ h is. tt)
      (λ above. (found_stamp r c.versions sits.versions, newest_stamp c.versions sits.versions)) (λ is low. tt)

fits_stamps : (p : NodeState) (e : Entry) → Sound p → Fits p e → AnswersStamps e
fits_stamps p (Open k c x) t fits = subst (λ (z : ℕ). IsStamp z) (sym fits.4) (less_max c p.floor _ fits.3 t.floor)
fits_stamps p (Read k a s answer) t fits = subst (λ (z : Result Found TxnId). AnswersStamps (Read k a s z)) (sym fits.2) (read_stamps p.regions a k s (p.cells a) (t.sits a))
fits_stamps p (Alloc u r v placed) t fits = subst (λ (z : ℕ). IsStamp z) (sym fits.3) (less_max p.past r _ t.past fits.1)
fits_stamps p (Lock u a r new answer) t fits = subst (λ (z : Result Locked CheckFault). AnswersStamps (Lock u a r new z)) (sym fits.due) (lock_stamps p.regions a u r new (p.cells a) (t.sits a))
fits_stamps p (Check u a r w answer) t fits = subst (λ (z : Result (Unit {0}) CheckFault). AnswersStamps (Check u a r w z)) (sym fits.due) (check_stamps p.regions a u r w (p.cells a) (t.sits a))
fits_stamps p (Collect k f removed) t fits = subst (λ (z : ℕ). IsStamp z) (sym (ap (λ (z : Collected). z.floor) fits.2)) (sound p (Collect k f removed) fits t).floor
fits_stamps p e t fits = tt

-- `stands` speaks of one address as well; here it may be any
any_addr : Addr
any_addr = record { region = 0; offset = 0 }

pub answered : (before rest : List Entry) (e : Entry) → Lawful (before ++ e ∷ rest) → AnswersStamps e
answered before rest (Made m) lawful = tt
answered before rest e lawful =
    let x : Stands any_addr before (e ∷ rest) = stands any_addr before e rest tt lawful in
    fits_stamps (replay before) e x.sound x.lawful.0
