-- Lists only grow once a transaction has begun, and its read stamp stays.
use Rattle.std.proofs.Common.{◌≡◌, ◌≢◌, ℕ, ◌+◌, ◌≤◌, false, List, [], ◌∷◌, ◌++◌, Ok, Err, sym, refl, ap, ◌∙◌, subst, ⊎_elim, arith, append_assoc, append-nil}
use Rattle.std.proofs.lemmas.Bool.{both_ways}
use Rattle.farm_core.proofs.Words.{TxnId, Entry, read_answer, lock_answer, check_answer, Event, Answer, Unbegun}
use Rattle.farm_core.proofs.Words.{Installing, Refused, Transaction, begun_at, in_stage, with_read, with_locked, with_same, drawn_at, ended, State, home}
use Rattle.farm_core.proofs.Words.{node_of, adding, adding_to_all, moving, Reads, Locks, Checks, Meets, Acts, Steps}
use Rattle.farm_core.specs.declared.event.Event.TheVariants as event
use Rattle.farm_core.proofs.Good.{Good, Grown, one_grown, all_grown, grown_at, moved}

-- a list that begins with another
abbrev pub Extends : List Entry → List Entry → Type 0
Extends log longer = (more : List Entry) × (longer ≡ log ++ more)

pub extends_self : (log : List Entry) → Extends log log
extends_self log = ([], sym (append-nil log))

extends_twice : (x y z : List Entry) → Extends x y → Extends y z → Extends x z
extends_twice x y z one two = (one.0 ++ two.0, two.1 ∙ (ap (λ (log : List Entry). log ++ two.0) one.1 ∙ append_assoc x one.0 two.0))

-- the transaction has begun in both, with the same read stamp
abbrev pub Stays : Transaction → Transaction → Type 0
Stays x y = x.stage ≢ Unbegun → (y.stage ≢ Unbegun) × (y.read_stamp ≡ x.read_stamp)

stays_self : (x : Transaction) → Stays x x
stays_self x begun = (begun, refl)

pub record Grows (s d : State) : Type 0 where
  pub nodes : d.nodes ≡ s.nodes
  pub started : d.loading ≡ false
  pub logs : (n : ℕ) → Extends (s.logs n) (d.logs n)
  pub begun : (t : TxnId) → Stays (s.transactions t) (d.transactions t)

pub grows_twice : (x y z : State) → Grows x y → Grows y z → Grows x z
grows_twice x y z one two = record {
  nodes = two.nodes ∙ one.nodes;
  started = two.started;
  logs = λ n. extends_twice (x.logs n) (y.logs n) (z.logs n) (one.logs n) (two.logs n);
  begun = λ t begun. let here = one.begun t begun in let there = two.begun t here.0 in (there.0, there.1 ∙ here.1);
}

pub grows_self : (s : State) → s.loading ≡ false → Grows s s
grows_self s started = record { nodes = refl; started = started; logs = λ n. extends_self (s.logs n); begun = λ t. stays_self (s.transactions t) }

module _ (s : State) (started : s.loading ≡ false) where
  grows_logs : (On : ℕ → Type 0) (e : Entry) (logs : ℕ → List Entry) → Grown On s e logs → Grows s (record s { logs = logs })
  grows_logs On e logs grown = record {
    nodes = refl;
    started = started;
    logs = λ n. grown_at On s e logs grown n (Extends (s.logs n)) (λ on. (e ∷ [], refl)) (extends_self (s.logs n));
    begun = λ t. stays_self (s.transactions t);
  }

  grows_adding : (n : ℕ) (e : Entry) → Grows s (adding n e s)
  grows_adding n e = grows_logs _ e _ (one_grown s n e)

  grows_adding_to_all : (e : Entry) → Grows s (adding_to_all e s)
  grows_adding_to_all e = grows_logs _ e _ (all_grown s e)

  grows_moving : (t : TxnId) (change : Transaction → Transaction) → Stays (s.transactions t) (change (s.transactions t)) → Grows s (moving t change s)
  grows_moving t change stays = record {
    nodes = refl;
    started = started;
    logs = λ n. extends_self (s.logs n);
    begun = λ u. moved (λ z x. Stays (s.transactions z) x) t u (change (s.transactions t)) s.transactions stays (stays_self (s.transactions u));
  }

module _ (s : State) (started : s.loading ≡ false) where
  grows_both : (n : ℕ) (e : Entry) (t : TxnId) (change : Transaction → Transaction) → Stays (s.transactions t) (change (s.transactions t)) → Grows s (moving t change (adding n e s))
  grows_both n e t change stays = grows_twice s (adding n e s) (moving t change (adding n e s)) (grows_adding s started n e) (grows_moving (adding n e s) started t change stays)

  grows_refused : (n : ℕ) (e : Entry) (t : TxnId) → Grows s (moving t (in_stage Refused) (adding n e s))
  grows_refused n e t = grows_both n e t (in_stage Refused) (λ begun. ((λ is. cc), refl))

  moves : (d next : State) → next ≡ d → Grows s d → Grows s next
  moves d next is g = subst (Grows s) (sym is) g

  grows_act : (e : Event) (x : Answer) (next : State) → Good s → Meets s e → Acts s e x next → Grows s next
  grows_act (event.Load a bytes) x next g meets = λ acts. absurd (both_ways s.loading started meets.0)
  grows_act (event.Begin t) x next g meets = λ acts. moves _ next acts.1 (record {
    nodes = refl;
    started = refl;
    logs = (grows_adding_to_all s started _).logs;
    begun = (grows_moving s started t (λ x. begun_at s.clock) (λ begun.
        let old : t.number ≤ s.begins t.actor = ((g.base.sane t).begun begun).2 in
        let number : t.number ≡ s.begins t.actor + 1 = meets.1 in
        absurd (omega arith))).begun;
  })
  grows_act (event.Read t a) x next g meets = elim (read_answer (s.transactions t).read_stamp ((node_of s a).cells a)) as (λ y. Reads s t a (s.transactions t).read_stamp y x next → Grows s next) [
    | Ok found ↦ λ acts. moves _ next acts.1 (grows_both (home s a) _ t (with_read a) (stays_self (s.transactions t)))
    | Err by ↦ λ acts. moves _ next acts.1 (grows_adding s started (home s a) _)
  ]
  grows_act (event.Alloc t n bytes) x next g meets = ⊎_elim
      (λ y. moves _ next y.2.1 (grows_both n _ t (with_locked y.0) (stays_self (s.transactions t))))
      (λ y. moves _ next y.1.1 (grows_moving s started t (in_stage Refused) (λ begun. ((λ is. cc), refl))))
  grows_act (event.Lock t a value) x next g meets = elim (lock_answer t (s.transactions t).read_stamp ((node_of s a).cells a)) as (λ y. Locks s t a (s.transactions t).read_stamp value y x next → Grows s next) [
    | Ok given ↦ λ acts. moves _ next acts.1 (grows_both (home s a) _ t (with_locked a) (stays_self (s.transactions t)))
    | Err fault ↦ λ acts. moves _ next acts.1 (grows_refused (home s a) _ t)
  ]
  grows_act (event.Draw t) x next g meets = ⊎_elim
      (λ y. moves _ next y.1.1 (record { nodes = refl; started = started; logs = λ n. extends_self (s.logs n); begun = (grows_moving s started t (drawn_at (s.clock + 1)) (λ begun. ((λ is. cc), refl))).begun }))
      (λ y. moves _ next y.1.1 (grows_moving s started t (in_stage Refused) (λ begun. ((λ is. cc), refl))))
  grows_act (event.Check t a) x next g meets = elim (check_answer (s.transactions t).read_stamp ((node_of s a).cells a)) as (λ y. Checks s t a (s.transactions t).read_stamp (s.transactions t).write_stamp y x next → Grows s next) [
    | Ok same ↦ λ acts. moves _ next acts.1 (grows_both (home s a) _ t (with_same a) (stays_self (s.transactions t)))
    | Err fault ↦ λ acts. moves _ next acts.1 (grows_refused (home s a) _ t)
  ]
  grows_act (event.Put t a) x next g meets = λ acts. moves _ next acts.1 (grows_both (home s a) _ t (in_stage Installing) (λ begun. ((λ is. cc), refl)))
  grows_act (event.Unlock t a) x next g meets = λ acts. moves _ next acts.1 (grows_refused (home s a) _ t)
  grows_act (event.Shut t) x next g meets = λ acts. moves _ next acts.1
      (grows_twice s (adding_to_all _ s) (moving t ended (adding_to_all _ s)) (grows_adding_to_all s started _) (grows_moving (adding_to_all _ s) started t ended (stays_self (s.transactions t))))
  grows_act (event.Collect n) x next g meets = λ acts. moves _ next acts.1 (record { nodes = refl; started = refl; logs = (grows_adding s started n _).logs; begun = λ t. stays_self (s.transactions t) })

  pub grows_step : (e : Event) (x : Answer) (next : State) → Good s → Steps s e x next → Grows s next
  grows_step e x next g step = ⊎_elim (λ done. grows_act e x next g done.0 done.1) (λ lacks. moves s next lacks.1.1 (grows_self s started)) step
