-- What a read was answered is in its node's list, and stands.
use Rattle.std.proofs.Common.{◌≡◌, ◌≢◌, ℕ, ◌<◌, ◌≤◌, ◌%◌, false, List, [], ◌∷◌, ◌++◌, Option, Some, None, Result, Ok, Err, sym, ap, ◌∙◌, subst, ⊎_elim, append_assoc}
use Rattle.farm_core.proofs.Words.{NODE_LIMIT, Addr, TxnId, Found, Entry, Bytes, read_answer, stamped_bytes, Event, Answer, Unbegun, Reading, Transaction}
use Rattle.farm_core.proofs.Words.{State, home, node_of, adding, moving, with_read, IsAt, found_answer, Reads, Steps, Runs, fresh}
use Rattle.farm_node.specs.declared.entry.Entry.TheVariants as entry
use Rattle.farm_core.specs.declared.event.Event.TheVariants as event
use Rattle.farm_core.specs.declared.event.Answer.TheVariants as answer
use Rattle.farm_core.specs.Serial.{log_of, ValueStands, AnswerStands, EachAnswer, ReadsWhole}
use Rattle.farm_core.proofs.Good.{Good, home_low, self_moved}
use Rattle.farm_core.proofs.First.{good_fresh}
use Rattle.farm_core.proofs.Phases.{started}
use Rattle.farm_core.proofs.Events.{now_at}
use Rattle.farm_core.proofs.Runs.{good_step, good_run}
use Rattle.farm_core.proofs.Grows.{Extends, Grows, grows_self, grows_twice, grows_step}
use Rattle.farm_core.proofs.Serial.{entered_stands}

abbrev IsFound : Answer → Type 0
IsFound (answer.Value stamp bytes) = Unit {0}
IsFound (answer.Absent stamp) = Unit {0}
IsFound x = ⊥

-- the read is the last entry of its node's list
record Entered (s : State) (t : TxnId) (a : Addr) (x : Answer) : Type 0 where
  found : Found
  before : List Entry
  is : log_of s a ≡ before ++ entry.Read t.actor a (s.transactions t).read_stamp (Ok found) ∷ []
  told : x ≡ found_answer found
  begun : (s.transactions t).stage ≢ Unbegun
  going : s.loading ≡ false

module _ (s : State) (g : Good s) (t : TxnId) (a : Addr) (x : Answer) (next : State) where
  read_entered : (y : Result Found TxnId) → IsAt Reading s t → Reads s t a (s.transactions t).read_stamp y x next → IsFound x → Entered next t a x
  read_entered (Ok found) at acts shown =
      let e : Entry = entry.Read t.actor a (s.transactions t).read_stamp (Ok found) in
      let d : State = moving t (with_read a) (adding (home s a) e s) in
      let moved : d.transactions t ≡ with_read a (s.transactions t) = self_moved t (with_read a (s.transactions t)) s.transactions in
      let stage : (d.transactions t).stage ≡ Reading = ap (λ (z : Transaction). z.stage) moved ∙ at.1 in
      subst (λ (z : State). Entered z t a x) (sym acts.1) (record {
        found = found;
        before = s.logs (home s a);
        is = now_at (home s a) (s.logs (home s a) ++ e ∷ []) s.logs
            ∙ ap (λ (r : ℕ). s.logs (home s a) ++ entry.Read t.actor a r (Ok found) ∷ []) (sym (ap (λ (z : Transaction). z.read_stamp) moved));
        told = acts.0;
        begun = λ none. cc;
        going = started s g t at.0;
      })
  read_entered (Err by) at acts shown = absurd (subst IsFound acts.0 shown)

  step_entered : Steps s (event.Read t a) x next → IsFound x → Entered next t a x
  step_entered step shown = ⊎_elim
      (λ done. read_entered (read_answer (s.transactions t).read_stamp ((node_of s a).cells a)) done.0.0 done.1 shown)
      (λ lacks. absurd (subst IsFound lacks.1.0 shown))
      step

-- in every later state

value_stands : (s : State) (t : TxnId) (a : Addr) (stamp : ℕ) (value : Option Bytes)
    → ValueStands (log_of s a) a (s.transactions t).read_stamp (elim value as (λ _. Option (ℕ × Bytes)) [ None ↦ None | Some bytes ↦ Some (stamp, bytes) ])
    → AnswerStands s (event.Read t a) (elim value as (λ _. Answer) [ None ↦ answer.Absent stamp | Some bytes ↦ answer.Value stamp bytes ])
value_stands s t a stamp None stands = stands
value_stands s t a stamp (Some bytes) stands = stands

later_stands : (s d : State) (t : TxnId) (a : Addr) (x : Answer) → Grows s d → Good d → Entered s t a x → AnswerStands d (event.Read t a) x
later_stands s d t a x grows g entered =
    let more : Extends (s.logs (home s a)) (d.logs (home s a)) = grows.logs (home s a) in
    let e : Entry = entry.Read t.actor a (s.transactions t).read_stamp (Ok entered.found) in
    let is : log_of d a ≡ entered.before ++ e ∷ more.0 =
    ap (λ (n : ℕ). d.logs (a.region % n)) grows.nodes ∙ (more.1 ∙ (ap (λ (log : List Entry). log ++ more.0) entered.is ∙ append_assoc entered.before (e ∷ []) more.0)) in
    let stands : ValueStands (log_of d a) a (s.transactions t).read_stamp (stamped_bytes entered.found) =
    entered_stands (log_of d a) t.actor (s.transactions t).read_stamp a entered.found entered.before more.0 (g.base.lists (home d a) (home_low d a g.base.count.0)).lawful is in
    subst (λ (y : Answer). AnswerStands d (event.Read t a) y) (sym entered.told)
    (value_stands d t a entered.found.stamp entered.found.value
    (subst (λ (r : ℕ). ValueStands (log_of d a) a r (stamped_bytes entered.found)) (sym (grows.begun t entered.begun).1) stands))

grows_runs : (events : List Event) (s : State) (answers : List Answer) (end : State) → Good s → s.loading ≡ false → Runs s events answers end → Grows s end
grows_runs [] s [] end g going runs = subst (Grows s) (sym runs) (grows_self s going)
grows_runs (e ∷ es) s (x ∷ xs) end g going runs =
    let step = runs.1 in
    let first : Grows s step.0 = grows_step s going e x step.0 g step.1 in
    grows_twice s step.0 end first (grows_runs es step.0 xs end (good_step s e x step.0 g runs.0 step.1) first.started step.2)
grows_runs events s answers end g going runs = absurd runs

answer_stands : (s next end : State) (e : Event) (x : Answer) → Good s → Good end → Steps s e x next → (next.loading ≡ false → Grows next end) → AnswerStands end e x
answer_stands s next end (event.Read t a) (answer.Value stamp bytes) g good step grows =
    let entered = step_entered s g t a (answer.Value stamp bytes) next step tt in later_stands next end t a _ (grows entered.going) good entered
answer_stands s next end (event.Read t a) (answer.Absent stamp) g good step grows =
    let entered = step_entered s g t a (answer.Absent stamp) next step tt in later_stands next end t a _ (grows entered.going) good entered
answer_stands s next end e x g good step grows = tt

each_answer : (events : List Event) (s : State) (answers : List Answer) (end : State) → Good s → Good end → Runs s events answers end → EachAnswer (AnswerStands end) events answers
each_answer (e ∷ es) s (x ∷ xs) end g good runs =
    let step = runs.1 in
    let next : Good step.0 = good_step s e x step.0 g runs.0 step.1 in
    (answer_stands s step.0 end e x g good step.1 (λ going. grows_runs es step.0 xs end next going step.2), each_answer es step.0 xs end next good step.2)
each_answer events s answers end g good runs = tt

pub reads_stand : (nodes : ℕ) (events : List Event) (answers : List Answer) (s : State) → 0 < nodes → nodes ≤ NODE_LIMIT → Runs (fresh nodes) events answers s → ReadsWhole events answers s
reads_stand nodes events answers s low high runs =
    let g : Good s = good_run nodes events answers s low high runs in
    record {
      lawful = λ n less. (g.base.lists n less).lawful;
      answered = each_answer events (fresh nodes) answers s (good_fresh nodes low high) g runs;
      entered = λ n k r a found before rest less is. entered_stands (s.logs n) k r a found before rest (g.base.lists n less).lawful is;
    }
