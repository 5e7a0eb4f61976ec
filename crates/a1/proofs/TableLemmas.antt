-- What the table of endings gives, for all commands at once.
use Rattle.std.proofs.Common.{◌≡◌, ◌≢◌, ◌⊎◌, inl, inr, ⊎_elim, ℕ, List, [], Option, Some, None, Result, Ok, Err, refl, sym, ap, subst, ◌∙◌, arith, append-nil}
use Rattle.std.specs.Prelude.{IfSome}
use Rattle.std.specs.Io.KnownBytes.{append_known}
use Rattle.run_text.specs.Run.{empty_run}
use Rattle.run_text.specs.declared.run.Run.{Run}
use Rattle.a1.specs.Outside.{Side, Outside, outside, no_store, HasFailed, IsUntouched, IsWritten}
use Rattle.a1.specs.Endings.{usage_text, bad_line_text, cause_status, status_in, Writes, Tells, Finishes}
use Rattle.a1.specs.Rules.{Serves}
use Rattle.a1.specs.RunCommand.{IsLegalRun}
use Rattle.a1.specs.Commands.{rules_of, Says, EndsWith}
use Rattle.a1.specs.declared.words.Command.{Command}
use Rattle.a1.specs.declared.words.Command.TheVariants as command
use Rattle.a1.specs.declared.ending.Cause.{Cause}
use Rattle.a1.specs.declared.ending.Cause.TheVariants as cause
use Rattle.a1.specs.declared.ending.Extent.{Extent}
use Rattle.a1.specs.declared.ending.Extent.TheVariants.{Whole, CutShort}
use Rattle.a1.specs.declared.input.InputFault.{InputFault}
use Rattle.a1.specs.declared.input.InputFault.TheVariants as fault
use Rattle.a1.specs.declared.finishing.Served.{Served}
use Rattle.a1.proofs.EndingLemmas.{Lawful, empty_legal}
use Rattle.a1.proofs.RunLemmas.{run_lawful}
use Rattle.a1.proofs.StepsLemmas.{steps_lawful}

lawful : (c : Command) → Lawful (rules_of c)
lawful (command.Run options) = run_lawful
lawful (command.Steps options) = steps_lawful options.nodes

-- ---- from what a command serves and writes to the table

append_none : (known : Option (List ℕ)) → append_known known [] ≡ known
append_none None = refl
append_none (Some bytes) = ap Some (append-nil bytes)

says_memory : (c : Option Command) (o : Outside) (run : Run) → run ≡ empty_run → Says c o.source cause.Memory [] run
says_memory None o run none = (refl, none)
says_memory (Some c) o run none = (refl, none)

module _ (o : Outside) (status : ℕ) (run : Run) (rests : IsUntouched o.store) where
  told : (c : Option Command) (why : Cause) (text : List ℕ) → Says c o.source why text run → Tells o.sink why text status → EndsWith c o status run
  told c why text says (extent, is, wrote) = record {
    ending = record { cause = why; extent = extent };
    is = is;
    ends = record { text = text; says = says; written = wrote; untouched = rests };
  }

  -- words that are no command
  pub ends_usage : run ≡ empty_run → Tells o.sink cause.Usage usage_text status → EndsWith None o status run
  ends_usage none tells = told None cause.Usage usage_text (refl, none) tells

  -- memory was wanting for the words
  pub ends_memory : (c : Option Command) → run ≡ empty_run → status ≡ 6 → o.sink.after ≡ o.sink.before → EndsWith c o status run
  ends_memory c none is same = told c cause.Memory [] (says_memory c o run none) (Whole, is, same ∙ sym (append_none o.sink.before))

  pub ends_served : (c : Command) (served : Result Served InputFault) → Serves (rules_of c) o.source served → Finishes served o.sink status run → EndsWith (Some c) o status run
  ends_served c (Ok served) serves (tells, same) = told (Some c) cause.Done served.text (subst (λ r. (rules_of c).IsServed o.source served.text r) (sym same) serves) tells
  ends_served c (Err fault.Failed) serves (why, text, (is, none), tells, left) = told (Some c) cause.Unread [] (serves, refl, left) (rw (← is, ← none) tells)
  ends_served c (Err fault.Memory) serves (why, text, (is, none), tells, left) = told (Some c) cause.Memory [] (refl, left) (rw (← is, ← none) tells)
  ends_served c (Err (fault.Line line)) serves (why, text, inl said, tells, left) = told (Some c) (cause.Malformed line) (bad_line_text line) (serves, refl, left) (rw (← said.0, ← said.1) tells)
  ends_served c (Err (fault.Line line)) serves (why, text, inr none, tells, left) = told (Some c) cause.Memory [] (refl, left) (rw (← none.0, ← none.1) tells)

-- a call that is not given the store leaves it untouched
pub ends_beside : (c : Option Command) (source sink : Side (List ℕ)) (status : ℕ) (run : Run) (store : Side (List (List ℕ))) → EndsWith c (outside source sink no_store) status run → IsUntouched store → EndsWith c (outside source sink store) status run
ends_beside c source sink status run store h rests = record {
  ending = h.ending;
  is = h.is;
  ends = record { text = h.ends.text; says = h.ends.says; written = h.ends.written; untouched = rests };
}

-- ---- from the table to the clauses of the top call

module _ (o : Outside) (run : Run) where
  -- what a command that the words name has served
  abbrev pub IsServedBy : Option Command → Type 0
  IsServedBy c = (d : Command) × (text : List ℕ) × (c ≡ Some d) × (rules_of d).IsServed o.source text run

  by_cause : (c : Option Command) (why : Cause) (text : List ℕ) → Says c o.source why text run → IsServedBy c ⊎ (run ≡ empty_run)
  by_cause (Some c) cause.Done text says = inl (c, text, refl, says)
  by_cause (Some c) cause.Usage text says = absurd says
  by_cause (Some c) cause.Unread text says = inr says.2
  by_cause (Some c) (cause.Malformed line) text says = inr says.2
  by_cause (Some c) cause.Memory text says = inr says.1
  by_cause None cause.Done text says = absurd says
  by_cause None cause.Usage text says = inr says.1
  by_cause None cause.Unread text says = absurd says
  by_cause None (cause.Malformed line) text says = absurd says
  by_cause None cause.Memory text says = inr says.1

  pub run_or_none : (c : Option Command) (status : ℕ) → EndsWith c o status run → IsServedBy c ⊎ (run ≡ empty_run)
  run_or_none c status h = by_cause c h.ending.cause h.ends.text h.ends.says

  pub legal : (c : Option Command) (status : ℕ) → EndsWith c o status run → IsLegalRun run
  legal c status h = ⊎_elim (λ (s : IsServedBy c). (lawful s.0).legal o.source s.1 run s.3) (empty_legal run) (run_or_none c status h)

  -- an ending whose text was written whole
  abbrev IsWhole : Option Command → Cause → ℕ → Type 0
  IsWhole c why status = (text : List ℕ) × Says c o.source why text run × IsWritten o.sink text × (status ≡ cause_status why)

  abbrev IsEnded : Option Command → Cause → ℕ → Type 0
  IsEnded c why status = IsWhole c why status ⊎ ((status ≡ 4) × HasFailed o.sink)

  ended : (c : Option Command) (status : ℕ) (h : EndsWith c o status run) → IsEnded c h.ending.cause status
  ended c status h = by h.ending.extent h.is h.ends.written
    where
      by : (extent : Extent) → status ≡ status_in extent h.ending.cause → Writes extent o.sink h.ends.text → IsEnded c h.ending.cause status
      by Whole is wrote = inl (h.ends.text, h.ends.says, wrote, is)
      by CutShort is wrote = inr (is, wrote.1)

  -- at a status other than 4 the text is written whole
  whole_at : (c : Option Command) (status n : ℕ) (h : EndsWith c o status run) → status ≡ n → n ≢ 4 → IsWhole c h.ending.cause n
  whole_at c status n h is other = ⊎_elim (λ (w : IsWhole c h.ending.cause status). subst (IsWhole c h.ending.cause) is w) (λ cut. absurd (other (sym is ∙ cut.0))) (ended c status h)

  pub done : (c : Option Command) (status : ℕ) → EndsWith c o status run → status ≡ 0 → (s : IsServedBy c) × IsWritten o.sink s.1
  done c status h is = by c h.ending.cause (whole_at c status 0 h is (λ e. omega arith))
    where
      by : (c : Option Command) (why : Cause) → IsWhole c why 0 → (s : IsServedBy c) × IsWritten o.sink s.1
      by (Some c) cause.Done w = ((c, w.0, refl, w.1), w.2)
      by None cause.Done w = absurd w.1
      by c why w = absurd (omega (arith, w.3))

  pub misused : (c : Option Command) (status : ℕ) → EndsWith c o status run → status ≡ 2 → (c ≡ None) × IsWritten o.sink usage_text × (run ≡ empty_run)
  misused c status h is = by c h.ending.cause (whole_at c status 2 h is (λ e. omega arith))
    where
      by : (c : Option Command) (why : Cause) → IsWhole c why 2 → (c ≡ None) × IsWritten o.sink usage_text × (run ≡ empty_run)
      by None cause.Usage w = (refl, subst (IsWritten o.sink) w.1.0 w.2, w.1.1)
      by (Some c) cause.Usage w = absurd w.1
      by c why w = absurd (omega (arith, w.3))

  pub unread : (c : Option Command) (status : ℕ) → EndsWith c o status run → status ≡ 3 → HasFailed o.source × (o.sink.after ≡ o.sink.before) × (run ≡ empty_run)
  unread c status h is = by c h.ending.cause (whole_at c status 3 h is (λ e. omega arith))
    where
      by : (c : Option Command) (why : Cause) → IsWhole c why 3 → HasFailed o.source × (o.sink.after ≡ o.sink.before) × (run ≡ empty_run)
      by (Some c) cause.Unread w = (w.1.0, subst (IsWritten o.sink) w.1.1 w.2 ∙ append_none o.sink.before, w.1.2)
      by None cause.Unread w = absurd w.1
      by c why w = absurd (omega (arith, w.3))

  abbrev pub IsLineSaid : Option Command → Type 0
  IsLineSaid c = (d : Command) × (line : ℕ) × (c ≡ Some d) × IfSome o.source.before (λ bytes. (rules_of d).IsMalformed bytes line) × IsWritten o.sink (bad_line_text line)

  pub malformed : (c : Option Command) (status : ℕ) → EndsWith c o status run → status ≡ 8 → IsLineSaid c × (run ≡ empty_run)
  malformed c status h is = by c h.ending.cause (whole_at c status 8 h is (λ e. omega arith))
    where
      by : (c : Option Command) (why : Cause) → IsWhole c why 8 → IsLineSaid c × (run ≡ empty_run)
      by (Some c) (cause.Malformed line) w = ((c, line, refl, w.1.0, subst (IsWritten o.sink) w.1.1 w.2), w.1.2)
      by None (cause.Malformed line) w = absurd w.1
      by c why w = absurd (omega (arith, w.3))

  -- the same of the command that the words name
  pub served : (d : Command) (status : ℕ) → EndsWith (Some d) o status run → status ≡ 0 → (text : List ℕ) × (rules_of d).IsServed o.source text run × IsWritten o.sink text
  served d status h is =
      let s = done (Some d) status h is in
      let same : s.0.0 ≡ d = (let e : Some d ≡ Some s.0.0 = s.0.2 in cc) in
      (s.0.1, subst (λ k. (rules_of k).IsServed o.source s.0.1 run) same s.0.3, s.1)

  pub line_said : (d : Command) (status : ℕ) → EndsWith (Some d) o status run → status ≡ 8
      → (line : ℕ) × IfSome o.source.before (λ bytes. (rules_of d).IsMalformed bytes line) × IsWritten o.sink (bad_line_text line)
  line_said d status h is =
      let s = (malformed (Some d) status h is).0 in
      let same : s.0 ≡ d = (let e : Some d ≡ Some s.0 = s.2 in cc) in
      (s.1, subst (λ k. IfSome o.source.before (λ bytes. (rules_of k).IsMalformed bytes s.1)) same s.3, s.4)

  pub unwritten : (c : Option Command) (status : ℕ) → EndsWith c o status run → status ≡ 4 → HasFailed o.sink
  unwritten c status h is = ⊎_elim (λ w. absurd (by h.ending.cause (sym w.3 ∙ is))) (λ cut. cut.1) (ended c status h)
    where
      by : (why : Cause) → cause_status why ≡ 4 → ⊥
      by cause.Done e = omega (arith, e)
      by cause.Usage e = omega (arith, e)
      by cause.Unread e = omega (arith, e)
      by (cause.Malformed line) e = omega (arith, e)
      by cause.Memory e = omega (arith, e)

  pub no_run : (c : Option Command) (status : ℕ) → EndsWith c o status run → ((status ≡ 2) ⊎ (status ≡ 3) ⊎ (status ≡ 8)) → run ≡ empty_run
  no_run c status h (inl two) = (misused c status h two).2
  no_run c status h (inr (inl three)) = (unread c status h three).2
  no_run c status h (inr (inr eight)) = (malformed c status h eight).1

  -- a text of the command's grammar and no fault: all is written, unless memory was wanting
  pub whole : (d : Command) (status : ℕ) (bytes : List ℕ) → EndsWith (Some d) o status run → o.source.before ≡ Some bytes → (rules_of d).IsText bytes → ¬ HasFailed o.source → ¬ HasFailed o.sink → (status ≡ 0) ⊎ (status ≡ 6)
  whole d status bytes h holds is read wrote = ⊎_elim (by h.ending.cause) (λ cut. absurd (wrote cut.1)) (ended (Some d) status h)
    where
      by : (why : Cause) → IsWhole (Some d) why status → (status ≡ 0) ⊎ (status ≡ 6)
      by cause.Done w = inl w.3
      by cause.Memory w = inr w.3
      by cause.Usage w = absurd w.1
      by cause.Unread w = absurd (read w.1.0)
      by (cause.Malformed line) w = absurd ((lawful d).apart bytes line is (subst (λ s. IfSome s (λ b. (rules_of d).IsMalformed b line)) holds w.1.0))

  -- a text that breaks the command's grammar and no fault: the line is said, unless memory was wanting
  pub broken : (d : Command) (status : ℕ) (bytes : List ℕ) (line : ℕ) → EndsWith (Some d) o status run → o.source.before ≡ Some bytes → (rules_of d).IsMalformed bytes line → ¬ HasFailed o.source → ¬ HasFailed o.sink → (status ≡ 8) ⊎ (status ≡ 6)
  broken d status bytes line h holds bad read wrote = ⊎_elim (by h.ending.cause) (λ cut. absurd (wrote cut.1)) (ended (Some d) status h)
    where
      by : (why : Cause) → IsWhole (Some d) why status → (status ≡ 8) ⊎ (status ≡ 6)
      by (cause.Malformed n) w = inl w.3
      by cause.Memory w = inr w.3
      by cause.Usage w = absurd w.1
      by cause.Unread w = absurd (read w.1.0)
      by cause.Done w = absurd ((lawful d).served_apart o.source bytes w.0 run line holds w.1 bad)

  -- other words: the usage is said, unless the sink failed or memory was wanting
  pub other_words : (status : ℕ) → EndsWith None o status run → ¬ HasFailed o.sink → (status ≡ 2) ⊎ (status ≡ 6)
  other_words status h wrote = ⊎_elim (by h.ending.cause) (λ cut. absurd (wrote cut.1)) (ended None status h)
    where
      by : (why : Cause) → IsWhole None why status → (status ≡ 2) ⊎ (status ≡ 6)
      by cause.Usage w = inl w.3
      by cause.Memory w = inr w.3
      by cause.Done w = absurd w.1
      by cause.Unread w = absurd w.1
      by (cause.Malformed line) w = absurd w.1
