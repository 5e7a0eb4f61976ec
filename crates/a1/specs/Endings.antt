-- How a command ends: its status, and what it writes.
use Rattle.std.specs.Prelude.{◌≡◌, ◌⊎◌, ℕ, List, [], ◌++◌, Result, Ok, Err, codes, decimal}
use Rattle.run_text.specs.Run.{empty_run}
use Rattle.run_text.specs.declared.run.Run.{Run}
use Rattle.a1.specs.Outside.{Side, IsWritten, IsCutShort}
use Rattle.a1.specs.declared.ending.Cause.{Cause}
use Rattle.a1.specs.declared.ending.Cause.TheVariants as cause
use Rattle.a1.specs.declared.ending.Extent.{Extent}
use Rattle.a1.specs.declared.ending.Extent.TheVariants.{Whole, CutShort}
use Rattle.a1.specs.declared.ending.Ending.{Ending}
use Rattle.a1.specs.declared.input.InputFault.{InputFault}
use Rattle.a1.specs.declared.input.InputFault.TheVariants as fault
use Rattle.a1.specs.declared.finishing.Served.{Served}

abbrev pub usage_text : List ℕ
usage_text = codes "usage\n"

abbrev pub bad_line_text : ℕ → List ℕ
bad_line_text n = codes "script " ++ decimal n ++ codes "\n"

-- ---- statuses

abbrev pub cause_status : Cause → ℕ
cause_status cause.Done = 0
cause_status cause.Usage = 2
cause_status cause.Unread = 3
cause_status cause.Memory = 6
cause_status (cause.Malformed line) = 8

-- a text that was cut short has the status 4, whatever it says
abbrev pub status_in : Extent → Cause → ℕ
status_in Whole why = cause_status why
status_in CutShort why = 4

abbrev pub status_of : Ending → ℕ
status_of e = status_in e.extent e.cause

-- ---- texts

abbrev pub Writes : Extent → Side (List ℕ) → List ℕ → Type 0
Writes Whole sink text = IsWritten sink text
Writes CutShort sink text = IsCutShort sink text

-- the text of this cause is written, whole or cut short, with that status
abbrev pub Tells : Side (List ℕ) → Cause → List ℕ → ℕ → Type 0
Tells sink why text status = (extent : Extent) × (status ≡ status_in extent why) × Writes extent sink text

-- what is said where a text was not served; of a line nothing, where memory is wanting for the text
abbrev pub SaysFault : InputFault → Cause → List ℕ → Type 0
SaysFault fault.Failed why text = (why ≡ cause.Unread) × (text ≡ [])
SaysFault fault.Memory why text = (why ≡ cause.Memory) × (text ≡ [])
SaysFault (fault.Line n) why text =
    ((why ≡ cause.Malformed n) × (text ≡ bad_line_text n)) ⊎ ((why ≡ cause.Memory) × (text ≡ []))

-- what was served is told, or why nothing was
abbrev pub Finishes : Result Served InputFault → Side (List ℕ) → ℕ → Run → Type 0
Finishes (Ok served) sink status run = Tells sink cause.Done served.text status × (run ≡ served.run)
Finishes (Err why) sink status run =
    (told : Cause) × (text : List ℕ) × SaysFault why told text × Tells sink told text status × (run ≡ empty_run)
