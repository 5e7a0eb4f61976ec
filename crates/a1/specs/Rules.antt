-- What a command gives: its rules.
use Rattle.std.specs.Prelude.{◌≡◌, ◌<◌, ℕ, ⊤, List, length, Result, Ok, Err, IfSome}
use Rattle.a1_base.specs.declared.limits.TheConstants.{SCRIPT_LIMIT}
use Rattle.run_text.specs.declared.run.Run.{Run}
use Rattle.a1.specs.Outside.{Side, HasFailed}
use Rattle.a1.specs.declared.input.InputFault.{InputFault}
use Rattle.a1.specs.declared.input.InputFault.TheVariants as fault
use Rattle.a1.specs.declared.finishing.Served.{Served}

pub record Rules : Type 1 where
  -- the bytes are a text of the command's grammar
  pub IsText : List ℕ → Type 0
  -- this is the first line of the bytes that breaks it; 0 where they are too many
  pub IsMalformed : List ℕ → ℕ → Type 0
  -- what is served of this source: the text that is written, and the run
  pub IsServed : Side (List ℕ) → List ℕ → Run → Type 0

-- what keeps a source from being served, where this holds of its bytes and of the line that breaks the grammar
abbrev pub IsInputFault : (List ℕ → ℕ → Type 0) → Side (List ℕ) → InputFault → Type 0
IsInputFault IsBad source fault.Failed = HasFailed source
IsInputFault IsBad source (fault.Line line) = IfSome source.before (λ bytes. IsBad bytes line)
IsInputFault IsBad source fault.Memory = ⊤

-- the bytes are more than a script may have, and the line is 0
abbrev pub IsTooLong : List ℕ → ℕ → Type 0
IsTooLong bytes line = (line ≡ 0) × (SCRIPT_LIMIT < length bytes)

-- the command served what the source held, or has a cause not to
abbrev pub Serves : Rules → Side (List ℕ) → Result Served InputFault → Type 0
Serves rules source (Ok served) = rules.IsServed source served.text served.run
Serves rules source (Err why) = IsInputFault rules.IsMalformed source why
