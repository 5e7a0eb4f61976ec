-- For the clauses of the reader's own functions.
use Rattle.std.specs.Prelude.{◌≡◌, ℕ, List, Result, Err, ⊤}
use Rattle.run_text.specs.declared.script.ScriptFault.{ScriptFault}
use Rattle.run_text.specs.declared.script.ScriptFault.TheVariants.{Line, Memory}
use Rattle.run_text.specs.Script.{Entries}

-- a request of session 1
abbrev pub in_first : List ℕ → ℕ × List ℕ
in_first request = (1, request)

-- a fault names the first line that breaks the grammar
abbrev pub IsEntriesFault : ScriptFault → Result Entries ℕ → Type 0
IsEntriesFault (Line n) entries = entries ≡ Err n
IsEntriesFault Memory entries = ⊤
