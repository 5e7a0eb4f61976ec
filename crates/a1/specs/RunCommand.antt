-- The command `run`: what it serves of a script.
use Rattle.std.specs.Prelude.{◌≡◌, ℕ, List, [], map, Option, Err, IsOk, IfSome}
use Rattle.a1_base.specs.declared.limits.TheConstants.{OPENING_STAMP}
use Rattle.type_schema.specs.Graph.{opening}
use Rattle.answer_text.specs.Transcript.{text_of}
use Rattle.answer_text.specs.Legal.{IsLegal}
use Rattle.answer_text.specs.declared.transcript.Transcript.{Transcript}
use Rattle.run_text.specs.Script.{script_of, asked_in, IsOf}
use Rattle.run_text.specs.declared.run.Run.{Run}
use Rattle.run_text.specs.declared.run.Commit2.{Commit2}
use Rattle.a1.specs.Outside.{IsReadWhole}
use Rattle.a1.specs.Rules.{Rules}

-- the stamps of the commits of actors that are no session
abbrev pub background_stamps : Run → List ℕ
background_stamps run = map (λ (c : Commit2). c.stamp) run.background

-- the replies of a run are one legal history, from the opening graph at the run's base on
abbrev pub IsLegalRun : Run → Type 0
IsLegalRun run = IsLegal opening run.base run.sessions (background_stamps run)

-- the run is that of the script, where the source tells it, from the opening stamp on, with no background
pub record IsRunOf (script : Option (List ℕ)) (run : Run) : Type 0 where
  pub of : IfSome script (IsOf run.sessions)
  pub base : run.base ≡ OPENING_STAMP
  pub alone : run.background ≡ []
  pub legal : IsLegalRun run

-- the text is the transcript of the run, and the source is read to its end
abbrev pub run_rules : Rules
run_rules = record {
  IsText = λ bytes. IsOk (script_of bytes);
  IsMalformed = λ bytes line. script_of bytes ≡ Err line;
  IsServed = λ source text run. IsRunOf source.before run × (text ≡ text_of run.sessions) × IsReadWhole source;
}

-- the transcript of these sessions
pub record AreServed (script : List (ℕ × List (List ℕ))) (sessions : List Transcript) : Type 0 where
  pub of : asked_in sessions ≡ script
  pub legal : IsLegal opening OPENING_STAMP sessions []
