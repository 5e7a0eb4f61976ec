-- The table of endings, for every command.
use Rattle.std.specs.Prelude.{◌≡◌, ℕ, List, [], Option, Some, None, IfSome}
use Rattle.run_text.specs.Run.{empty_run}
use Rattle.run_text.specs.declared.run.Run.{Run}
use Rattle.a1.specs.Outside.{Side, Outside, HasFailed, IsUntouched}
use Rattle.a1.specs.Endings.{usage_text, bad_line_text, status_of, Writes}
use Rattle.a1.specs.Rules.{Rules}
use Rattle.a1.specs.RunCommand.{run_rules}
use Rattle.a1.specs.StepsCommand.{steps_rules}
use Rattle.a1.specs.declared.words.Command.{Command}
use Rattle.a1.specs.declared.words.Command.TheVariants as command
use Rattle.a1.specs.declared.ending.Cause.{Cause}
use Rattle.a1.specs.declared.ending.Cause.TheVariants as cause
use Rattle.a1.specs.declared.ending.Ending.{Ending}

abbrev pub rules_of : Command → Rules
rules_of (command.Run options) = run_rules
rules_of (command.Steps options) = steps_rules options.nodes

-- why a command, or words that are none, may end so over this source, with which text and which run
abbrev pub Says : Option Command → Side (List ℕ) → Cause → List ℕ → Run → Type 0
Says (Some c) source cause.Done text run = (rules_of c).IsServed source text run
Says (Some c) source cause.Unread text run = HasFailed source × (text ≡ []) × (run ≡ empty_run)
Says (Some c) source (cause.Malformed line) text run =
    IfSome source.before (λ bytes. (rules_of c).IsMalformed bytes line) × (text ≡ bad_line_text line)
    × (run ≡ empty_run)
Says None source cause.Usage text run = (text ≡ usage_text) × (run ≡ empty_run)
Says c source cause.Memory text run = (text ≡ []) × (run ≡ empty_run)
Says c source why text run = ⊥

-- the text of the cause is written, whole or cut short, and the store is not touched
pub record Ends (c : Option Command) (o : Outside) (e : Ending) (run : Run) : Type 0 where
  pub text : List ℕ
  pub says : Says c o.source e.cause text run
  pub written : Writes e.extent o.sink text
  pub untouched : IsUntouched o.store

-- some ending of the table has this status
pub record EndsWith (c : Option Command) (o : Outside) (status : ℕ) (run : Run) : Type 0 where
  pub ending : Ending
  pub is : status ≡ status_of ending
  pub ends : Ends c o ending run
