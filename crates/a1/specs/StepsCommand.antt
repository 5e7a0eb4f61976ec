-- The command `steps`: what it serves of a text of events, for a farm of this many nodes.
use Rattle.std.specs.Prelude.{◌≡◌, ℕ, List, [], ◌∷◌, ◌++◌, Option, IfSome}
use Rattle.std.specs.List.{flat_map}
use Rattle.farm_core.specs.Machine.{State, fresh, Runs}
use Rattle.farm_core.specs.declared.event.Event.{Event}
use Rattle.farm_core.specs.declared.event.Answer.{Answer}
use Rattle.steps_text.specs.EventText.{answer_text, IsTextOf, IsFaultOf}
use Rattle.steps_text.specs.declared.fault.TextFault.TheVariants.{Line}
use Rattle.run_text.specs.Run.{empty_run}
use Rattle.a1.specs.Outside.{IsReadWhole}
use Rattle.a1.specs.Rules.{Rules}

-- a new farm's answers to these events
abbrev pub AreAnswers : ℕ → List Event → List Answer → Type 0
AreAnswers nodes events answers = (state : State) × Runs (fresh nodes) events answers state

-- each answer's text, with the end of its line
abbrev pub answers_text : List Answer → List ℕ
answers_text answers = flat_map (λ answer. answer_text answer ++ 10 ∷ []) answers

-- the text is that of the machine's answers to the events, one after another, from its start on
pub record IsAnswered (nodes : ℕ) (events : List Event) (text : List ℕ) : Type 0 where
  pub answers : List Answer
  pub answered : AreAnswers nodes events answers
  pub printed : text ≡ answers_text answers

-- the text is that of the answers to the script's events, where the source tells them
pub record IsStepped (nodes : ℕ) (script : Option (List ℕ)) (text : List ℕ) : Type 0 where
  pub events : List Event
  pub of : IfSome script (λ bytes. IsTextOf nodes bytes events)
  pub answered : IsAnswered nodes events text

-- there is no run, and the source is read to its end
abbrev pub steps_rules : ℕ → Rules
steps_rules nodes = record {
  IsText = λ bytes. (events : List Event) × IsTextOf nodes bytes events;
  IsMalformed = λ bytes line. IsFaultOf nodes bytes (Line line);
  IsServed = λ source text run. IsStepped nodes source.before text × (run ≡ empty_run) × IsReadWhole source;
}
