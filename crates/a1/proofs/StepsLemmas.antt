-- Events of a farm, and what the rules of the command `steps` give.
use Rattle.std.proofs.Common.{◌≡◌, ◌∙◌, inl, inr, ℕ, List, [], ◌∷◌, Result, Ok, Err, sym, subst, arith}
use Rattle.std.specs.Prelude.{IfOk, IfSome}
use Rattle.std.specs.List.{All, AllByRecursion}
use Rattle.std.proofs.lemmas.List.Elements.{All-from_recursion}
use Rattle.farm_core.specs.Machine.{State, fresh, InRange, Runs}
use Rattle.farm_core.specs.Cores.{Shown, CoreStands, node_count}
use Rattle.farm_core.specs.declared.event.Event.{Event}
use Rattle.farm_core.specs.declared.event.Answer.{Answer}
use Rattle.steps_text.specs.EventText.{IsEvent, IsTextOf, IsFaultOf}
use Rattle.steps_text.specs.declared.fault.TextFault.TheVariants.{Line}
use Rattle.steps_text.proofs.OneReading.{not_broken}
use Rattle.run_text.specs.Run.{empty_run}
use Rattle.run_text.specs.declared.run.Run.{Run}
use Rattle.a1.specs.Outside.{Side}
use Rattle.a1.specs.Endings.{Finishes}
use Rattle.a1.specs.Rules.{Serves}
use Rattle.a1.specs.declared.input.InputFault.{InputFault}
use Rattle.a1.specs.declared.finishing.Served.{Served}
use Rattle.a1.specs.StepsCommand.{steps_rules, AreAnswers}
use Rattle.a1.proofs.EndingLemmas.{Lawful, empty_legal}

each_in_range : (nodes : ℕ) (events : List Event) → AllByRecursion (IsEvent nodes) events → AllByRecursion (InRange nodes) events
each_in_range nodes [] each = tt
each_in_range nodes (e ∷ es) each = (each.0.0, each_in_range nodes es each.1)

-- a core that stands for the fresh farm takes the events of a farm of as many nodes
pub takes_events : (core : Shown) (nodes : ℕ) (events : List Event) → CoreStands core (fresh nodes) → AllByRecursion (IsEvent nodes) events → All (InRange (node_count core)) events
takes_events core nodes events stands each = subst (λ n. All (InRange n) events) (sym stands.nodes_stand.number) (All-from_recursion (InRange nodes) events (each_in_range nodes events each))

-- the answers of a run from the fresh farm on
pub if_answered : {V E : Type 0} (nodes : ℕ) (r : Result V E) (items : V → List Answer) (core : Shown) (events : List Event)
    → IfOk r (λ v. (later : State) × Runs (fresh nodes) events (items v) later × CoreStands core later) → IfOk r (λ v. AreAnswers nodes events (items v))
if_answered nodes (Ok v) items core events ran = (ran.0, ran.1)
if_answered nodes (Err e) items core events ran = ran

-- a text of events has no line that is no event's
text_not_broken : (nodes : ℕ) (bytes : List ℕ) (events : List Event) (line : ℕ) → IsTextOf nodes bytes events → IsFaultOf nodes bytes (Line line) → ⊥
text_not_broken nodes bytes events line text (inl long) = omega (arith, text.short, long.0)
text_not_broken nodes bytes events line text (inr broken) = not_broken nodes events broken.events bytes broken.rest text.each text.lines broken.breaks

-- whatever comes of a text of events, there is no run
pub no_run : (nodes : ℕ) (source sink : Side (List ℕ)) (status : ℕ) (run : Run) (served : Result Served InputFault) → Serves (steps_rules nodes) source served → Finishes served sink status run → run ≡ empty_run
no_run nodes source sink status run (Ok served) serves finishes = finishes.1 ∙ serves.1
no_run nodes source sink status run (Err why) serves finishes = finishes.4

pub steps_lawful : (nodes : ℕ) → Lawful (steps_rules nodes)
steps_lawful nodes = record {
  legal = λ source text run served. empty_legal run served.1;
  apart = λ bytes line is bad. text_not_broken nodes bytes is.0 line is.1 bad;
  served_apart = λ source bytes text run line holds served bad.
      let events = served.0.events in
      text_not_broken nodes bytes events line (subst (λ s. IfSome s (λ b. IsTextOf nodes b events)) holds served.0.of) bad;
}
