-- A state and its events decide what is answered, and the state that is left.
use Rattle.std.specs.Prelude.{◌≡◌, List}
use Rattle.farm_core.specs.declared.event.Event.{Event}
use Rattle.farm_core.specs.declared.event.Answer.{Answer}
use Rattle.farm_core.specs.Machine.{State, Runs}

abbrev pub OneRun : Type 0
OneRun =
    (s first second : State) (events : List Event) (xs ys : List Answer) → Runs s events xs first
    → Runs s events ys second → (xs ≡ ys) × (first ≡ second)
