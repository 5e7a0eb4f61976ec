use Rattle.std.proofs.Common.{◌∙◌, Some, refl, sym, ap}
use Rattle.a1.proofs.TableLemmas.{ends_usage, ends_beside, ends_memory}
use Rattle.a1.proofs.top.dispatch.Goals as goal

pub returns-in-Ok-None : goal.returns-in-Ok-None
returns-in-Ok-None g c = rw (← c.in-Ok-None.ensures, c.in-Ok-None.field-0-is, c.without_run-in-Ok-None.ensures) (ends_usage _ _ _ (refl, refl) refl c.say_usage.ensures)

pub returns-in-Err : goal.returns-in-Err
returns-in-Err g c = rw c.without_run-in-Err.ensures (ends_memory _ _ _ (refl, refl) _ refl refl refl)

pub returns-in-Ok-Some-Steps : goal.returns-in-Ok-Some-Steps
returns-in-Ok-Some-Steps g c =
    let named = c.in-Ok-Some-Steps in
    let is = named.field-0-is ∙ ap Some named.field-0-0-is in
    rw (← named.ensures, is, c.without_run.ensures)
    (ends_beside _ _ _ _ _ _ (c.steps_call.ensures.steps named.field-0-0-0 (sym named.ensures ∙ is)) (refl, refl))
