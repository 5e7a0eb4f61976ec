use Rattle.std.proofs.Common.{refl}
use Rattle.a1.specs.declared.words.Command.TheVariants as command
use Rattle.a1.proofs.TableLemmas.{ends_usage, ends_memory, ends_served}
use Rattle.a1.proofs.run_command.run_call.Goals as goal

pub returns-in-Ok-clause-others : goal.returns-in-Ok-clause-others
returns-in-Ok-clause-others g c = λ no. rw c.without_run.ensures (ends_usage _ _ _ (refl, refl) refl c.say_usage.ensures)

pub returns-in-Err-clause-runs : goal.returns-in-Err-clause-runs
returns-in-Err-clause-runs g c = λ options is. rw c.without_run-in-Err.ensures (ends_memory _ _ _ (refl, refl) _ refl refl refl)

pub returns-in-Err-clause-others : goal.returns-in-Err-clause-others
returns-in-Err-clause-others g c = λ no. rw c.without_run-in-Err.ensures (ends_memory _ _ _ (refl, refl) _ refl refl refl)

pub returns-in-Ok-Some-Run-clause-runs : goal.returns-in-Ok-Some-Run-clause-runs
returns-in-Ok-Some-Run-clause-runs g c = λ options is. ends_served _ _ _ (refl, refl) (command.Run options) c.serve_run-served.result c.serve_run-served.ensures c.finish.ensures
