-- Every run leaves a good state.
use Rattle.std.proofs.Common.{ℕ, ◌<◌, ◌≤◌, List, [], ◌∷◌, sym, refl, subst, ⊎_elim}
use Rattle.farm_core.proofs.Words.{NODE_LIMIT, read_answer, lock_answer, check_answer, Event, Answer, State, node_of, Meets, Acts, Steps, InRange, Runs, fresh}
use Rattle.farm_core.specs.declared.event.Event.TheVariants as event
use Rattle.farm_core.proofs.Good.{Good}
use Rattle.farm_core.proofs.First.{good_fresh, good_load}
use Rattle.farm_core.proofs.Events.{good_read, good_alloc, good_lock, good_draw, good_check, good_put, good_unlock, good_collect}
use Rattle.farm_core.proofs.Opens.{good_begin, good_shut}

good_act : (s : State) (e : Event) (x : Answer) (next : State) → Good s → InRange s.nodes e → Meets s e → Acts s e x next → Good next
good_act s (event.Load a bytes) x next g range meets acts = subst Good (sym acts.1) (good_load s a bytes g range.0 meets.0 meets.1)
good_act s (event.Begin t) x next g range meets acts = good_begin s g t range.0 range.1 meets.0 meets.1 next acts.1
good_act s (event.Read t a) x next g range meets acts = good_read s g t a (read_answer (s.transactions t).read_stamp ((node_of s a).cells a)) x next meets.0 refl acts
good_act s (event.Alloc t n bytes) x next g range meets acts = good_alloc s g t n bytes x next meets range.1 acts
good_act s (event.Lock t a value) x next g range meets acts = good_lock s g t a value (lock_answer t (s.transactions t).read_stamp ((node_of s a).cells a)) x next meets.0 meets.1 refl acts
good_act s (event.Draw t) x next g range meets acts = good_draw s g t x next meets.0 acts
good_act s (event.Check t a) x next g range meets acts = good_check s g t a (check_answer (s.transactions t).read_stamp ((node_of s a).cells a)) x next meets.0 meets.2 refl acts
good_act s (event.Put t a) x next g range meets acts = good_put s g t a next meets.0 meets.1 meets.2 acts.1
good_act s (event.Unlock t a) x next g range meets acts = good_unlock s g t a next (⊎_elim (λ at. at.0) (λ more. ⊎_elim (λ at. at.0) (λ at. at.0) more) meets.0) meets.1 acts.1
good_act s (event.Shut t) x next g range meets acts = good_shut s g t meets.0 meets.1 next acts.1
good_act s (event.Collect n) x next g range meets acts = good_collect s g n x next range acts

pub good_step : (s : State) (e : Event) (x : Answer) (next : State) → Good s → InRange s.nodes e → Steps s e x next → Good next
good_step s e x next g range step = ⊎_elim (λ done. good_act s e x next g range done.0 done.1) (λ lacks. subst Good (sym lacks.1.1) g) step

good_runs : (events : List Event) (s : State) (answers : List Answer) (end : State) → Good s → Runs s events answers end → Good end
good_runs [] s [] end g runs = subst Good (sym runs) g
good_runs (e ∷ es) s (x ∷ xs) end g runs = let step = runs.1 in good_runs es step.0 xs end (good_step s e x step.0 g runs.0 step.1) step.2
good_runs events s answers end g runs = absurd runs

pub good_run : (nodes : ℕ) (events : List Event) (answers : List Answer) (s : State) → 0 < nodes → nodes ≤ NODE_LIMIT → Runs (fresh nodes) events answers s → Good s
good_run nodes events answers s low high runs = good_runs events (fresh nodes) answers s (good_fresh nodes low high) runs
