use Rattle.std.proofs.Common.{◌≡◌, ◌≤◌, length, take, vec_capacity}
use Rattle.farm_core.proofs.Words.{State, Stands, RunsTo}
use Rattle.farm_core.proofs.farm.Farm.run.Given as goal

abbrev pub invariant-loop-event : goal.invariant-loop-event
invariant-loop-event l = record {
  known : (s : State) × Stands l.self s;
  ran : (s : State) → Stands l.fn.self s → RunsTo s (take l.event-index l.events) l.answers.items (Stands l.self);
  count : length l.answers.items ≡ l.event-index;
  room : length l.events ≤ vec_capacity l.answers;
  nodes : length l.self.nodes.items ≡ length l.fn.self.nodes.items;
}
