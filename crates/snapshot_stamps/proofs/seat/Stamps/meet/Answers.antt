use Rattle.std.proofs.Common.{rules, ap, ◌∙◌}
use Rattle.snapshot_stamps.proofs.Steps.{Mine, joins, met}
use Rattle.snapshot_stamps.proofs.seat.Stamps.meet.Goals as goal

pub join_seat-requires : goal.join_seat-requires
join_seat-requires c = (search rules, search rules, search rules, search rules, joins _ _ _ _ _ _)

pub returns-clause-met : goal.returns-clause-met
returns-clause-met c = ap (λ (m : Mine). m.0) c.join_seat.ensures.2 ∙ met _ _ c.args.note.bare
