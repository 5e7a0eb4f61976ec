use Rattle.std.proofs.Common.{[], ◌++◌, sym, ap, ◌∙◌, append-nil}
use Rattle.a1ql_plan.specs.Answer.{member_before}
use Rattle.a1ql_answer.proofs.rows.push_member.Goals as goal

pub returns-in_default : goal.returns-in_default
returns-in_default c =
    sym (ap (λ v. c.args.members.now ++ member_before c.args.column.now.name v []) (sym c.in_default.ensures) ∙ append-nil c.args.members.now)
