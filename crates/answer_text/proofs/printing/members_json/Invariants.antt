use Rattle.std.proofs.Common.{◌≡◌, map, drop}
use Rattle.serde_json.specs.View.{members_view}
use Rattle.a1_json.specs.Written.{put_all}
use Rattle.answer_text.specs.Reply.{value_data, row_members}
use Rattle.answer_text.proofs.printing.members_json.Given as goal

abbrev pub invariant-loop-member : goal.invariant-loop-member
invariant-loop-member l =
    put_all (members_view l.map.entries) (map (λ m. (m.0, value_data m.1)) (drop l.member-index l.members)) ≡ row_members l.members
