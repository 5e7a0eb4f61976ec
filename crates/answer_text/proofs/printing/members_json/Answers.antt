use Rattle.std.proofs.Common.{◌≡◌, ℕ, ◌+◌, List, ◌∷◌, sym, ap, ◌∙◌, map, drop}
use Rattle.std.proofs.lemmas.List.{at_drop_more}
use Rattle.serde_json.specs.Data.{Members, put}
use Rattle.serde_json.specs.View.{members_view}
use Rattle.a1_json.specs.Written.{put_all}
use Rattle.a1_value.specs.declared.value.Value.{Value}
use Rattle.answer_text.specs.Reply.{value_data}
use Rattle.answer_text.proofs.printing.members_json.Goals as goal

pub loop-member-preserved : goal.loop-member-preserved
loop-member-preserved c =
    let ms = c.args.members.now in
    let i = c.loop-member.member-index in
    let es = members_view c.loop-member.map.entries in
    let item = c.member-item.result in
    let F : Members → List (List ℕ × Value) → Members = λ done xs. put_all done (map (λ m. (m.0, value_data m.1)) xs) in
    let step = at_drop_more (F es) ms i item c.loop-member-test.true in
    let added : members_view c.put_member.new.object.entries ≡ put item.0 (value_data item.1) es =
    c.in_ok-put_member.ensures.ok ∙ ap (λ d. put item.0 d es) c.in_ok-value_json.ensures in
    ap (λ d. F d (drop (i + 1) ms)) added ∙ sym (step ∙ ap (λ x. F es (x ∷ drop (i + 1) ms)) (sym c.member-item.is)) ∙ c.loop-member.invariant
