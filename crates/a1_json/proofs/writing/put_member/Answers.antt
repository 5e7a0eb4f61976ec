use Rattle.std.proofs.Common.{◌≡◌, ap, ◌∙◌, string_bytes}
use Rattle.serde_json.specs.Data.{put}
use Rattle.serde_json.specs.View.{view, members_view}
use Rattle.serde_json.proofs.Views.{members_view-insert_entry}
use Rattle.a1_json.proofs.writing.put_member.Goals as goal

pub returns-clause-ok : goal.returns-clause-ok
returns-clause-ok c =
    let before = c.args.object.now.entries in
    let name : string_bytes c.in_ok-from_str.field-0 ≡ c.args.name.now = c.in_ok-from_str.ensures.ok ∙ c.as_text.ensures in
    ap members_view c.in_ok-insert.ensures.entries ∙ members_view-insert_entry before _ c.args.value
    ∙ ap (λ k. put k (view c.args.value) (members_view before)) name
