-- Rows, one column after another.
use Rattle.std.proofs.Common.{◌≡◌, ℕ, List, [], ◌++◌, Option, Some, None, refl}
use Rattle.a1_value.specs.declared.value.Value.{Value}
use Rattle.a1ql_plan.specs.Answer.{member_before}

pub one_member : (name : List ℕ) (v : Option Value) (members : List (List ℕ × Value)) → member_before name v members ≡ member_before name v [] ++ members
one_member name None members = refl
one_member name (Some v) members = refl
