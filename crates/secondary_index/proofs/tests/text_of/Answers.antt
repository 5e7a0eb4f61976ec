use Rattle.std.proofs.Common.{◌≤◌, List, ℕ, length, arith, sym, subst}
use Rattle.std.specs.Bool.{IsTrue}
use Rattle.std.specs.Str.{is_utf8}
use Rattle.std.proofs.lemmas.Str.{is_utf8-from_IsUtf8}
use Rattle.a1_base.specs.declared.limits.TheConstants.{KEY_LIMIT}
use Rattle.secondary_index.proofs.tests.text_of.Goals as goal

pub returns : goal.returns
returns c =
    subst (λ (t : List ℕ). IsTrue (is_utf8 t) × (length t ≤ KEY_LIMIT)) (sym c.in_ok-from_text.ensures)
    (is_utf8-from_IsUtf8 c.args.text.now c.utf8.text, omega (arith, c.if-text-gt-KEY_LIMIT.false))
