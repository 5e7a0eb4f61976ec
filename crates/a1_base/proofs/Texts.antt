-- Bytes that are a text, as a test.
use Rattle.std.proofs.Common.{◌≡◌, ℕ, List, cond, Some, None, sym, ap, ◌∙◌}
use Rattle.std.specs.Str.{IsUtf8, is_utf8}
use Rattle.std.proofs.lemmas.Str.{is_utf8-from_IsUtf8, IsUtf8-from_is_utf8}
use Rattle.std.proofs.lemmas.Bool.{false_from_ne_true}

pub is_text : (text bytes : List ℕ) → text ≡ bytes → IsUtf8 bytes → Some text ≡ cond (is_utf8 bytes) (Some bytes) None
is_text text bytes same h = ap Some same ∙ sym (ap (λ t. cond t (Some bytes) None) (is_utf8-from_IsUtf8 bytes h))

pub no_text : (bytes : List ℕ) → (IsUtf8 bytes → ⊥) → None ≡ cond (is_utf8 bytes) (Some bytes) None
no_text bytes h = sym (ap (λ t. cond t (Some bytes) None) (false_from_ne_true (is_utf8 bytes) (λ e. h (IsUtf8-from_is_utf8 bytes e))))
