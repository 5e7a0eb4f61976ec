-- A graph's name, cut at its first slash.
use Rattle.std.proofs.Common.{◌≡◌, ℕ, zero, suc, ◌<◌, List, [], ◌∷◌, length, get_or, take, drop, Bool, true, false, ◌&&◌, Some, None, refl, ap, ◌∙◌, arith, eq-eqb}
use Rattle.std.specs.Prelude.{is_some, option_and_then, if◌then◌else◌}
use Rattle.std.proofs.lemmas.Bool.{ne_eqb}
use Rattle.type_schema.specs.Names.{is_name, cut, graph_of, graph_whole}

cut_at : (mark : ℕ) (bytes : List ℕ) (at : ℕ) → at < length bytes → ((k : ℕ) → k < at → get_or bytes k 0 ≡ mark → ⊥) → get_or bytes at 0 ≡ mark
    → cut mark bytes ≡ Some (take at bytes, drop 1 (drop at bytes))
unfolding cut
cut_at mark [] at lt none here = absurd (omega arith)
cut_at mark (b ∷ bytes) zero lt none here = rw (eq-eqb b mark here) refl
cut_at mark (b ∷ bytes) (suc at) lt none here =
    let more = cut_at mark bytes at (omega arith) (λ k h. none (suc k) (omega arith)) here in
    rw (ne_eqb b mark (none 0 (omega arith)), more) refl

uncut : (mark : ℕ) (bytes : List ℕ) → ((k : ℕ) → k < length bytes → get_or bytes k 0 ≡ mark → ⊥) → cut mark bytes ≡ None
unfolding cut
uncut mark [] none = refl
uncut mark (b ∷ bytes) none =
    let more = uncut mark bytes (λ k h. none (suc k) (omega arith)) in
    rw (ne_eqb b mark (none 0 (omega arith)), more) refl

some_if : {X : Type 0} (b : Bool) (x : X) → is_some (if b then Some x else None) ≡ b
some_if true x = refl
some_if false x = refl

-- two names and a slash between them are a graph's
pub graph_at : (bytes : List ℕ) (at : ℕ) → at < length bytes → ((k : ℕ) → k < at → get_or bytes k 0 ≡ 47 → ⊥) → get_or bytes at 0 ≡ 47
    → is_some (graph_whole bytes) ≡ (is_name (take at bytes) && is_name (drop 1 (drop at bytes)))
unfolding graph_whole
graph_at bytes at lt none here =
    ap (λ o. is_some (option_and_then graph_of o)) (cut_at 47 bytes at lt none here) ∙ some_if _ _

-- bytes without a slash are no graph's name
pub no_graph : (bytes : List ℕ) → ((k : ℕ) → k < length bytes → get_or bytes k 0 ≡ 47 → ⊥) → is_some (graph_whole bytes) ≡ false
unfolding graph_whole
no_graph bytes none = ap (λ o. is_some (option_and_then graph_of o)) (uncut 47 bytes none)
