use Rattle.std.proofs.Common.{◌≡◌, ℕ, zero, suc, ◌<◌, List, [], ◌∷◌, length, get_or, take, drop, Some, None, refl, arith, eq-eqb}
use Rattle.std.proofs.lemmas.Bool.{ne_eqb}
use Rattle.type_schema.specs.Names.{cut}
use Rattle.type_schema.proofs.names.cut.Goals as goal

cut_at : (mark : ℕ) (bytes : List ℕ) (at : ℕ) → at < length bytes → ((k : ℕ) → k < at → get_or bytes k 0 ≡ mark → ⊥) → get_or bytes at 0 ≡ mark → cut mark bytes ≡ Some (take at bytes, drop 1 (drop at bytes))
unfolding cut
cut_at mark [] at lt none here = absurd (omega arith)
cut_at mark (b ∷ bytes) zero lt none here = rw (eq-eqb b mark here) refl
cut_at mark (b ∷ bytes) (suc at) lt none here =
    let more = cut_at mark bytes at (omega arith) (λ k h. none (suc k) (omega arith)) here in
    rw (ne_eqb b mark (none 0 (omega arith)), more) refl

uncut : (mark : ℕ) (bytes : List ℕ) → ((k : ℕ) → k < length bytes → get_or bytes k 0 ≡ mark → ⊥) → cut mark bytes ≡ None
unfolding cut
uncut mark [] none = refl
uncut mark (b ∷ bytes) none =
    let more = uncut mark bytes (λ k h. none (suc k) (omega arith)) in
    rw (ne_eqb b mark (none 0 (omega arith)), more) refl

pub returns-then-byte-eq47 : goal.returns-then-byte-eq47
returns-then-byte-eq47 c =
    let found = cut_at 47 c.args.bytes.now c.loop-at.at (omega arith) c.loop-at.invariant c.if-byte-eq47.true in
    cc (c.split_at.ensures.front, c.split_at.ensures.back, c.split_at-then-byte-eq47.ensures.back)

pub returns : goal.returns
returns c = uncut 47 c.args.bytes.now (λ k h. c.loop-at.invariant k (omega arith))
