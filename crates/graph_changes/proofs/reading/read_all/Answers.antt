use Rattle.std.proofs.Common.{◌≡◌, ℕ, zero, suc, ◌<◌, Bool, false, nat_eq, length, sym, ◌∙◌, arith}
use Rattle.std.proofs.lemmas.Bool.{false≢true}
use Rattle.a1_base.specs.Fronts.{IsBytes}
use Rattle.graph_changes.proofs.ReadLemmas.{goes_on, shorter, breaks}
use Rattle.graph_changes.proofs.reading.read_all.Goals as goal

pub loop-rest-smaller : goal.loop-rest-smaller
loop-rest-smaller c =
    let fits : IsBytes c.args.bytes.now = λ i. omega (arith, c.type_inv.bytes i) in
    shorter c.args.bytes.now c.loop-rest.steps.items c.loop-rest.rest.now c.in-Ok.change c.in-Ok.after.now fits c.in-Ok.ensures c.loop-rest.invariant

pub loop-rest-preserved : goal.loop-rest-preserved
loop-rest-preserved c =
    let fits : IsBytes c.args.bytes.now = λ i. omega (arith, c.type_inv.bytes i) in
    rw c.in_ok-push-in-Ok.ensures.items (goes_on c.args.bytes.now c.loop-rest.steps.items c.loop-rest.rest.now c.in-Ok.change c.in-Ok.after.now fits c.in-Ok.ensures c.loop-rest.invariant)

not_empty : (empty : Bool) (n : ℕ) → empty ≡ nat_eq n 0 → empty ≡ false → 0 < n
not_empty empty zero e f = absurd (false≢true (sym f ∙ e))
not_empty empty (suc n) e f = omega arith

pub returns-in-Err-Malformed-clause-bad : goal.returns-in-Err-Malformed-clause-bad
returns-in-Err-Malformed-clause-bad c =
    let more : 0 < length c.loop-rest.rest.now = not_empty c.is_empty.result (length c.loop-rest.rest.now) c.is_empty.ensures c.loop-rest-test.true in
    breaks c.args.bytes.now c.loop-rest.steps.items c.loop-rest.rest.now more (rw c.in-Err-Malformed.field-0-is at c.in-Err-Malformed.ensures) c.loop-rest.invariant
