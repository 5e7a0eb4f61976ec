use Rattle.std.proofs.Common.{◌≡◌, Option, Some, None, IfSome, Bor, sym, subst}
use Rattle.std.specs.Prelude.{option_copied}
use Rattle.a1_value.specs.declared.value.Value.{Value}
use Rattle.a1_value.specs.Encoding.{IsKey}
use Rattle.secondary_index.proofs.tests.finds.Goals as goal

lent : (o : Option (Bor Value)) (p : Option Value) → option_copied o ≡ p → IfSome p IsKey → IfSome o (λ v. IsKey v.now)
lent None p e h = tt
lent (Some v) p e h = subst (λ (x : Option Value). IfSome x IsKey) (sym e) h

pub scan-requires-clause-low : goal.scan-requires-clause-low
scan-requires-clause-low g c = lent c.as_ref.result _ c.as_ref.ensures.value c.in_ok-low.ensures

pub scan-requires-clause-high : goal.scan-requires-clause-high
scan-requires-clause-high g c = lent c.as_ref-2.result _ c.as_ref-2.ensures.value c.in_ok-high.ensures
