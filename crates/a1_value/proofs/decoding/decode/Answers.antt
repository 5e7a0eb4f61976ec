use Rattle.std.proofs.Common.{ap, subst, ◌∙◌, arith}
use Rattle.a1_value.specs.Encoding.{decoded, Decodes}
use Rattle.a1_value.proofs.ValueLemmas.{is_found, is_decoded}
use Rattle.a1_value.proofs.decoding.decode.Goals as goal

pub returns-clause-found : goal.returns-clause-found
returns-clause-found c = is_found c.args.bytes.now c.decode_all.result (λ i. omega (arith, c.type_inv.bytes i)) c.decode_all.ensures

pub returns-clause-only : goal.returns-clause-only
returns-clause-only c = λ v h e. subst (λ r. Decodes (λ v. v) c.decode_all.result r) (ap decoded e ∙ is_decoded v h) c.decode_all.ensures
