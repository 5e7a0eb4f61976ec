use Rattle.std.proofs.Common.{◌≡◌, ℕ, ◌<◌, [], ◌∷◌, refl, sym, ap, ◌∙◌, arith}
use Rattle.turnstile.specs.Entries.{up_to}
use Rattle.turnstile.specs.Passes.{first_value, numbers}
use Rattle.turnstile.proofs.Books.{another, parted}
use Rattle.node_turns.specs.Standing.{begins_with}
use Rattle.transaction_part.specs.Part.{log_in}
use Rattle.farm_commit.proofs.Making.{pass_there}
use Rattle.farm_commit.proofs.building.cut_part.Goals as goal

pub returns-then-number-eq1-clause-own : goal.returns-then-number-eq1-clause-own
returns-then-number-eq1-clause-own c =
    let one : c.args.number ≡ 1 = c.if-number-eq1.true in
    let p = pass_there c.args.lock.now (up_to c.args.number) (begins_with (first_value c.args.lock.now) ∷ []) c.args.rest.now.pass
    c.in-Some.pass c.requires.rest.pass c.requires.rest.seen (sym c.take.ensures.value ∙ c.in-Some.is) in
    record {
      pass = (c.in-Some.pass, c.new.ensures.pass, p.0, p.1 ∙ (ap up_to one ∙ sym (ap (λ (n : ℕ). n ∷ []) one)));
      seen = ap (λ z. log_in z) c.new.ensures.pass ∙ p.2;
      none = c.new.ensures.none;
    }

pub split-own-requires-clause-another : goal.split-own-requires-clause-another
split-own-requires-clause-another c =
    let some : 0 < c.args.number = c.requires.some in
    let more : c.args.number ≡ 1 → ⊥ = c.if-number-eq1.false in
    let p = pass_there c.args.lock.now (up_to c.args.number) (begins_with (first_value c.args.lock.now) ∷ []) c.args.rest.now.pass
    c.in-Some.pass c.requires.rest.pass c.requires.rest.seen (sym c.take.ensures.value ∙ c.in-Some.is) in
    (another c.args.number (numbers c.in-Some.pass) (omega (arith, some, more)) p.1).1

pub returns-clause-own : goal.returns-clause-own
returns-clause-own c =
    let p = pass_there c.args.lock.now (up_to c.args.number) (begins_with (first_value c.args.lock.now) ∷ []) c.args.rest.now.pass
    c.in-Some.pass c.requires.rest.pass c.requires.rest.seen (sym c.take.ensures.value ∙ c.in-Some.is) in
    record {
      pass = (c.split-own.result.0, c.new-2.ensures.pass, c.split-own.ensures.passes.0, c.split-own.ensures.numbers.0);
      seen = ap (λ z. log_in z) c.new-2.ensures.pass ∙ (c.split-own.ensures.seen.0 ∙ p.2);
      none = c.new-2.ensures.none;
    }

pub returns-clause-rest : goal.returns-clause-rest
returns-clause-rest c two =
    let p = pass_there c.args.lock.now (up_to c.args.number) (begins_with (first_value c.args.lock.now) ∷ []) c.args.rest.now.pass
    c.in-Some.pass c.requires.rest.pass c.requires.rest.seen (sym c.take.ensures.value ∙ c.in-Some.is) in
    let others = parted c.args.number (numbers c.in-Some.pass) (numbers c.split-own.result.1) two p.1 c.split-own.ensures.numbers.1 in
    record {
      pass = (c.split-own.result.1, refl, c.split-own.ensures.passes.1, others);
      seen = c.split-own.ensures.seen.1 ∙ p.2;
      none = c.requires.rest.none;
    }
