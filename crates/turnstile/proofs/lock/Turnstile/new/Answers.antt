use Rattle.std.proofs.Common.{ap, sym, ◌∙◌, subst, ◌<◌, ◌^◌, ◌≡◌, ◌++◌, ℕ, List, [], ◌∷◌, length, Option, Some, arith}
use Rattle.turnstile.specs.Turns.{newcomer, Kept}
use Rattle.atomic_table.specs.Table.{opening}
use Rattle.turnstile.proofs.Starts.{starts}
use Rattle.turnstile.proofs.Histories.{up_to_length}
use Rattle.turnstile.proofs.lock.Turnstile.new.Goals as goal

pub new-requires : goal.new-requires
new-requires g c =
    let v = c.args.value in
    let n : ℕ = c.args.passes in
    let start = g.T.Keeps.first c.of.result.value in
    let items : c.push.new.self.items ≡ Some v ∷ [] = c.in_default.ensures.items ∙ ap (λ (z : List (Option g.row.T.Denot)). z ++ Some v ∷ []) c.new-slots.ensures.items in
    let few : n < 2 ^ 32 = c.ranges.passes.fits in
    subst (λ (xs : List (Option g.row.T.Denot)). Kept g.T.Keeps.stands g.T.Keeps.number n start (opening (0 ∷ 0 ∷ 1 ∷ []) xs (newcomer n start))) (sym items)
    (starts g.T.Keeps.stands g.T.Keeps.number n start v
    (subst (λ (z : g.row.T.Denot). g.T.Keeps.stands v (g.T.Keeps.first z ∷ [])) (sym c.of.ensures) c.requires.stands)
    (g.T.Keeps.first_is c.of.result.value)
    few)

pub invariant_of-result-in-Ok : goal.invariant_of-result-in-Ok
invariant_of-result-in-Ok g c =
    let is = c.in-Ok.ensures.ok.4 in
    record {
      empty = ap (λ m. m.1) is;
      idle = ap (λ m. m.0.stage) is;
      some_number = let l = up_to_length c.args.passes in let e : length c.in-Ok.seat.me.0.numbers ≡ c.args.passes = ap (λ m. length m.0.numbers) is ∙ l in omega arith;
    }
