-- Scripts that are too long, the last session of a script, and what the rules of the command `run` give.
use Rattle.std.proofs.Common.{◌≡◌, ◌∙◌, ℕ, ◌<◌, List, [], ◌∷◌, ◌++◌, map, length, IsOk, Result, Ok, Err, true, sym, subst, arith}
use Rattle.std.specs.Prelude.{nat_lt, IfSome}
use Rattle.std.specs.List.{All}
use Rattle.std.proofs.lemmas.Bool.Decides.{nat_tests}
use Rattle.std.proofs.lemmas.List.Elements.{All-head, All-tail}
use Rattle.a1_base.specs.declared.limits.TheConstants.{SCRIPT_LIMIT}
use Rattle.run_text.specs.Script.{script_of, asked_in, IsOf}
use Rattle.a1.specs.RunCommand.{run_rules}
use Rattle.a1.proofs.EndingLemmas.{Lawful}

-- a script that is too long breaks the grammar as a whole
pub long_script : (bytes : List ℕ) → SCRIPT_LIMIT < length bytes → script_of bytes ≡ Err 0
unfolding script_of
long_script bytes h = let e : nat_lt SCRIPT_LIMIT (length bytes) ≡ true = grind (arith, nat_tests) in rw e

-- what holds of each session holds of the last
pub last_of : {Y X : Type 0} (P : X → Type 0) (f : Y → X) (rest : List Y) (y : Y) → All P (map f (rest ++ y ∷ [])) → P (f y)
last_of P f [] y h = All-head P (f y) [] h
last_of P f (z ∷ rest) y h = last_of P f rest y (All-tail P (f z) (map f (rest ++ y ∷ [])) h)

err_not_ok : {T E : Type 0} (r : Result T E) (e : E) → r ≡ Err e → IsOk r → ⊥
err_not_ok (Ok x) e h ok = absurd cc
err_not_ok (Err y) e h ok = absurd cc

pub run_lawful : Lawful run_rules
run_lawful = record {
  legal = λ source text run served. served.0.legal;
  apart = λ bytes line is bad. err_not_ok _ line bad is;
  served_apart = λ source bytes text run line holds served bad.
      let whole : IsOf run.sessions bytes = subst (λ s. IfSome s (IsOf run.sessions)) holds served.0.of in
      absurd (let no : Err line ≡ Ok (asked_in run.sessions) = sym bad ∙ whole in cc);
}
