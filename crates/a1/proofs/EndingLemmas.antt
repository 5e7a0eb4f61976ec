-- What the table of endings gives, for all commands at once.
use Rattle.std.proofs.Common.{◌≡◌, ℕ, List, [], Some, sym, subst, arith}
use Rattle.std.specs.List.{IsDistinct}
use Rattle.type_schema.specs.Graph.{Graph}
use Rattle.answer_text.specs.Legal.{IsLegal}
use Rattle.run_text.specs.Run.{empty_run}
use Rattle.run_text.specs.declared.run.Run.{Run}
use Rattle.a1.specs.Outside.{Side}
use Rattle.a1.specs.Rules.{Rules}
use Rattle.a1.specs.RunCommand.{IsLegalRun}

-- no session is a legal history
pub none_legal : (graph : Graph) (base : ℕ) → IsLegal graph base [] []
unfolding IsDistinct
none_legal graph base = record {
  stamps_differ = tt;
  stamps_above = tt;
  stamps_apart = tt;
  told_first = λ i j line h. absurd (omega (arith, h.1.0.1));
  answered = tt;
}

pub empty_legal : (run : Run) → run ≡ empty_run → IsLegalRun run
empty_legal run e = subst IsLegalRun (sym e) (none_legal _ _)

-- what the rules of a command have to keep
pub record Lawful (rules : Rules) : Type 0 where
  pub legal : (source : Side (List ℕ)) (text : List ℕ) (run : Run) → rules.IsServed source text run → IsLegalRun run
  pub apart : (bytes : List ℕ) (line : ℕ) → rules.IsText bytes → rules.IsMalformed bytes line → ⊥
  pub served_apart : (source : Side (List ℕ)) (bytes text : List ℕ) (run : Run) (line : ℕ) → source.before ≡ Some bytes → rules.IsServed source text run → rules.IsMalformed bytes line → ⊥
