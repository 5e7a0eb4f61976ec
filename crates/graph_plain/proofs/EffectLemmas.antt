-- Operations one behind the other, and when their rows are too much.
use Rattle.std.proofs.Common.{◌≡◌, ℕ, ◌+◌, ◌<◌, ◌≤◌, List, [], ◌∷◌, ◌++◌, length, drop, Bool, true, false, ◌||◌, nat_lt, Result, Ok, Err, refl, sym, ap, ◌∙◌, arith, length-append}
use Rattle.std.specs.Prelude.{sum_by}
use Rattle.std.proofs.lemmas.Bool.Decides.{nat_tests}
use Rattle.std.proofs.lemmas.List.{drop_all}
use Rattle.std.proofs.lemmas.List.Sums.{sum_by_push}
use Rattle.a1_base.specs.declared.limits.TheConstants.{CHANGE_LIMIT, CHANGE_BYTES_LIMIT}
use Rattle.type_schema.specs.declared.refusal.Refusal.{Refusal}
use Rattle.type_schema.specs.declared.refusal.Word.TheVariants as word
use Rattle.type_schema.specs.declared.rows.RowChange.{RowChange}
use Rattle.type_schema.specs.Refusals.{refused, unless, passing}
use Rattle.type_schema.specs.Graph.{Graph}
use Rattle.type_schema.specs.Rows.{item_size}
use Rattle.request_reader.specs.declared.operation.Op.{Op}
use Rattle.request_reader.specs.declared.operation.Action.{Action}
use Rattle.request_reader.specs.Operations.{Reached, decided, changes, after, is_large, effect_behind}

-- ---- too much

-- what is not too much is within both limits
pub within : (rows : List RowChange) → length rows ≤ CHANGE_LIMIT → sum_by item_size rows ≤ CHANGE_BYTES_LIMIT → is_large rows ≡ false
within rows few small = grind (arith, nat_tests, few, small)

-- one row over the limit
pub too_many : (before : List RowChange) (row : RowChange) → length before ≡ CHANGE_LIMIT → is_large (before ++ row ∷ []) ≡ true
too_many before row full = grind (arith, nat_tests, length-append, full)

-- a row with more bytes than there is room for
pub too_big : (before : List RowChange) (row : RowChange) (room : ℕ) → room + sum_by item_size before ≡ CHANGE_BYTES_LIMIT → room < item_size row
    → is_large (before ++ row ∷ []) ≡ true
too_big before row room all over =
    let sum = sum_by_push item_size before row in
    let more : CHANGE_BYTES_LIMIT < sum_by item_size (before ++ row ∷ []) = omega (arith, sum, all, over) in
    grind (arith, nat_tests, more)

-- ---- one operation more

module _ (g : Graph) (before : List RowChange) (o : Op) where
  -- it is refused
  pub stopped : (refusal : Refusal) → decided g o ≡ Err refusal → (ops : List Op) → effect_behind g before (o ∷ ops) ≡ Err refusal
  unfolding effect_behind passing
  stopped refusal h ops = rw h refl

  -- it is decided, and its rows are too much
  pub overflowed : (a : Action) → decided g o ≡ Ok a → is_large (before ++ changes g a) ≡ true → (ops : List Op)
      → effect_behind g before (o ∷ ops) ≡ Err (refused word.Large)
  unfolding effect_behind passing unless
  overflowed a h large ops = rw (h, large) refl

  -- it is done
  pub went : (a : Action) → decided g o ≡ Ok a → is_large (before ++ changes g a) ≡ false → (ops : List Op)
      → effect_behind g before (o ∷ ops) ≡ effect_behind (after g a) (before ++ changes g a) ops
  unfolding effect_behind passing unless
  went a h small ops = rw (h, small) refl

-- nothing is left to do
pub ended : (wanted : Result Reached Refusal) (g : Graph) (before : List RowChange) (ops : List Op) (i : ℕ) → length ops ≤ i
    → wanted ≡ effect_behind g before (drop i ops) → wanted ≡ Ok (record { graph = g; changes = before })
unfolding effect_behind
ended wanted g before ops i h e = e ∙ ap (effect_behind g before) (drop_all i ops h)
