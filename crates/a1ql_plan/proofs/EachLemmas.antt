-- What is resolved of a list, one item after another.
use Rattle.std.proofs.Common.{◌≡◌, ℕ, ◌+◌, ◌≤◌, ◌<◌, List, [], ◌∷◌, ◌++◌, length, map, get_or, drop, Result, Ok, Err, refl, sym, ap, ◌∙◌, append_assoc, append-nil}
use Rattle.std.proofs.lemmas.List.{at_drop_more, at_drop_all}
use Rattle.type_schema.specs.declared.refusal.Refusal.{Refusal}
use Rattle.type_schema.specs.declared.refusal.GraphFault.{GraphFault}
use Rattle.type_schema.specs.declared.refusal.GraphFault.TheVariants as fault
use Rattle.type_schema.specs.Refusals.{passing, Gives}
use Rattle.a1ql_plan.specs.Plan.{all_of}

-- what was resolved so far, and what is still to be resolved
unfoldable pub with_front : {X : Type 0} → List X → Result (List X) Refusal → Result (List X) Refusal
with_front front (Ok xs) = Ok (front ++ xs)
with_front front (Err refusal) = Err refusal

none_in_front : {X : Type 0} (r : Result (List X) Refusal) → with_front [] r ≡ r
unfolding with_front
none_in_front (Ok xs) = refl
none_in_front (Err refusal) = refl

one_more : {X : Type 0} (front : List X) (x : X) (r : Result (List X) Refusal) → with_front (front ++ x ∷ []) r ≡ with_front front (passing (Ok x) (λ y. passing r (λ ys. Ok (y ∷ ys))))
unfolding with_front passing
one_more front x (Ok xs) = ap Ok (append_assoc front (x ∷ []) xs)
one_more front x (Err refusal) = refl

module _ {Y X : Type 0} (f : Y → Result X Refusal) where
  abbrev pub all : List Y → Result (List X) Refusal
  all js = all_of (map f js)

  pub none : (ys : List Y) → with_front [] (all ys) ≡ all ys
  none ys = none_in_front (all ys)

  module _ (js : List Y) (i : ℕ) (j : Y) (front : List X) (total : Result (List X) Refusal) (lt : i < length js) (here : j ≡ get_or js i j) (so_far : with_front front (all (drop i js)) ≡ total) where
    opened : with_front front (passing (f j) (λ x. passing (all (drop (i + 1) js)) (λ xs. Ok (x ∷ xs)))) ≡ total
    opened =
        let F : List Y → Result (List X) Refusal = λ rest. with_front front (all rest) in
        ap (λ z. F (z ∷ drop (i + 1) js)) here ∙ (sym (at_drop_more F js i j lt) ∙ so_far)

    pub more : (x : X) → f j ≡ Ok x → with_front (front ++ x ∷ []) (all (drop (i + 1) js)) ≡ total
    more x is =
        let rest = all (drop (i + 1) js) in
        one_more front x rest ∙ (ap (λ r. with_front front (passing r (λ y. passing rest (λ ys. Ok (y ∷ ys))))) (sym is) ∙ opened)

    fails : (refusal : Refusal) → f j ≡ Err refusal → total ≡ Err refusal
    unfolding with_front passing
    fails refusal is =
        sym opened ∙ ap (λ r. with_front front (passing r (λ x. passing (all (drop (i + 1) js)) (λ xs. Ok (x ∷ xs))))) is

    pub stops : (e : GraphFault) → Gives {X = X} (Err e) (f j) → Gives {X = List X} (Err e) total
    stops (fault.Refused refusal) is = fails refusal is
    stops fault.Memory is = tt

  pub whole : (js : List Y) (i : ℕ) (front : List X) (total : Result (List X) Refusal) → with_front front (all (drop i js)) ≡ total → length js ≤ i → total ≡ Ok front
  unfolding with_front
  whole js i front total so_far le =
      sym so_far ∙ (at_drop_all (λ rest. with_front front (all rest)) js i le ∙ ap Ok (append-nil front))

pub ruleset each = (none, more, stops, whole)
