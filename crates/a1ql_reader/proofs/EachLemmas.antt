-- The hops that a list says, one after another.
use Rattle.std.proofs.Common.{◌≡◌, ℕ, ◌+◌, ◌≤◌, ◌<◌, List, [], ◌∷◌, ◌++◌, length, map, get_or, drop, Result, Ok, Err, refl, sym, ap, ◌∙◌, append_assoc, append-nil}
use Rattle.std.proofs.lemmas.List.{at_drop_more, at_drop_all}
use Rattle.a1_json.specs.declared.tree.Json.{Json}
use Rattle.type_schema.specs.Refusals.{passing}
use Rattle.a1ql_reader.specs.declared.patterns.Hop.{Hop}
use Rattle.a1ql_reader.specs.declared.patterns.PatternFault.{PatternFault}
use Rattle.a1ql_reader.specs.declared.patterns.PatternFault.TheVariants as fault
use Rattle.a1ql_reader.specs.Pattern.{PatternWord, Shape, Name, says, hops_of, Reads}

-- what was read so far, and what is still to be read
unfoldable pub with_front : List Hop → Result (List Hop) PatternWord → Result (List Hop) PatternWord
with_front front (Ok xs) = Ok (front ++ xs)
with_front front (Err word) = Err word

pub none_in_front : (r : Result (List Hop) PatternWord) → with_front [] r ≡ r
unfolding with_front
none_in_front (Ok xs) = refl
none_in_front (Err word) = refl

one_more : (front : List Hop) (x : Hop) (r : Result (List Hop) PatternWord) → with_front (front ++ x ∷ []) r ≡ with_front front (passing (Ok x) (λ y. passing r (λ ys. Ok (y ∷ ys))))
unfolding with_front passing
one_more front x (Ok xs) = ap Ok (append_assoc front (x ∷ []) xs)
one_more front x (Err word) = refl

abbrev all : List Json → Result (List Hop) PatternWord
all js = hops_of (map says js)

module _ (js : List Json) (i : ℕ) (j : Json) (front : List Hop) (total : Result (List Hop) PatternWord) (lt : i < length js) (here : j ≡ get_or js i j) (so_far : with_front front (all (drop i js)) ≡ total) where
  opened : with_front front (passing (says j).entry (λ x. passing (all (drop (i + 1) js)) (λ xs. Ok (x ∷ xs)))) ≡ total
  opened =
      let F : List Json → Result (List Hop) PatternWord = λ rest. with_front front (all rest) in
      ap (λ z. F (z ∷ drop (i + 1) js)) here ∙ (sym (at_drop_more F js i j lt) ∙ so_far)

  pub each_more : (x : Hop) → (says j).entry ≡ Ok x → with_front (front ++ x ∷ []) (all (drop (i + 1) js)) ≡ total
  each_more x is =
      let rest = all (drop (i + 1) js) in
      one_more front x rest ∙ (ap (λ r. with_front front (passing r (λ y. passing rest (λ ys. Ok (y ∷ ys))))) (sym is) ∙ opened)

  each_fails : (word : PatternWord) → (says j).entry ≡ Err word → total ≡ Err word
  unfolding with_front passing
  each_fails word is =
      sym opened ∙ ap (λ r. with_front front (passing r (λ x. passing (all (drop (i + 1) js)) (λ xs. Ok (x ∷ xs))))) is

  pub each_stops : (f : PatternFault) → Reads {X = Hop} (Err f) (says j).entry → Reads {X = List Hop} (Err f) total
  each_stops fault.Shape is = each_fails Shape is
  each_stops fault.Name is = each_fails Name is
  each_stops fault.Memory is = tt

pub each_all : (js : List Json) (i : ℕ) (front : List Hop) (total : Result (List Hop) PatternWord) → with_front front (all (drop i js)) ≡ total → length js ≤ i → total ≡ Ok front
unfolding with_front
each_all js i front total so_far le =
    sym so_far ∙ (at_drop_all (λ rest. with_front front (all rest)) js i le ∙ ap Ok (append-nil front))

pub ruleset each = (none_in_front, each_more, each_stops, each_all)
