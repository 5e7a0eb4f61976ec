-- What is read in each value of a list, one after another.
use Rattle.std.proofs.Common.{◌≡◌, ℕ, ◌+◌, ◌≤◌, ◌<◌, List, [], ◌∷◌, ◌++◌, length, get_or, drop, Result, Ok, Err, refl, sym, ap, ◌∙◌, append_assoc, append-nil}
use Rattle.std.proofs.lemmas.List.{at_drop_more, at_drop_all}
use Rattle.a1_json.specs.declared.tree.Json.{Json}
use Rattle.type_schema.specs.Refusals.{passing}
use Rattle.request_reader.specs.declared.request.BadWord.{BadWord}
use Rattle.request_reader.specs.declared.request.RequestFault.{RequestFault}
use Rattle.request_reader.specs.declared.request.RequestFault.TheVariants as fault
use Rattle.request_reader.specs.Request.{each_of, Reads}

-- what was read so far, and what is still to be read
unfoldable pub with_front : {X : Type 0} → List X → Result (List X) BadWord → Result (List X) BadWord
with_front front (Ok xs) = Ok (front ++ xs)
with_front front (Err word) = Err word

pub none_in_front : {X : Type 0} (r : Result (List X) BadWord) → with_front [] r ≡ r
unfolding with_front
none_in_front (Ok xs) = refl
none_in_front (Err word) = refl

one_more : {X : Type 0} (front : List X) (x : X) (r : Result (List X) BadWord) → with_front (front ++ x ∷ []) r ≡ with_front front (passing (Ok x) (λ y. passing r (λ ys. Ok (y ∷ ys))))
unfolding with_front passing
one_more front x (Ok xs) = ap Ok (append_assoc front (x ∷ []) xs)
one_more front x (Err word) = refl

module _ {X : Type 0} (read : Json → Result X BadWord) (js : List Json) (i : ℕ) (j : Json) (front : List X) (total : Result (List X) BadWord) (lt : i < length js) (here : j ≡ get_or js i j) (so_far : with_front front (each_of read (drop i js)) ≡ total) where
  opened : with_front front (passing (read j) (λ x. passing (each_of read (drop (i + 1) js)) (λ xs. Ok (x ∷ xs)))) ≡ total
  opened =
      let F : List Json → Result (List X) BadWord = λ rest. with_front front (each_of read rest) in
      ap (λ z. F (z ∷ drop (i + 1) js)) here ∙ (sym (at_drop_more F js i j lt) ∙ so_far)

  pub each_more : (x : X) → read j ≡ Ok x → with_front (front ++ x ∷ []) (each_of read (drop (i + 1) js)) ≡ total
  each_more x is =
      let rest = each_of read (drop (i + 1) js) in
      one_more front x rest ∙ (ap (λ r. with_front front (passing r (λ y. passing rest (λ ys. Ok (y ∷ ys))))) (sym is) ∙ opened)

  each_fails : (word : BadWord) → read j ≡ Err word → total ≡ Err word
  unfolding with_front passing
  each_fails word is =
      sym opened ∙ ap (λ r. with_front front (passing r (λ x. passing (each_of read (drop (i + 1) js)) (λ xs. Ok (x ∷ xs))))) is

  pub each_stops : (f : RequestFault) → Reads {X = X} (Err f) (read j) → Reads {X = List X} (Err f) total
  each_stops (fault.Bad word) is = each_fails word is
  each_stops fault.Memory is = tt

pub each_all : {X : Type 0} (read : Json → Result X BadWord) (js : List Json) (i : ℕ) (front : List X) (total : Result (List X) BadWord) → with_front front (each_of read (drop i js)) ≡ total → length js ≤ i → total ≡ Ok front
unfolding with_front
each_all read js i front total so_far le =
    sym so_far ∙ (at_drop_all (λ rest. with_front front (each_of read rest)) js i le ∙ ap Ok (append-nil front))

pub ruleset each = (none_in_front, each_more, each_stops, each_all)
