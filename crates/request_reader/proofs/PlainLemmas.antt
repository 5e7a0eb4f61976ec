-- A line that begins with the key of a `do` or of an ask, plainly spelt, names no line.
use Rattle.std.proofs.Common.{◌≡◌, inl, inr, ℕ, List, [], ◌∷◌, ◌++◌, Bool, true, false, Option, Some, None, Result, Ok, Err, refl, sym, subst, codes}
use Rattle.std.specs.Prelude.{not, ◌&&◌}
use Rattle.std.specs.List.{list_all}
use Rattle.json.specs.Token as token
use Rattle.json.specs.Text.{content}
use Rattle.json.specs.Lex.{Lexeme, Mode, lex}
use Rattle.a1_json.specs.declared.tree.Json.{Json}
use Rattle.a1_json.specs.declared.tree.JsonFault.{JsonFault}
use Rattle.a1_json.specs.declared.tree.JsonFault.TheVariants as json_fault
use Rattle.a1_json.specs.Tree.{json_of}
use Rattle.a1_json.specs.Fields.{Fields, fields_in, as_text}
use Rattle.a1_json.proofs.KeyLemmas.{IsNamed, begun}
use Rattle.type_schema.specs.declared.names.GraphName.{GraphName}
use Rattle.type_schema.specs.Names.{graph_whole}
use Rattle.type_schema.specs.Refusals.{need, passing, unless}
use Rattle.a1ql_reader.specs.declared.patterns.VertexPattern.{VertexPattern}
use Rattle.a1ql_reader.specs.Pattern.{pattern_of}
use Rattle.request_reader.specs.declared.operation.Op.{Op}
use Rattle.request_reader.specs.declared.request.Request.{Request}
use Rattle.request_reader.specs.declared.request.BadWord.{BadWord}
use Rattle.request_reader.specs.declared.request.BadWord.TheVariants as bad
use Rattle.request_reader.specs.Request.{all_said, operations, do_of, worded, ask_of, asked, items_named, only_member, listed, line_in, ask_or_do, after_or, request_in, request_of, line_named, names_line, is_some_list, operation, operation_fits, operation_named}

-- ---- a `do` and an ask name no line

abbrev NamesNone : Result Request BadWord → Type 0
NamesNone r = line_named r ≡ None

refused_none : (b : Bool) (word : BadWord) (r : Result Request BadWord) → NamesNone r → NamesNone (unless b word r)
unfolding unless
refused_none true word r h = refl
refused_none false word r h = h

do_none : (json : Json) → NamesNone (do_of json)
unfolding do_of passing
do_none json = refused_none (not (is_some_list (operations json) && list_all (λ j. operation_fits (operation j)) (operations json))) bad.Shape _
    (refused_none (not (list_all (λ j. operation_named (operation j)) (operations json))) bad.Name _ (by (all_said (operations json))))
  where
    by : (r : Result (List Op) BadWord) → NamesNone (passing r (λ ops. Ok (Request.Do ops)))
    by (Ok ops) = refl
    by (Err word) = refl

ask_none : (pattern graph : Json) → NamesNone (ask_of pattern graph)
unfolding ask_of need passing
ask_none pattern graph = by (as_text graph) where
  named : (p : VertexPattern) (g : Option GraphName) → NamesNone (need g bad.Name (λ graph. Ok (Request.Ask (record { graph = graph; pattern = p }))))
  named p None = refl
  named p (Some g) = refl

  read : (text : List ℕ) (r : Result VertexPattern BadWord) → NamesNone (passing r (λ p. need (graph_whole text) bad.Name (λ graph. Ok (Request.Ask (record { graph = graph; pattern = p })))))
  read text (Ok p) = named p (graph_whole text)
  read text (Err word) = refl

  by : (text : Option (List ℕ)) → NamesNone (need text bad.Shape (λ text. passing (worded (pattern_of pattern)) (λ p. need (graph_whole text) bad.Name (λ graph. Ok (Request.Ask (record { graph = graph; pattern = p }))))))
  by None = refl
  by (Some text) = read text (worded (pattern_of pattern))

other_none : (a : Option (Json × Json)) (json : Json) → NamesNone (ask_or_do a json)
other_none None json = do_none json
other_none (Some a) json = ask_none a.0 a.1

-- ---- a line with such a member is no `after`

module _ (k : List ℕ) (other : (j : Json) → items_named (codes "after") (Some (k, j)) ≡ []) where
  not_after : (fields : Fields) → IsNamed k fields → items_named (codes "after") (only_member fields) ≡ []
  not_after [] h = absurd h
  not_after (m ∷ n ∷ fields) h = refl
  not_after (m ∷ []) (inl is) = subst (λ name. items_named (codes "after") (Some (name, m.1)) ≡ []) (sym is) (other m.1)
  not_after (m ∷ []) (inr h) = absurd h

  member_none : (json : Json) → IsNamed k (fields_in json) → NamesNone (request_in (Ok json))
  unfolding listed
  member_none json h = subst (λ items. NamesNone (after_or (line_in items) (ask_or_do (asked (fields_in json)) json)))
      (sym (not_after (fields_in json) h)) (other_none (asked (fields_in json)) json)

  begun_none : (line rest : List ℕ) → lex Mode.between line ≡ Lexeme.token token.begin_object ∷ Lexeme.token (token.string k) ∷ lex Mode.between rest
      → names_line line ≡ None
  unfolding names_line request_of
  begun_none line rest spelt = by (json_of line) refl where
    by : (r : Result Json JsonFault) → json_of line ≡ r → NamesNone (request_in r)
    by (Ok json) is = member_none json (begun k line rest spelt json is)
    by (Err json_fault.NotJson) is = refl
    by (Err json_fault.NotWhole) is = refl
    by (Err json_fault.Memory) is = refl

pub do_line : (line rest : List ℕ) → line ≡ codes "{\"do\"" ++ rest → names_line line ≡ None
unfolding lex content
do_line line rest is = subst (λ l. names_line l ≡ None) (sym is)
    (begun_none (codes "do") (λ j. refl) (codes "{\"do\"" ++ rest) rest refl)

pub ask_line : (line rest : List ℕ) → line ≡ codes "{\"ask\"" ++ rest → names_line line ≡ None
unfolding lex content
ask_line line rest is = subst (λ l. names_line l ≡ None) (sym is)
    (begun_none (codes "ask") (λ j. refl) (codes "{\"ask\"" ++ rest) rest refl)
