-- A text that begins with an object's key, plainly spelt, has a member of that name, or has no tree.
use Rattle.std.proofs.Common.{◌≡◌, ◌⊎◌, inl, inr, ⊎_elim, ℕ, zero, suc, List, [], ◌∷◌, ◌++◌, length, Bool, true, false, Ordering, Less, Equal, Greater, Option, Some, None, Result, Ok, Err, refl, sym, ap, subst, ◌∙◌, nat_cmp, rules, codes}
use Rattle.std.specs.Prelude.{⊤, ok_or, option_map, option_and_then, if◌then◌else◌}
use Rattle.std.specs.Ordering.{match_ordering}
use Rattle.std.specs.Str.{is_utf8}
use Rattle.std.specs.Cmp.Lexicographic.{slice_cmp}
use Rattle.std.proofs.lemmas.Map.Lookups.{exact_bytes}
use Rattle.json.specs.Token as token
use Rattle.json.specs.Text.{content, plain}
use Rattle.json.specs.Lex.{Lexeme, Mode, lex, begins_colon, fresh, after_key, place_token, punctuate, tokens}
use Rattle.json.specs.Json as json
use Rattle.serde_json.specs.Data as serde
use Rattle.serde_json.specs.Read.{read, of_json, of_members, max_depth}
use Rattle.a1_json.specs.Tree.{before, tree_of, members_of, tree_or_fault, json_of}
use Rattle.a1_json.specs.Fields.{Fields, fields_in}
use Rattle.a1_json.specs.declared.tree.JsonFault.TheVariants as fault
use Rattle.a1_json.specs.declared.tree.Json.{Json, the_lemmas}
use Rattle.a1_json.specs.declared.tree.Json.TheVariants as tree

module _ (k : List ℕ) where
  -- ---- the members as `serde_json` has them

  abbrev HasKey : serde.Members → Type 0
  HasKey serde.no_members = ⊥
  HasKey (serde.member l d ms) = (l ≡ k) ⊎ HasKey ms

  put_has : (d : serde.Data) (ms : serde.Members) → HasKey (serde.put k d ms)
  put_has d serde.no_members = inl refl
  put_has d (serde.member l e ms) = by (put_has d ms) (slice_cmp nat_cmp k l) refl where
    by : HasKey (serde.put k d ms) → (o : Ordering) → slice_cmp nat_cmp k l ≡ o → HasKey (match_ordering o (serde.member k d (serde.member l e ms)) (serde.member l d ms) (serde.member l e (serde.put k d ms)))
    by later Less is = inl refl
    by later Equal is = inl (sym (exact_bytes k l is))
    by later Greater is = inr later

  put_keeps : (l : List ℕ) (d : serde.Data) (ms : serde.Members) → HasKey ms → HasKey (serde.put l d ms)
  put_keeps l d serde.no_members h = absurd h
  put_keeps l d (serde.member m e ms) h = by (λ q. put_keeps l d ms q) (slice_cmp nat_cmp l m) where
    by : (HasKey ms → HasKey (serde.put l d ms)) → (o : Ordering) → HasKey (match_ordering o (serde.member l d (serde.member m e ms)) (serde.member m d ms) (serde.member m e (serde.put l d ms)))
    by later Less = inr h
    by later Equal = h
    by later Greater = ⊎_elim inl (λ q. inr (later q)) h

  stays : (ms : json.Members) (found r : serde.Members) → HasKey found → of_members ms found ≡ Some r → HasKey r
  stays json.no_members found r h e = let same : found ≡ r = cc in subst HasKey same h
  stays (json.member l j ms) found r h e = by (λ d. stays ms (serde.put l d found) r (put_keeps l d found h)) (of_json j) e where
    by : ((d : serde.Data) → of_members ms (serde.put l d found) ≡ Some r → HasKey r) → (o : Option serde.Data) → option_and_then (λ d. of_members ms (serde.put l d found)) o ≡ Some r → HasKey r
    by later None e = absurd cc
    by later (Some d) e = later d e

  -- ---- the tree

  abbrev pub IsNamed : Fields → Type 0
  IsNamed [] = ⊥
  IsNamed (m ∷ fields) = (m.0 ≡ k) ⊎ IsNamed fields

  named : (ms : serde.Members) (fields : Fields) → HasKey ms → members_of ms ≡ Some fields → IsNamed fields
  named serde.no_members fields h e = absurd h
  named (serde.member l d ms) fields h e = by (λ rest q is. named ms rest q is) (tree_of d) (members_of ms) refl e where
    by : ((rest : Fields) → HasKey ms → members_of ms ≡ Some rest → IsNamed rest) → (t : Option Json) (more : Option Fields) → members_of ms ≡ more → before (option_map (λ j. (l, j)) t) more ≡ Some fields → IsNamed fields
    by later None more is e = absurd cc
    by later (Some j) None is e = absurd cc
    by later (Some j) (Some rest) is e =
        let same : (l, j) ∷ rest ≡ fields = cc in
        subst IsNamed same (⊎_elim inl (λ q. inr (later rest q is)) h)

  object_named : (ms : serde.Members) (t : Json) → HasKey ms → tree_of (serde.object ms) ≡ Some t → IsNamed (fields_in t)
  object_named ms t h e = by (members_of ms) refl e where
    by : (o : Option Fields) → members_of ms ≡ o → option_map tree.Members o ≡ Some t → IsNamed (fields_in t)
    by None is e = absurd cc
    by (Some fields) is e =
        let same : tree.Members fields ≡ t = cc in
        let opened : fields_in (tree.Members fields) ≡ fields = search (rules, the_lemmas) in
        subst (λ u. IsNamed (fields_in u)) same (subst IsNamed (sym opened) (named ms fields h is))

  -- ---- reading

  -- what is read of an object's first member is an object that begins with it
  abbrev IsFirst : Option (json.Json × List token.Token) → Type 0
  IsFirst None = ⊤
  IsFirst (Some p) = (j : json.Json) × ((ms : json.Members) × (p.0 ≡ json.object (json.member k j ms)))

  read_first : (n : ℕ) (ts : List token.Token) → IsFirst (json.value (suc n) (token.begin_object ∷ token.key k ∷ ts))
  unfolding json.value json.members
  read_first n ts = by (json.value n ts) where
    more : json.Json → Option (json.Members × List token.Token) → Type 0
    more j o = IsFirst (json.parse_map json.object (json.parse_map (json.member k j) o))

    by_more : (j : json.Json) (o : Option (json.Members × List token.Token)) → more j o
    by_more j None = tt
    by_more j (Some p) = (j, (p.0, refl))

    by : (o : Option (json.Json × List token.Token)) → IsFirst (json.parse_map json.object (option_and_then (λ p. json.parse_map (json.member k p.0) (json.members (json.value n) (length ts) p.1)) o))
    by None = tt
    by (Some p) = by_more p.0 (json.members (json.value n) (length ts) p.1)

  of_first : (o : Option (json.Json × List token.Token)) → IsFirst o → (t : Json)
      → tree_or_fault (option_and_then of_json (option_and_then (λ p. json.if_last p.0 p.1) o)) ≡ Ok t → IsNamed (fields_in t)
  of_first None first t e = absurd cc
  of_first (Some p) first t e = by p.1 e where
    read_as : (o : Option serde.Members) → ((r : serde.Members) → o ≡ Some r → HasKey r) → tree_or_fault (option_map serde.object o) ≡ Ok t → IsNamed (fields_in t)
    read_as None has e = absurd cc
    read_as (Some r) has e = object_named r t (has r refl) (made (tree_of (serde.object r)) e) where
      made : (o : Option Json) → ok_or o fault.NotWhole ≡ Ok t → o ≡ Some t
      made None e = absurd cc
      made (Some u) e = cc

    by : (rest : List token.Token) → tree_or_fault (option_and_then of_json (json.if_last p.0 rest)) ≡ Ok t → IsNamed (fields_in t)
    by (u ∷ rest) e = absurd cc
    by [] e =
        let opened : of_json p.0 ≡ option_map serde.object (of_members (json.member k first.0 first.1.0) serde.no_members) = ap of_json first.1.1 in
        read_as (of_members (json.member k first.0 first.1.0) serde.no_members) first_has (subst (λ o. tree_or_fault o ≡ Ok t) opened e) where
          first_has : (r : serde.Members) → of_members (json.member k first.0 first.1.0) serde.no_members ≡ Some r → HasKey r
          first_has r e = from (of_json first.0) e where
            from : (o : Option serde.Data) → option_and_then (λ d. of_members first.1.0 (serde.put k d serde.no_members)) o ≡ Some r → HasKey r
            from None e = absurd cc
            from (Some d) e = stays first.1.0 (serde.put k d serde.no_members) r (put_has d serde.no_members) e

  -- the tokens of a text that begins with the key, where a colon stands behind it or where none does
  abbrev IsKeyed : List token.Token → Type 0
  IsKeyed ts = IsFirst (json.value max_depth ts)

  key_or_string : (b : Bool) (ls : List Lexeme) → IsKeyed (token.begin_object ∷ place_token fresh (token.string k) b (λ next. punctuate next ls))
  unfolding json.value json.members
  key_or_string true ls = read_first 126 (punctuate after_key ls)
  key_or_string false ls = tt

  -- the text begins with the key
  pub begun : (text rest : List ℕ) → lex Mode.between text ≡ Lexeme.token token.begin_object ∷ Lexeme.token (token.string k) ∷ lex Mode.between rest
      → (t : Json) → json_of text ≡ Ok t → IsNamed (fields_in t)
  unfolding json_of punctuate
  begun text rest spelt t e = by (is_utf8 text) e where
    first : IsKeyed (tokens text)
    first = subst (λ ls. IsKeyed (punctuate fresh ls)) (sym spelt) (key_or_string (begins_colon (lex Mode.between rest)) (lex Mode.between rest))

    by : (b : Bool) → (if b then tree_or_fault (read text) else Err fault.NotJson) ≡ Ok t → IsNamed (fields_in t)
    by false e = absurd cc
    by true e = of_first (json.value max_depth (tokens text)) first t e
