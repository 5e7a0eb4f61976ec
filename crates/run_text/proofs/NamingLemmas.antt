-- Lines that name other lines.
use Rattle.std.proofs.Common.{◌≡◌, ◌+◌, ℕ, zero, suc, List, [], ◌∷◌, ◌++◌, length, map, Bool, true, false, Ok, Some, None, Option, refl, sym, ap, ◌∙◌, ◌⊎◌, inl, inr, append-nil, subst, arith, if◌then◌else◌}
use Rattle.std.specs.Prelude.{All, ◌==◌, nat_le, slice_get, option_and_then}
use Rattle.std.proofs.lemmas.Bool.Decides.{nat_tests}
use Rattle.std.proofs.lemmas.List.{map-append}
use Rattle.std.proofs.lemmas.List.Elements.{filter-append}
use Rattle.request_reader.specs.Request.{request_of, names_line, line_named}
use Rattle.request_reader.specs.declared.request.Request.TheVariants.{After}
use Rattle.answer_text.specs.Transcript.{NamesBefore}
use Rattle.run_text.specs.Script.{Entries, requests_of, stands_in, if_told, entry_in, with_entry, entries_from}
use Rattle.run_text.specs.Reading.{in_first}
use Rattle.run_text.proofs.ScriptLemmas.{requests_first}

-- ---- how many lines a session has

none_of_others : (rs : List (List ℕ)) (q : ℕ) → (1 == q) ≡ false → requests_of (map in_first rs) q ≡ []
none_of_others [] q other = refl
none_of_others (r ∷ rs) q other = rw other (none_of_others rs q other)

pub count_first : (rs : List (List ℕ)) (q : ℕ) → q ≡ 1 → length (requests_of (map in_first rs) q) ≡ length rs
count_first rs q one = rw one (ap length (requests_first rs))

pub count_other : (rs : List (List ℕ)) (q : ℕ) → (q ≡ 1 → ⊥) → length (requests_of (map in_first rs) q) ≡ 0
count_other rs q other =
    let no : (1 == q) ≡ false = grind (arith, nat_tests) in
    ap length (none_of_others rs q no)

pub ruleset counted = (count_first, count_other)

-- ---- lines that name a line before them

-- so it is of each session
abbrev Named : Entries → Type 0
Named entries = (s : ℕ) → NamesBefore s (requests_of entries s)

-- a request that is not the last is one of those before it
at_end : (xs : List (List ℕ)) (r request : List ℕ) (k : ℕ) → slice_get (xs ++ r ∷ []) k ≡ Some request → (slice_get xs k ≡ Some request) ⊎ ((k ≡ length xs) × (r ≡ request))
at_end [] r request zero h = inr (refl, cc)
at_end [] r request (suc k) h = absurd cc
at_end (x ∷ xs) r request zero h = inl h
at_end (x ∷ xs) r request (suc k) h =
    elim (at_end xs r request k h) [ inl e ↦ inl e | inr e ↦ let last : k ≡ length xs = e.0 in inr (omega arith, e.1) ]

one_more : (before : Entries) (s : ℕ) (r : List ℕ) → Named before → stands_in before (names_line r) ≡ true → NamesBefore s (requests_of before s ++ r ∷ [])
unfolding names_line
one_more before s r named stands k q n request here is own =
    elim (at_end (requests_of before s) r request k here) [
      | inl h ↦ named s k q n request h is own
      | inr h ↦
          let told : request_of r ≡ Ok (After q n) = ap request_of h.1 ∙ is in
          let fits : nat_le n (length (requests_of before q)) ≡ true = sym (ap (λ w. stands_in before (line_named w)) told) ∙ stands in
          let same : length (requests_of before q) ≡ length (requests_of before s) = ap (λ x. length (requests_of before x)) own in
          let last : k ≡ length (requests_of before s) = h.0 in
          grind (arith, nat_tests)
    ]

more : (before : Entries) (e : ℕ × List ℕ) → Named before → stands_in before (names_line e.1) ≡ true → Named (before ++ e ∷ [])
more before e named stands s = subst (NamesBefore s) (sym parts) (by (e.0 == s))
  where
    parts : requests_of (before ++ e ∷ []) s ≡ requests_of before s ++ requests_of (e ∷ []) s
    parts = ap (map (λ x. x.1)) (filter-append (λ x. x.0 == s) before (e ∷ [])) ∙ map-append (λ x. x.1) _ _

    by : (t : Bool) → NamesBefore s (requests_of before s ++ map (λ x. x.1) (if t then e ∷ [] else []))
    by true = one_more before s e.1 named stands
    by false = subst (NamesBefore s) (sym (append-nil (requests_of before s))) (named s)

behind : (lines : List (List ℕ)) (n : ℕ) (before entries : Entries) → ((b : Entries) → entries_from (n + 1) b lines ≡ Ok entries → Named b → Named entries) → Named before
    → (e : Option (ℕ × List ℕ)) → with_entry n before (option_and_then (if_told before) e) (λ b. entries_from (n + 1) b lines) ≡ Ok entries → Named entries
behind lines n before entries on named None is = absurd cc
behind lines n before entries on named (Some e) is = by (stands_in before (names_line e.1)) refl is
  where
    by : (t : Bool) → stands_in before (names_line e.1) ≡ t → with_entry n before (if t then Some e else None) (λ b. entries_from (n + 1) b lines) ≡ Ok entries → Named entries
    by true stands is = on (before ++ e ∷ []) is (more before e named stands)
    by false stands is = absurd cc

each_names : (lines : List (List ℕ)) (n : ℕ) (before entries : Entries) → entries_from n before lines ≡ Ok entries → Named before → Named entries
each_names [] n before entries is named = let same : before ≡ entries = cc in subst Named same named
each_names ([] ∷ lines) n before entries is named = each_names lines (n + 1) before entries is named
each_names ((b ∷ bs) ∷ lines) n before entries is named =
    behind lines n before entries (λ b. each_names lines (n + 1) b entries) named (entry_in (b ∷ bs)) is

-- the requests of session 1
first_names : (rs lines : List (List ℕ)) → entries_from 1 [] lines ≡ Ok (map in_first rs) → NamesBefore 1 rs
first_names rs lines is =
    subst (NamesBefore 1) (requests_first rs) (each_names lines 1 [] (map in_first rs) is (λ s k q n request none. absurd cc) 1)

-- of the one session that is served
pub named_first : (rs lines : List (List ℕ)) → entries_from 1 [] lines ≡ Ok (map in_first rs) → All {X = ℕ × List (List ℕ)} (λ t. NamesBefore t.0 t.1) ((1, rs) ∷ [])
named_first rs lines is zero d lt = first_names rs lines is
named_first rs lines is (suc k) d lt = absurd (omega arith)
