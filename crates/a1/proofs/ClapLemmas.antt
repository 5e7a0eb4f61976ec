-- What clap makes of words where each option has one value and stands once.
use Rattle.std.proofs.Common.{◌≡◌, ◌≢◌, ◌∙◌, ◌&&◌, ℕ, Bool, true, false, refl, sym, ap, ap₂, subst, ◌⊎◌, inl, inr, List, [], ◌∷◌, ◌++◌, map, Option, Some, None, is_some, true≢false, append-nil}
use Rattle.std.proofs.lemmas.List.{map-append}
use Rattle.std.specs.Prelude.{◌||◌, ⊤, not, fold, find, if◌then◌else◌, option_and_then}
use Rattle.std.specs.List.{list_any}
use Rattle.std.specs.Str.{bytes_eq}
use Rattle.std.proofs.lemmas.Slice.Eq.{bytes_eq-Decides}
use Rattle.clap.specs.Lexer.{long_of, short_of, strip_byte}
use Rattle.clap.specs.Walk.{Held, Row, Rule, Step, Text, Waiting, idle, option, positional, Walk, arg_by_id, arg_by_index, arg_by_long, reading_by, walked, settled_rows, has_row, used, reacted, settled, long_word, plain_word, after_step, at_row, more_values, option_word, next}
use Rattle.clap.specs.Simple.{Shape, new_shape, filled, with_index}
use Rattle.clap.specs.Kinds.{Kinds, or_else, HasKind, IsAmong}
use Rattle.clap.specs.Values.{kind_of}
use Rattle.clap.specs.Simple.{HasMatchesOf}
use Rattle.clap.specs.declared.error.Error.{Error}
use Rattle.clap.specs.declared.error.kind.ErrorKind.{ErrorKind}
use Rattle.clap.specs.declared.error.kind.ErrorKind.TheVariants as kind
use Rattle.clap.specs.Faults.{use_fault, settle_fault, long_fault, step_fault, turn_fault, walk_fault}
use Rattle.clap.specs.Matches.{found_of}
use Rattle.clap.specs.Faults.{built_fault, level_fault, entered_fault, defaults_fault, check_fault, fault_of, is_simple_and_free}
use Rattle.clap.specs.Simple.{App, built, entered, filled_from, is_simple, matches_of}
use Rattle.clap.specs.Takes.{is_given}
use Rattle.clap.specs.Walk.{rows_of, first_of, finished, with_default, nothing_held, walk}
use Rattle.clap.specs.declared.parser.matches.ArgMatches.{ArgMatches}
use Rattle.clap.proofs.WalkLemmas.{first_value-rows}
use Rattle.a1.specs.Words.{behind_hyphen, option_of, is_stray, Use, Reading, settled as stood, is_name, opened, read_word, ended, value_of}
use Rattle.a1.specs.Found.{option_rule, line_of, IsFoundBy, IsFound}
use Rattle.clap.specs.declared.parser.matches.ValueSource.TheVariants.{CommandLine}

-- ---- the command

abbrev rule_for : Text → Rule
rule_for n = with_index 1 (filled (option_rule n))

abbrev rules_for : List Text → List Rule
rules_for = map rule_for

abbrev shape_for : Text → List Text → Shape
shape_for name names = record (new_shape name) { rules = rules_for names; no_binary_name = true; disable_help_flag = true; disable_help_subcommand = true; is_built = true }

abbrev row_of_use : Use → Row
row_of_use u = record { id = u.0; values = u.1 ∷ []; count = None; source = Some CommandLine; reading = reading_by (rule_for u.0) }

-- ---- looking up

same_text : (x : Text) → bytes_eq x x ≡ true
same_text x = (bytes_eq-Decides x x).1 refl

or_false : (t : Bool) → (t || false) ≡ t
or_false true = refl
or_false false = refl

find_for : (test : Rule → Bool) (x : Text) → ((n : Text) → test (rule_for n) ≡ bytes_eq n x) → (names : List Text) → find test (rules_for names) ≡ (if is_name names x then Some (rule_for x) else None)
find_for test x tells [] = refl
find_for test x tells (n ∷ ns) = by (find_for test x tells ns) (bytes_eq n x) refl
  where
    by : find test (rules_for ns) ≡ (if is_name ns x then Some (rule_for x) else None) → (t : Bool) → bytes_eq n x ≡ t → find test (rules_for (n ∷ ns)) ≡ (if is_name (n ∷ ns) x then Some (rule_for x) else None)
    by rest true e = let s : n ≡ x = (bytes_eq-Decides n x).0 e in rw (tells n, e) (ap (λ k. Some (rule_for k)) s)
    by rest false e = rw (tells n, e) rest

by_long : (names : List Text) (x : Text) → arg_by_long (rules_for names) x ≡ (if is_name names x then Some (rule_for x) else None)
by_long names x = find_for _ x (λ n. or_false (bytes_eq n x)) names

by_id : (names : List Text) (x : Text) → arg_by_id (rules_for names) x ≡ (if is_name names x then Some (rule_for x) else None)
by_id names x = find_for _ x (λ n. refl) names

by_index : (names : List Text) (i : ℕ) → arg_by_index (rules_for names) i ≡ None
by_index [] i = refl
by_index (n ∷ ns) i = by_index ns i

-- ---- words

abbrev dashes : Text
dashes = 45 ∷ 45 ∷ []

long_no_dashes : (word : Text) (p : Text × Option Text) → long_of word ≡ Some p → bytes_eq word dashes ≡ false
long_no_dashes word p e = by (bytes_eq word dashes) refl
  where
    by : (t : Bool) → bytes_eq word dashes ≡ t → t ≡ false
    by false h = refl
    by true h = let s : word ≡ dashes = (bytes_eq-Decides word dashes).0 h in let bad : long_of dashes ≡ Some p = subst (λ w. long_of w ≡ Some p) s e in absurd (let no : None ≡ Some p = bad in cc)

plain_no_dashes : (word : Text) → strip_byte 45 word ≡ None → bytes_eq word dashes ≡ false
plain_no_dashes word e = by (bytes_eq word dashes) refl
  where
    by : (t : Bool) → bytes_eq word dashes ≡ t → t ≡ false
    by false h = refl
    by true h = let s : word ≡ dashes = (bytes_eq-Decides word dashes).0 h in let bad : strip_byte 45 dashes ≡ None = subst (λ w. strip_byte 45 w ≡ None) s e in absurd (let no : Some (45 ∷ []) ≡ None = bad in cc)

plain_long : (word : Text) → strip_byte 45 word ≡ None → long_of word ≡ None
plain_long word e = rw e refl

plain_short : (word : Text) → strip_byte 45 word ≡ None → short_of word ≡ None
plain_short word e = rw e refl

abbrev Form : Text → Type 0
Form word = ((q : Text × Option Text) × (long_of word ≡ Some q)) ⊎ (strip_byte 45 word ≡ None)

abbrev AllForms : List Text → Type 0
AllForms [] = ⊤
AllForms (word ∷ words) = Form word × AllForms words

and_not : (t : Bool) → (t && not true) ≡ false
and_not true = refl
and_not false = refl

both_true : (p q : Bool) → (p && q) ≡ true → p ≡ true
both_true true q h = refl
both_true false q h = absurd cc

no_stray : (word : Text) → Form word → is_stray word ≡ false
no_stray word (inl (q, e)) = ap (λ o. is_some (behind_hyphen word) && not (is_some o)) e ∙ and_not (is_some (behind_hyphen word))
no_stray word (inr e) = ap (λ o. is_some o && not (is_some (option_of word))) e

-- ---- kinds

abbrev IsFault : Kinds → Type 0
IsFault [] = ⊥
IsFault (k ∷ ks) = ⊤

first_fault : (a b : Kinds) → IsFault a → IsFault (or_else a b)
first_fault [] b h = absurd h
first_fault (k ∷ ks) b h = tt

three : (a b d : Kinds) → or_else (or_else a b) d ≡ or_else a (or_else b d)
three [] b d = refl
three (k ∷ ks) b d = refl

-- ---- rows

has_use : (given : List Use) (x : Text) → has_row x (map row_of_use given) ≡ list_any (λ u. bytes_eq u.0 x) given
has_use [] x = refl
has_use (u ∷ us) x = ap (λ t. bytes_eq u.0 x || t) (has_use us x)

at_end : (x : Text) (change : Row → List Row) (missing rows : List Row) → has_row x rows ≡ false → at_row x change missing rows ≡ rows ++ missing
at_end x change missing [] h = refl
at_end x change missing (r ∷ rs) h = by (at_end x change missing rs) (bytes_eq r.id x) refl
  where
    by : (has_row x rs ≡ false → at_row x change missing rs ≡ rs ++ missing) → (t : Bool) → bytes_eq r.id x ≡ t → at_row x change missing (r ∷ rs) ≡ r ∷ (rs ++ missing)
    by rest true e = absurd (true≢false (let k : (true || has_row x rs) ≡ false = rw e at h in k))
    by rest false e = rw e (ap (λ l. r ∷ l) (rest (let k : (false || has_row x rs) ≡ false = rw e at h in k)))

-- a use behind uses of other names
used_once : (given : List Use) (n v : Text) → list_any (λ u. bytes_eq u.0 n) given ≡ false → used (rule_for n) (v ∷ []) (map row_of_use given) ≡ map row_of_use (given ++ (n, v) ∷ [])
used_once given n v fresh =
    let none : has_row n (map row_of_use given) ≡ false = has_use given n ∙ fresh in
    let left : at_row n (λ _. []) [] (map row_of_use given) ≡ map row_of_use given = at_end n (λ _. []) [] (map row_of_use given) none ∙ append-nil (map row_of_use given) in
    ap (λ rows. at_row n (more_values CommandLine (v ∷ [])) (row_of_use (n, v) ∷ []) rows) left ∙ at_end n (more_values CommandLine (v ∷ [])) (row_of_use (n, v) ∷ []) (map row_of_use given) none ∙ sym (map-append row_of_use given ((n, v) ∷ []))

use_fails : (given : List Use) (n v : Text) → list_any (λ u. bytes_eq u.0 n) given ≡ true → IsFault (use_fault false (rule_for n) (v ∷ []) (map row_of_use given))
use_fails given n v is = rw (has_use given n, is) tt

use_goes : (given : List Use) (n v : Text) → list_any (λ u. bytes_eq u.0 n) given ≡ false → use_fault false (rule_for n) (v ∷ []) (map row_of_use given) ≡ []
use_goes given n v is = rw (has_use given n, is) refl

-- ---- the reading, once it failed

read_none : (names words : List Text) → fold (read_word names) None words ≡ None
read_none names [] = refl
read_none names (word ∷ words) = read_none names words

-- ---- a turn of the walk

module _ (label : Text) (names : List Text) where
  abbrev c : List Rule
  c = rules_for names

  abbrev s : Shape
  s = shape_for label names

  abbrev at : Waiting → Held → ℕ → Walk
  at wt h p = record { held = h; waiting = wt; position = p; is_trailing = false; stopped = None }

  abbrev total : Walk → List Text → Kinds
  total w words = or_else (walk_fault s [] w words) (settle_fault c false (fold (walked c []) w words).held)

  total_next : (w : Walk) (word : Text) (rest : List Text) → total w (word ∷ rest) ≡ or_else (turn_fault s [] w word) (total (walked c [] w word) rest)
  unfolding walk_fault
  total_next w word rest = three (turn_fault s [] w word) (walk_fault s [] (walked c [] w word) rest) (settle_fault c false (fold (walked c []) w (word ∷ rest)).held)

  -- a word that is an option's
  long_turn : (wt : Waiting) (h : Held) (p : ℕ) (word : Text) (q : Text × Option Text) → long_of word ≡ Some q → turn_fault s [] (at wt h p) word
      ≡ or_else (long_fault c false (arg_by_long c q.0) q.1 h) (step_fault s p (long_word c wt word q.0 q.1 h).0 (long_word c wt word q.0 q.1 h).1)
  long_turn idle h p word q e = rw (long_no_dashes word q e, e) refl
  long_turn (option n) h p word q e = rw (long_no_dashes word q e, e) refl
  long_turn positional h p word q e = rw (long_no_dashes word q e, e) refl

  long_walked : (wt : Waiting) (h : Held) (p : ℕ) (word : Text) (q : Text × Option Text) → long_of word ≡ Some q → walked c [] (at wt h p) word
      ≡ after_step c word (at wt h p) (long_word c wt word q.0 q.1 h).0 (long_word c wt word q.0 q.1 h).1
  unfolding walked
  long_walked idle h p word q e = rw (long_no_dashes word q e, e) refl
  long_walked (option n) h p word q e = rw (long_no_dashes word q e, e) refl
  long_walked positional h p word q e = rw (long_no_dashes word q e, e) refl

  -- a word that begins with no hyphen
  plain_turn : (wt : Waiting) (h : Held) (p : ℕ) (word : Text) → strip_byte 45 word ≡ None → turn_fault s [] (at wt h p) word
      ≡ step_fault s p (plain_word c wt word h).0 (plain_word c wt word h).1
  plain_turn idle h p word e = rw (plain_no_dashes word e, plain_long word e, plain_short word e) refl
  plain_turn (option n) h p word e = rw (plain_no_dashes word e, plain_long word e, plain_short word e) refl
  plain_turn positional h p word e = rw (plain_no_dashes word e, plain_long word e, plain_short word e) refl

  plain_walked : (wt : Waiting) (h : Held) (p : ℕ) (word : Text) → strip_byte 45 word ≡ None → walked c [] (at wt h p) word
      ≡ after_step c word (at wt h p) (plain_word c wt word h).0 (plain_word c wt word h).1
  unfolding walked
  plain_walked idle h p word e = rw (plain_no_dashes word e, plain_long word e, plain_short word e) refl
  plain_walked (option n) h p word e = rw (plain_no_dashes word e, plain_long word e, plain_short word e) refl
  plain_walked positional h p word e = rw (plain_no_dashes word e, plain_long word e, plain_short word e) refl

  -- ---- what an option's word comes to

  abbrev known_fault : Text → Option Text → Held → Kinds
  known_fault n None h = settle_fault c false h
  known_fault n (Some v) h = or_else (settle_fault c false h) (use_fault false (rule_for n) (v ∷ []) (settled c h).rows)

  abbrev known_met : Text → Option Text → Held → Held × Step
  known_met n None h = (record (settled c h) { pending = Some (n, []) }, next (option n))
  known_met n (Some v) h = (reacted c (rule_for n) (v ∷ []) h, next idle)

  opens_fault : (n : Text) (v : Option Text) (h : Held) → is_name names n ≡ true → long_fault c false (arg_by_long c n) v h ≡ known_fault n v h
  opens_fault n None h is = rw (by_long names n, is) refl
  opens_fault n (Some v) h is = rw (by_long names n, is) refl

  opens_met : (wt : Waiting) (word n : Text) (v : Option Text) (h : Held) → is_name names n ≡ true → long_word c wt word n v h ≡ known_met n v h
  opens_met wt word n None h is = rw (by_long names n, is) refl
  opens_met wt word n (Some v) h is = rw (by_long names n, is) refl

  unknown_fails : (n : Text) (v : Option Text) (h : Held) → is_name names n ≡ false → IsFault (long_fault c false (arg_by_long c n) v h)
  unknown_fails n v h is = rw (by_long names n, is) tt

  -- where what is pending fails, each option's word does
  long_fails : (n : Text) (v : Option Text) (h : Held) → IsFault (settle_fault c false h) → IsFault (long_fault c false (arg_by_long c n) v h)
  long_fails n v h bad = by (is_name names n) refl v
    where
      by : (t : Bool) → is_name names n ≡ t → (v : Option Text) → IsFault (long_fault c false (arg_by_long c n) v h)
      by false is v = unknown_fails n v h is
      by true is None = rw (opens_fault n None h is) bad
      by true is (Some v) = rw (opens_fault n (Some v) h is) (first_fault (settle_fault c false h) (use_fault false (rule_for n) (v ∷ []) (settled c h).rows) bad)

  waiting_fails : (n : Text) (h : Held) → h.pending ≡ Some (n, []) → is_name names n ≡ true → IsFault (settle_fault c false h)
  waiting_fails n h pending is = rw (pending, by_id names n, is) tt

  plain_met : (n word : Text) (h : Held) → h.pending ≡ Some (n, []) → is_name names n ≡ true → option_word (arg_by_id c n) n word h ≡ (record h { pending = Some (n, word ∷ []) }, idle)
  plain_met n word h pending is = rw (by_id names n, is, pending, same_text n) refl

  -- ---- all words

  long_turn_fails : (wt : Waiting) (h : Held) (p : ℕ) (word : Text) (q : Text × Option Text) → long_of word ≡ Some q → IsFault (long_fault c false (arg_by_long c q.0) q.1 h) → IsFault (turn_fault s [] (at wt h p) word)
  long_turn_fails wt h p word q e bad = rw (long_turn wt h p word q e) (first_fault (long_fault c false (arg_by_long c q.0) q.1 h) (step_fault s p (long_word c wt word q.0 q.1 h).0 (long_word c wt word q.0 q.1 h).1) bad)

  stray_fails : (h : Held) (p : ℕ) (word : Text) → strip_byte 45 word ≡ None → IsFault (turn_fault s [] (at idle h p) word)
  stray_fails h p word e = rw (plain_turn idle h p word e, by_index names p) tt

  doomed : (words : List Text) (h : Held) (p : ℕ) → AllForms words → IsFault (settle_fault c false h) → IsFault (total (at idle h p) words)
  unfolding walk_fault
  doomed [] h p forms bad = bad
  doomed (word ∷ rest) h p forms bad = rw (total_next (at idle h p) word rest) (first_fault (turn_fault s [] (at idle h p) word) (total (walked c [] (at idle h p) word) rest) (by forms.0))
    where
      by : Form word → IsFault (turn_fault s [] (at idle h p) word)
      by (inl (q, e)) = long_turn_fails idle h p word q e (long_fails q.0 q.1 h bad)
      by (inr e) = stray_fails h p word e

  abbrev Stands : List Use → Option Text → Held → Type 0
  Stands given None h = (settled_rows c h.pending h.rows ≡ map row_of_use given) × (settle_fault c false h ≡ [])
  Stands given (Some n) h = (h.pending ≡ Some (n, [])) × (h.rows ≡ map row_of_use given) × (is_name names n ≡ true)

  abbrev waits : Option Text → Waiting
  waits None = idle
  waits (Some n) = option n

  abbrev end_rows : Walk → List Text → List Row
  end_rows w words = settled_rows c (fold (walked c []) w words).held.pending (fold (walked c []) w words).held.rows

  abbrev Ended : Kinds → List Row → List Use → Option Text → Type 0
  Ended kinds rows given None = (kinds ≡ []) × (rows ≡ map row_of_use given)
  Ended kinds rows given (Some n) = IsFault kinds

  abbrev Agrees : Kinds → List Row → Option Reading → Type 0
  Agrees kinds rows None = IsFault kinds
  Agrees kinds rows (Some r) = Ended kinds rows r.given r.waiting

  abbrev state : List Use → Option Text → Reading
  state given waiting = record { given = given; waiting = waiting }

  -- the rest of the walk agrees with the rest of the reading
  abbrev Rest : Walk → Option Reading → List Text → Type 0
  Rest w r rest = Agrees (total w rest) (end_rows w rest) (fold (read_word names) r rest)

  abbrev Turned : Walk → Option Reading → Text → List Text → Type 0
  Turned w r word rest = Agrees (or_else (turn_fault s [] w word) (total (walked c [] w word) rest)) (end_rows (walked c [] w word) rest) (fold (read_word names) (read_word names r word) rest)

  goes : (w later : Walk) (r after : Option Reading) (word : Text) (rest : List Text) → turn_fault s [] w word ≡ [] → walked c [] w word ≡ later → read_word names r word ≡ after → Rest later after rest → Turned w r word rest
  goes w later r after word rest turn walk reads agrees = rw (turn, walk, reads) agrees

  stops : (w : Walk) (r : Option Reading) (word : Text) (rest : List Text) → IsFault (turn_fault s [] w word) → read_word names r word ≡ None → Turned w r word rest
  stops w r word rest bad reads = rw (reads, read_none names rest) (first_fault (turn_fault s [] w word) (total (walked c [] w word) rest) bad)

  abbrev Onwards : List Text → ℕ → Type 0
  Onwards rest p = (given : List Use) (waiting : Option Text) (h : Held) → Stands given waiting h → Rest (at (waits waiting) h p) (Some (state given waiting)) rest

  -- `--name` where nothing waits
  opens_name : (given : List Use) (h : Held) (p : ℕ) (word n : Text) (rest : List Text) → Onwards rest p → Stands given None h → long_of word ≡ Some (n, None) → is_name names n ≡ true → Turned (at idle h p) (Some (state given None)) word rest
  opens_name given h p word n rest onwards stands e is =
      let later : Held = record (settled c h) { pending = Some (n, []) } in
      let q : Text × Option Text = (n, None) in
      goes (at idle h p) (at (option n) later p) (Some (state given None)) (Some (state given (Some n))) word rest
      (rw (long_turn idle h p word q e, opens_fault n None h is, opens_met idle word n None h is, stands.1) refl)
      (rw (long_walked idle h p word q e, opens_met idle word n None h is) refl)
      (rw (no_stray word (inl (q, e)), e, is) refl)
      (onwards given (Some n) later (refl, stands.0, is))

  -- `--name=value` where nothing waits
  opens_value : (given : List Use) (h : Held) (p : ℕ) (word n v : Text) (rest : List Text) → Onwards rest p → Stands given None h → long_of word ≡ Some (n, Some v) → is_name names n ≡ true → Turned (at idle h p) (Some (state given None)) word rest
  opens_value given h p word n v rest onwards stands e is = by (list_any (λ u. bytes_eq u.0 n) given) refl
    where
      q : Text × Option Text
      q = (n, Some v)

      by : (t : Bool) → list_any (λ u. bytes_eq u.0 n) given ≡ t → Turned (at idle h p) (Some (state given None)) word rest
      by true twice = stops (at idle h p) (Some (state given None)) word rest
          (long_turn_fails idle h p word q e (rw (opens_fault n (Some v) h is, stands.1, stands.0) (use_fails given n v twice)))
          (rw (no_stray word (inl (q, e)), e, is, twice) refl)
      by false once =
          let later : Held = reacted c (rule_for n) (v ∷ []) h in
          goes (at idle h p) (at idle later p) (Some (state given None)) (Some (stood (given ++ (n, v) ∷ []))) word rest
          (rw (long_turn idle h p word q e, opens_fault n (Some v) h is, opens_met idle word n (Some v) h is, stands.1, stands.0, use_goes given n v once) refl)
          (rw (long_walked idle h p word q e, opens_met idle word n (Some v) h is) refl)
          (rw (no_stray word (inl (q, e)), e, is, once) refl)
          (onwards (given ++ (n, v) ∷ []) None later (rw stands.0 (used_once given n v once), refl))

  -- a value behind `--name`
  takes_value : (given : List Use) (n : Text) (h : Held) (p : ℕ) (word : Text) (rest : List Text) → AllForms rest → Onwards rest p → Stands given (Some n) h → strip_byte 45 word ≡ None → Turned (at (option n) h p) (Some (state given (Some n))) word rest
  takes_value given n h p word rest forms onwards stands e = by (list_any (λ u. bytes_eq u.0 n) given) refl
    where
      later : Held
      later = record h { pending = Some (n, word ∷ []) }

      turn : turn_fault s [] (at (option n) h p) word ≡ []
      turn = plain_turn (option n) h p word e

      walk : walked c [] (at (option n) h p) word ≡ at idle later p
      walk = rw (plain_walked (option n) h p word e, plain_met n word h stands.0 stands.2) refl

      by : (t : Bool) → list_any (λ u. bytes_eq u.0 n) given ≡ t → Turned (at (option n) h p) (Some (state given (Some n))) word rest
      by true twice = goes (at (option n) h p) (at idle later p) (Some (state given (Some n))) None word rest turn walk
          (rw (no_stray word (inr e), plain_long word e, twice) refl)
          (rw (read_none names rest) (doomed rest later p forms (rw (by_id names n, stands.2, stands.1) (use_fails given n word twice))))
      by false once = goes (at (option n) h p) (at idle later p) (Some (state given (Some n))) (Some (stood (given ++ (n, word) ∷ []))) word rest turn walk
          (rw (no_stray word (inr e), plain_long word e, once) refl)
          (onwards (given ++ (n, word) ∷ []) None later (rw (by_id names n, stands.2, stands.1) (used_once given n word once), rw (by_id names n, stands.2, stands.1) (use_goes given n word once)))

  unknown_read : (given : List Use) (n : Text) (v : Option Text) → is_name names n ≡ false → opened names given n v ≡ None
  unknown_read given n None is = rw is refl
  unknown_read given n (Some v) is = rw is refl

  turned : (given : List Use) (waiting : Option Text) (h : Held) (p : ℕ) (word : Text) (rest : List Text) → Form word → AllForms rest → Onwards rest p → Stands given waiting h → Turned (at (waits waiting) h p) (Some (state given waiting)) word rest
  turned given None h p word rest (inl ((n, v), e)) forms onwards stands = by (is_name names n) refl v e
    where
      by : (t : Bool) → is_name names n ≡ t → (v : Option Text) → long_of word ≡ Some (n, v) → Turned (at idle h p) (Some (state given None)) word rest
      by false is v e = stops (at idle h p) (Some (state given None)) word rest (long_turn_fails idle h p word (n, v) e (unknown_fails n v h is)) (rw (no_stray word (inl ((n, v), e)), e) (unknown_read given n v is))
      by true is None e = opens_name given h p word n rest onwards stands e is
      by true is (Some v) e = opens_value given h p word n v rest onwards stands e is
  turned given None h p word rest (inr e) forms onwards stands = stops (at idle h p) (Some (state given None)) word rest (stray_fails h p word e) (rw (no_stray word (inr e), plain_long word e) refl)
  turned given (Some n) h p word rest (inl (q, e)) forms onwards stands = stops (at (option n) h p) (Some (state given (Some n))) word rest
      (long_turn_fails (option n) h p word q e (long_fails q.0 q.1 h (waiting_fails n h stands.0 stands.2))) (rw (no_stray word (inl (q, e)), e) refl)
  turned given (Some n) h p word rest (inr e) forms onwards stands = takes_value given n h p word rest forms onwards stands e

  all_words : (words : List Text) (given : List Use) (waiting : Option Text) (h : Held) (p : ℕ) → AllForms words → Stands given waiting h → Rest (at (waits waiting) h p) (Some (state given waiting)) words
  unfolding walk_fault
  all_words [] given None h p forms stands = (stands.1, stands.0)
  all_words [] given (Some n) h p forms stands = waiting_fails n h stands.0 stands.2
  all_words (word ∷ rest) given waiting h p forms stands =
      rw (total_next (at (waits waiting) h p) word rest) (turned given waiting h p word rest forms.0 forms.1 (λ g w k st. all_words rest g w k p forms.1 st) stands)

  -- ---- the whole of a parse

  rules_built : (ns : List Text) → filled_from 1 (map option_rule ns) ≡ rules_for ns
  rules_built [] = refl
  rules_built (n ∷ ns) = ap (λ rules. rule_for n ∷ rules) (rules_built ns)

  abbrev leaf : App
  leaf = record { top = s; subs = [] }

  line_built : built (line_of label names) ≡ leaf
  line_built = ap (λ rules. record { top = record s { rules = rules }; subs = [] }) (rules_built names)

  no_defaults : (ns : List Text) (rows : List Row) → defaults_fault rows (rules_for ns) ≡ []
  unfolding defaults_fault
  no_defaults [] rows = refl
  no_defaults (n ∷ ns) rows = by (has_row n rows) refl (no_defaults ns rows)
    where
      by : (t : Bool) → has_row n rows ≡ t → defaults_fault rows (rules_for ns) ≡ [] → defaults_fault rows (rules_for (n ∷ ns)) ≡ []
      by true e rest = rw e rest
      by false e rest = rw e rest

  kept : (n : Text) (rows : List Row) → with_default rows (rule_for n) ≡ rows
  kept n rows = by (has_row n rows) refl
    where
      by : (t : Bool) → has_row n rows ≡ t → with_default rows (rule_for n) ≡ rows
      by true e = rw e refl
      by false e = rw e refl

  keeps_rows : (ns : List Text) (rows : List Row) → fold with_default rows (rules_for ns) ≡ rows
  keeps_rows [] rows = refl
  keeps_rows (n ∷ ns) rows = ap (λ r. fold with_default r (rules_for ns)) (kept n rows) ∙ keeps_rows ns rows

  none_required : (ns : List Text) (rows : List Row) → list_any (λ (a : Rule). a.required && not (is_given a.id rows)) (rules_for ns) ≡ false
  none_required [] rows = refl
  none_required (n ∷ ns) rows = none_required ns rows

  checks_pass : (rows : List Row) → check_fault s rows false ≡ []
  checks_pass rows = rw (none_required names rows) refl

  nothing_entered : (stop : Option (Text × List Text)) → entered leaf stop ≡ None
  nothing_entered None = refl
  nothing_entered (Some p) = refl

  nothing_fails : (stop : Option (Text × List Text)) → entered_fault leaf stop ≡ []
  nothing_fails None = refl
  nothing_fails (Some p) = refl

  or_else_nil : (kinds : Kinds) → or_else kinds [] ≡ kinds
  or_else_nil [] = refl
  or_else_nil (k ∷ ks) = refl

  abbrev start : Walk
  start = at idle nothing_held 1

  line_fault : (words : List Text) → fault_of (line_of label names) words ≡ total start words
  line_fault words =
      let stop : Option (Text × List Text) = (walk c [] nothing_held words).stopped in
      let end : Held = (walk c [] nothing_held words).held in
      ap (λ a. built_fault a nothing_held words) line_built ∙ ap₂ (λ e b. level_fault s [] nothing_held words (is_some e) b) (nothing_entered stop) (nothing_fails stop)
      ∙ ap₂ (λ d k. or_else (walk_fault s [] start words) (or_else (settle_fault c false end) (or_else d k))) (no_defaults names (settled c end).rows) (checks_pass (finished c end))
      ∙ ap (λ k. or_else (walk_fault s [] start words) k) (or_else_nil (settle_fault c false end))

  line_rows : (words : List Text) → matches_of (line_of label names) words ≡ end_rows start words
  line_rows words = ap (λ a. finished a.top.rules (walk a.top.rules [] nothing_held words).held) line_built ∙ keeps_rows names (end_rows start words)

  line_agrees : (words : List Text) → AllForms words → Rest start (Some (stood [])) words
  line_agrees words forms = all_words words [] None nothing_held 1 forms (refl, refl)

-- ---- what is found

first_use : (name : Text) (given : List Use) → first_of name (map row_of_use given) ≡ value_of name given
first_use name [] = refl
first_use name (u ∷ us) = by (bytes_eq u.0 name) refl (first_use name us)
  where
    by : (t : Bool) → bytes_eq u.0 name ≡ t → first_of name (map row_of_use us) ≡ value_of name us → first_of name (map row_of_use (u ∷ us)) ≡ value_of name (u ∷ us)
    by true e rest = rw e refl
    by false e rest = rw e rest

either : (t r : Bool) → (t || r) ≡ false → (t ≡ false) × (r ≡ false)
either false r e = (refl, e)
either true r e = absurd cc

form_by : (word : Text) (behind : Option Text) (o : Option (Text × Option Text)) → behind_hyphen word ≡ behind → option_of word ≡ o → (is_some behind && not (is_some o)) ≡ false → Form word
form_by word None o b e none = inr b
form_by word (Some rest) None b e none = absurd cc
form_by word (Some rest) (Some q) b e none = inl (q, e)

all_forms : (words : List Text) → list_any is_stray words ≡ false → AllForms words
all_forms [] none = tt
all_forms (word ∷ words) none =
    let parts = either (is_stray word) (list_any is_stray words) none in
    (form_by word (behind_hyphen word) (option_of word) refl refl parts.0, all_forms words parts.1)

stray_none : (names : List Text) (r : Option Reading) (words : List Text) → list_any is_stray words ≡ true → fold (read_word names) r words ≡ None
stray_none names r [] some = absurd cc
stray_none names None (word ∷ words) some = read_none names words
stray_none names (Some r) (word ∷ words) some = by (is_stray word) refl (stray_none names (read_word names (Some r) word) words)
  where
    by : (t : Bool) → is_stray word ≡ t → (list_any is_stray words ≡ true → fold (read_word names) (read_word names (Some r) word) words ≡ None) → fold (read_word names) (read_word names (Some r) word) words ≡ None
    by true e rest = ap (λ o. fold (read_word names) o words) (stray_read e) ∙ read_none names words
      where
        stray_read : is_stray word ≡ true → read_word names (Some r) word ≡ None
        stray_read e = rw e refl
    by false e rest = rest (let k : (false || list_any is_stray words) ≡ true = rw e at some in k)

pub found_stray : (names words : List Text) → list_any is_stray words ≡ true → IsFound names words None
found_stray names words some = rw (stray_none names (Some (stood [])) words some) tt

no_fault : (kinds : Kinds) → kinds ≡ [] → IsFault kinds → ⊥
no_fault [] e h = h
no_fault (k ∷ ks) e h = absurd cc

among_fault : (kinds : Kinds) (k : ErrorKind) → IsAmong k kinds → IsFault kinds
among_fault [] k h = absurd h
among_fault (x ∷ xs) k h = tt

module _ (label : Text) (names words : List Text) where
  taken : (o : Option Reading) (kinds : Kinds) (rows : List Row) (m : ArgMatches) → Agrees label names kinds rows o → kinds ≡ [] → rows_of (found_of m) ≡ rows → IsFoundBy (option_and_then ended o) (Some m)
  taken None kinds rows m agrees none is = absurd (no_fault kinds none agrees)
  taken (Some r) kinds rows m agrees none is = by r.waiting refl
    where
      by : (w : Option Text) → r.waiting ≡ w → IsFoundBy (ended r) (Some m)
      by None e =
          let agreed : (kinds ≡ []) × (rows ≡ map row_of_use r.given) = rw e at agrees in
          rw e (λ name. first_value-rows (found_of m) name ∙ ap (first_of name) (is ∙ agreed.1) ∙ first_use name r.given)
      by (Some n) e = let agreed : IsFault kinds = rw e at agrees in absurd (no_fault kinds none agreed)

  refused : (o : Option Reading) (kinds : Kinds) (rows : List Row) → Agrees label names kinds rows o → IsFault kinds → IsFoundBy (option_and_then ended o) None
  refused None kinds rows agrees bad = tt
  refused (Some r) kinds rows agrees bad = by r.waiting refl
    where
      by : (w : Option Text) → r.waiting ≡ w → IsFoundBy (ended r) None
      by None e = let agreed : (kinds ≡ []) × (rows ≡ map row_of_use r.given) = rw e at agrees in absurd (no_fault kinds agreed.0 bad)
      by (Some n) e = rw e tt

  agrees : list_any is_stray words ≡ false → Agrees label names (total label names (start label names) words) (end_rows label names (start label names) words) (fold (read_word names) (Some (stood [])) words)
  agrees none = line_agrees label names words (all_forms words none)

  pub found_ok : (app : App) (m : ArgMatches) → app ≡ line_of label names → list_any is_stray words ≡ false → is_simple_and_free app ≡ true → fault_of app words ≡ [] → HasMatchesOf app words m → IsFound names words (Some m)
  found_ok app m is none simple passes matches =
      let rows = (matches (both_true (is_simple app) _ simple)).0 in
      taken (fold (read_word names) (Some (stood [])) words) (total label names (start label names) words) (end_rows label names (start label names) words) m (agrees none)
      (sym (ap (λ a. fault_of a words) is ∙ line_fault label names words) ∙ passes)
      (rows ∙ ap (λ a. matches_of a words) is ∙ line_rows label names words)

  pub found_err : (app : App) (e : Error) → app ≡ line_of label names → list_any is_stray words ≡ false → HasKind (fault_of app words) e → kind_of e ≢ kind.OutOfMemory → IsFound names words None
  found_err app e is none (inl memory) other = absurd (other memory)
  found_err app e is none (inr among) other =
      refused (fold (read_word names) (Some (stood [])) words) (total label names (start label names) words) (end_rows label names (start label names) words) (agrees none)
      (subst IsFault (ap (λ a. fault_of a words) is ∙ line_fault label names words) (among_fault (fault_of app words) (kind_of e) among))
