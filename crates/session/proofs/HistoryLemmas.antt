-- A history of one session, line by line.
use Rattle.std.proofs.Common.{◌≡◌, ◌⊎◌, inl, inr, ⊎_elim, ℕ, ◌+◌, ◌-◌, ◌<◌, ◌≤◌, List, [], ◌∷◌, ◌++◌, length, false, nat_le, nat_eq, filter, Option, Some, None, Result, Ok, Err, IsOk, zero, suc, refl, sym, ap, subst, ◌∙◌, arith, append-nil}
use Rattle.std.specs.Prelude.{slice_get, IfSome, option_to_list}
use Rattle.std.specs.List.{All, AllByRecursion as ByRecursion, flat_map, IsDistinct, cons_option}
use Rattle.std.specs.Cmp.{nat_eq_equiv}
use Rattle.std.proofs.lemmas.List.Elements.{filter-append, filter_map-append, All-nil, All-head, All-tail, All-append, All-push, All-weaker, recursion_from_All}
use Rattle.std.proofs.lemmas.List.Folds.{list_any_none}
use Rattle.std.proofs.lemmas.Map.Keys.{IsDistinct-push}
use Rattle.std.proofs.lemmas.Option.{MatchOption-at_some, IfSome_then, slice_get_within, get_or_from_slice_get}
use Rattle.std.proofs.lemmas.Grind.{flat_map-append}
use Rattle.std.proofs.lemmas.Bool.Decides.{nat_tests}
use Rattle.type_schema.specs.declared.refusal.Refusal.{Refusal}
use Rattle.type_schema.specs.Graph.{Graph}
use Rattle.a1ql_reader.specs.declared.ask.Answer.TheVariants as answer
use Rattle.a1ql_plan.specs.Answer.{answer}
use Rattle.request_reader.specs.Operations.{Reached, effect}
use Rattle.request_reader.specs.declared.request.BadWord.{BadWord}
use Rattle.request_reader.specs.declared.request.Request.{Request}
use Rattle.request_reader.specs.declared.request.Request.TheVariants.{Do, Ask, After}
use Rattle.answer_text.specs.Reply.{ok_stamp, printed}
use Rattle.answer_text.specs.Transcript.{asked, Commit, commit_in, commit_of, placed, by_stamp, commits_up_to, kept, replayed, graph_at, ok_stamps}
use Rattle.answer_text.specs.Legal.{ComesAfter, IsReplyTo}
use Rattle.answer_text.specs.declared.reply.Reply.{Reply}
use Rattle.answer_text.specs.declared.reply.Reply.TheVariants as reply
use Rattle.answer_text.specs.declared.transcript.Line.{Line}
use Rattle.session.specs.Serving.{Step, Stands, IsReached, IsSame, IsPrintedUpTo, IsPrintedBefore}

-- ---- commits by stamp

abbrev IsUpTo : ℕ → Commit → Type 0
IsUpTo s c = c.stamp ≤ s

abbrev IsAbove : ℕ → Commit → Type 0
IsAbove s c = s < c.stamp

placed_last : (c d : Commit) (ds : List Commit) → c.stamp ≤ d.stamp → placed c (ds ++ d ∷ []) ≡ placed c ds ++ d ∷ []
placed_last c d [] h = grind (arith, nat_tests)
placed_last c d (e ∷ ds) h = let more = placed_last c d ds h in grind (arith, nat_tests, more)

by_stamp_last : (cs : List Commit) (d : Commit) → ByRecursion (λ c. c.stamp ≤ d.stamp) cs → by_stamp (cs ++ d ∷ []) ≡ by_stamp cs ++ d ∷ []
by_stamp_last [] d h = refl
by_stamp_last (c ∷ cs) d h = ap (placed c) (by_stamp_last cs d h.1) ∙ placed_last c d (by_stamp cs) h.0

replayed_last : (graph : Graph) (cs : List Commit) (d : Commit) → replayed graph (cs ++ d ∷ []) ≡ replayed (replayed graph cs) (d ∷ [])
replayed_last graph [] d = refl
replayed_last graph (c ∷ cs) d = replayed_last (kept graph (effect graph c.operations)) cs d

-- at most one commit, behind all others
replayed_more : (start : Graph) (cs ds : List Commit) (clock : ℕ) → All (IsUpTo clock) cs → All (IsAbove clock) ds → length ds ≤ 1
    → replayed start (by_stamp (cs ++ ds)) ≡ replayed (replayed start (by_stamp cs)) ds
replayed_more start cs [] clock low above few = ap (λ xs. replayed start (by_stamp xs)) (append-nil cs)
replayed_more start cs (d ∷ []) clock low above few =
    let first : clock < d.stamp = above 0 d (omega arith) in
    let lower = All-weaker (IsUpTo clock) (IsUpTo d.stamp) (λ c le. omega (arith, le, first)) cs low in
    ap (replayed start) (by_stamp_last cs d (recursion_from_All (IsUpTo d.stamp) cs lower)) ∙ replayed_last start (by_stamp cs) d
replayed_more start cs (d ∷ e ∷ ds) clock low above few = absurd (omega arith)

-- ---- commits up to a stamp

all_up_to : (cs : List Commit) (s : ℕ) → ByRecursion (IsUpTo s) cs → filter (λ c. nat_le c.stamp s) cs ≡ cs
all_up_to [] s h = refl
all_up_to (c ∷ cs) s h = rw (all_up_to cs s h.1) (grind (arith, nat_tests, h.0))

none_up_to : (cs : List Commit) (s : ℕ) → ByRecursion (IsAbove s) cs → filter (λ c. nat_le c.stamp s) cs ≡ []
none_up_to [] s h = refl
none_up_to (c ∷ cs) s h = rw (none_up_to cs s h.1) (grind (arith, nat_tests, h.0))

commit_low : (clock : ℕ) (r : Result Request BadWord) (p : Reply) → IsPrintedUpTo clock p → All (IsUpTo clock) (commit_in r p)
commit_low clock (Ok (Do ops)) (reply.Ok stamp) h = All-push (IsUpTo clock) [] _ (All-nil _) h
commit_low clock r p h = All-nil _

commits_low : (clock : ℕ) (lines : List Line) → All (λ line. IsPrintedUpTo clock line.reply) lines → All (IsUpTo clock) (flat_map commit_of lines)
commits_low clock [] h = All-nil _
commits_low clock (line ∷ lines) h = All-append (IsUpTo clock) (commit_of line) (flat_map commit_of lines)
    (commit_low clock (asked line) line.reply (All-head (λ (l : Line). IsPrintedUpTo clock l.reply) line lines h))
    (commits_low clock lines (All-tail (λ (l : Line). IsPrintedUpTo clock l.reply) line lines h))

-- ---- what a request and its reply add to a history that stands at a graph and a clock

record Adds (base : ℕ) (graph : Graph) (clock : ℕ) (r : Result Request BadWord) (p : Reply) (after : Graph) (later : ℕ) : Type 0 where
  rises : clock ≤ later
  above : All (IsAbove clock) (commit_in r p)
  few : length (commit_in r p) ≤ 1
  replays : replayed graph (commit_in r p) ≡ after
  up_to : IsPrintedUpTo later p
  stamp : IfSome (ok_stamp p) (λ s. clock < s)
  within : IfSome (ok_stamp p) (λ s. (base < s) × (s ≤ later))
  comes : ComesAfter base (λ s. s ≤ clock) p
  right : (graphs : ℕ → Graph) → graphs clock ≡ graph → IsReplyTo graphs r p

reached_kept : (graph after : Graph) (r : Result Reached Refusal) → IsReached r after → kept graph r ≡ after
reached_kept graph after (Ok reached) h = h
reached_kept graph after (Err refusal) h = absurd h

reached_ok : (r : Result Reached Refusal) (after : Graph) → IsReached r after → IsOk r
reached_ok (Ok reached) after h = refl
reached_ok (Err refusal) after h = absurd h

module _ (base : ℕ) (graph : Graph) (clock : ℕ) (after : Graph) (later : ℕ) where
  -- one that commits nothing
  still : (r : Result Request BadWord) (p : Reply) → IsSame graph clock after later → commit_in r p ≡ [] → IsPrintedUpTo clock p → ok_stamp p ≡ None
      → ComesAfter base (λ s. s ≤ clock) p → ((graphs : ℕ → Graph) → graphs clock ≡ graph → IsReplyTo graphs r p) → Adds base graph clock r p after later
  still r p same none up silent comes right = record {
    rises = omega arith;
    above = rw none (All-nil _);
    few = rw none (omega arith);
    replays = rw none (sym same.0);
    up_to = rw same.1 up;
    stamp = rw silent tt;
    within = rw silent tt;
    comes = comes;
    right = right;
  }

  adds : (r : Result Request BadWord) (p : Reply) → base ≤ clock → Step graph clock r p after later → Adds base graph clock r p after later
  adds (Ok (Do ops)) (reply.Ok stamp) low h = record {
    rises = omega arith;
    above = All-push (IsAbove clock) [] _ (All-nil _) (omega arith);
    few = omega arith;
    replays = reached_kept graph after (effect graph ops) h.0;
    up_to = omega arith;
    stamp = omega arith;
    within = (omega arith, omega arith);
    comes = λ s q. omega arith;
    right = λ graphs e. let down : stamp - 1 ≡ clock = omega arith in rw (down, e) (reached_ok (effect graph ops) after h.0);
  }
  adds (Ok (Do ops)) (reply.Refused at refusal) low h = still _ _ h.2 refl (omega arith) refl (omega arith, λ s q. omega arith) (λ graphs e. rw (h.1, e) h.0)
  adds (Ok (Ask ask)) (reply.Rows at rows) low h = still _ _ h.2 refl (omega arith) refl (omega arith, λ s q. omega arith) (λ graphs e. rw (h.1, e) h.0)
  adds (Ok (Ask ask)) (reply.Count at count) low h = still _ _ h.2 refl (omega arith) refl (omega arith, λ s q. omega arith) (λ graphs e. rw (h.1, e) h.0)
  adds (Ok (Ask ask)) (reply.Refused at refusal) low h = still _ _ h.2 refl (omega arith) refl (omega arith, λ s q. omega arith) (λ graphs e. rw (h.1, e) h.0)
  adds (Ok (After session line)) (reply.Told named) low h = still _ _ h.1 refl tt refl tt (λ graphs e. h.0)
  adds (Err word) (reply.Bad printed) low h = still _ _ h.1 refl tt refl tt (λ graphs e. h.0)
  adds (Ok (Do ops)) reply.Memory low h = still _ _ h refl tt refl tt (λ graphs e. tt)
  adds (Ok (Ask ask)) reply.Memory low h = still _ _ h refl tt refl tt (λ graphs e. tt)
  adds (Ok (After session line)) reply.Memory low h = still _ _ h refl tt refl tt (λ graphs e. tt)
  adds (Err word) reply.Memory low h = still _ _ h refl tt refl tt (λ graphs e. tt)
  adds r p low h = absurd h

-- ---- stamps

stamps_last : (lines : List Line) (line : Line) → ok_stamps (lines ++ line ∷ []) ≡ ok_stamps lines ++ option_to_list (ok_stamp line.reply)
stamps_last lines line = filter_map-append (λ (l : Line). ok_stamp l.reply) lines (line ∷ []) ∙ ap (λ xs. ok_stamps lines ++ xs) (one (ok_stamp line.reply))
  where
    one : (o : Option ℕ) → cons_option o [] ≡ option_to_list o
    one None = refl
    one (Some s) = refl

distinct_more : (xs : List ℕ) (clock : ℕ) (o : Option ℕ) → IsDistinct nat_eq xs → All (λ s. s ≤ clock) xs → IfSome o (λ s. clock < s) → IsDistinct nat_eq (xs ++ option_to_list o)
distinct_more xs clock None differ low above = rw append-nil differ
distinct_more xs clock (Some w) differ low above = IsDistinct-push nat_eq_equiv xs w differ
    (list_any_none (nat_eq w) xs (All-weaker (λ s. s ≤ clock) (λ s. nat_eq w s ≡ false) (λ s le. grind (arith, nat_tests, le, above)) xs low))

all_more : (P : ℕ → Type 0) (xs : List ℕ) (o : Option ℕ) → All P xs → IfSome o P → All P (xs ++ option_to_list o)
all_more P xs None h p = rw append-nil h
all_more P xs (Some w) h p = All-push P xs w h p

-- ---- what was told

pub fewer : (base : ℕ) (P Q : ℕ → Type 0) → ((s : ℕ) → Q s → P s) → (p : Reply) → ComesAfter base P p → ComesAfter base Q p
fewer base P Q f (reply.Ok stamp) h = λ s q. h s (f s q)
fewer base P Q f (reply.Rows at rows) h = (h.0, λ s q. h.1 s (f s q))
fewer base P Q f (reply.Count at count) h = (h.0, λ s q. h.1 s (f s q))
fewer base P Q f (reply.Refused at refusal) h = (h.0, λ s q. h.1 s (f s q))
fewer base P Q f (reply.Changed object seen now) h = (h.0, λ s q. h.1 s (f s q))
fewer base P Q f (reply.Held object by) h = tt
fewer base P Q f (reply.Told line) h = tt
fewer base P Q f (reply.Bad word) h = tt
fewer base P Q f reply.SpentNode h = tt
fewer base P Q f reply.SpentStamps h = tt
fewer base P Q f reply.Memory h = tt

-- ---- answers

-- a reply that was right stays right where the graphs up to the last stamp stay the same
reply_stays : (g h : ℕ → Graph) (clock : ℕ) → ((s : ℕ) → s ≤ clock → g s ≡ h s) → (r : Result Request BadWord) (p : Reply) → IsPrintedUpTo clock p
    → IsReplyTo g r p → IsReplyTo h r p
reply_stays g h clock same (Ok (Do ops)) (reply.Ok stamp) up = subst (λ x. IsOk (effect x ops)) (same (stamp - 1) (omega (arith, up)))
reply_stays g h clock same (Ok (Do ops)) (reply.Refused at refusal) up = subst (λ x. effect x ops ≡ Err refusal) (same at up)
reply_stays g h clock same (Ok (Ask ask)) (reply.Rows at rows) up = subst (λ x. answer x ask ≡ Ok (answer.Rows rows)) (same at up)
reply_stays g h clock same (Ok (Ask ask)) (reply.Count at count) up = subst (λ x. answer x ask ≡ Ok (answer.Count count)) (same at up)
reply_stays g h clock same (Ok (Ask ask)) (reply.Refused at refusal) up = subst (λ x. answer x ask ≡ Err refusal) (same at up)
reply_stays g h clock same r p up = λ k. k

-- ---- one more line

there_or_last : {X : Type 0} (xs : List X) (x y : X) (k : ℕ) → slice_get (xs ++ x ∷ []) k ≡ Some y
    → ((k < length xs) × (slice_get xs k ≡ Some y)) ⊎ ((k ≡ length xs) × (y ≡ x))
there_or_last [] x y zero e = inr (refl, cc)
there_or_last [] x y (suc k) e = absurd cc
there_or_last (z ∷ xs) x y zero e = inl (omega arith, e)
there_or_last (z ∷ xs) x y (suc k) e = ⊎_elim (λ p. inl (omega (arith, p.0), p.1)) (λ p. inr (omega (arith, p.0), p.1)) (there_or_last xs x y k e)

module _ (start : Graph) (base : ℕ) (lines : List Line) (graph : Graph) (clock : ℕ) (st : Stands start base lines graph clock) where
  told_low : (j s : ℕ) → IsPrintedBefore lines j s → s ≤ clock
  told_low j s q = MatchOption-at_some _ (λ t. t ≤ clock) s q.says
      (subst (λ (l : Line). IsPrintedUpTo clock l.reply) (get_or_from_slice_get lines q.place q.line q.line q.there) (st.up_to q.place q.line (slice_get_within lines q.place q.line q.there)))

  -- a line more leaves the graph up to the clock as it was, and at a later stamp replays its commit
  graph_before : (line : Line) (s : ℕ) → s ≤ clock → All (IsAbove clock) (commit_of line) → graph_at start (lines ++ line ∷ []) s ≡ graph_at start lines s
  unfolding graph_at commits_up_to
  graph_before line s le above =
      let none = none_up_to (commit_of line) s (recursion_from_All (IsAbove s) _ (All-weaker (IsAbove clock) (IsAbove s) (λ c lt. omega (arith, le, lt)) _ above)) in
      let same : filter (λ c. nat_le c.stamp s) (flat_map commit_of (lines ++ line ∷ [])) ≡ filter (λ c. nat_le c.stamp s) (flat_map commit_of lines) =
      rw (flat_map-append, filter-append, append-nil, none, append-nil) refl in
      ap (λ cs. replayed start (by_stamp cs)) same

  graph_after : (line : Line) (later : ℕ) → clock ≤ later → All (IsAbove clock) (commit_of line) → length (commit_of line) ≤ 1 → IsPrintedUpTo later line.reply
      → graph_at start (lines ++ line ∷ []) later ≡ replayed graph (commit_of line)
  unfolding graph_at commits_up_to
  graph_after line later rises above few up =
      let cs : List Commit = flat_map commit_of lines in
      let low = commits_low clock lines st.up_to in
      let all = All-append (IsUpTo later) cs (commit_of line) (All-weaker (IsUpTo clock) (IsUpTo later) (λ c le. omega (arith, rises, le)) cs low)
      (commit_low later (asked line) line.reply up) in
      let joined : filter (λ c. nat_le c.stamp later) (flat_map commit_of (lines ++ line ∷ [])) ≡ cs ++ commit_of line =
      rw (flat_map-append, append-nil) (all_up_to (cs ++ commit_of line) later (recursion_from_All (IsUpTo later) _ all)) in
      ap (λ xs. replayed start (by_stamp xs)) joined
      ∙ replayed_more start cs (commit_of line) clock low above few
      ∙ ap (λ g. replayed g (commit_of line)) (ap (λ xs. replayed start (by_stamp xs)) (sym (all_up_to cs clock (recursion_from_All (IsUpTo clock) cs low))) ∙ st.now)

  -- what was told before an earlier line stays the same
  same_told : (line : Line) (j s : ℕ) → j ≤ length lines → IsPrintedBefore (lines ++ line ∷ []) j s → IsPrintedBefore lines j s
  same_told line j s h q = record {
    place = q.place;
    line = q.line;
    before = q.before;
    there = ⊎_elim (λ p. p.1) (λ p. absurd (omega (arith, p.0, q.before, h))) (there_or_last lines line q.line q.place q.there);
    says = q.says;
  }

  line_added : (line : Line) (after : Graph) (later : ℕ) → Adds base graph clock (asked line) line.reply after later → Stands start base (lines ++ line ∷ []) after later
  line_added line after later ad = record {
    now = graph_after line later ad.rises ad.above ad.few ad.up_to ∙ ad.replays;
    low = omega (arith, st.low, ad.rises);
    up_to = All-push (λ (l : Line). IsPrintedUpTo later l.reply) lines line
        (λ k d h. IfSome_then _ {P = λ t. t ≤ clock} {Q = λ t. t ≤ later} (st.up_to k d h) (λ t le. omega (arith, ad.rises, le))) ad.up_to;
    stamps_differ = rw stamps_last (distinct_more (ok_stamps lines) clock (ok_stamp line.reply) st.stamps_differ (λ k d h. (st.stamps_within k d h).1) ad.stamp);
    stamps_within = rw stamps_last (all_more (λ t. (base < t) × (t ≤ later)) (ok_stamps lines) (ok_stamp line.reply)
        (λ k d h. let within = st.stamps_within k d h in (within.0, omega (arith, ad.rises, within.1))) ad.within);
    told_first = λ j l e. ⊎_elim
        (λ p. fewer base (IsPrintedBefore lines j) (IsPrintedBefore (lines ++ line ∷ []) j) (λ s. same_told line j s (omega (arith, p.0))) l.reply (st.told_first j l p.1))
        (λ p. rw p.1 (fewer base (λ s. s ≤ clock) (IsPrintedBefore (lines ++ line ∷ []) j) (λ s q. told_low j s (same_told line j s (omega (arith, p.0)) q)) line.reply ad.comes))
        (there_or_last lines line l j e);
    answered = All-push (λ (l : Line). IsReplyTo (graph_at start (lines ++ line ∷ [])) (asked l) l.reply) lines line
        (λ k d h. reply_stays (graph_at start lines) (graph_at start (lines ++ line ∷ [])) clock (λ s le. sym (graph_before line s le ad.above)) _ _ (st.up_to k d h) (st.answered k d h))
        (ad.right (graph_at start (lines ++ line ∷ [])) (graph_before line clock (omega arith) ad.above ∙ st.now));
  }

pub line_served : (start : Graph) (base : ℕ) (lines : List Line) (line : Line) (graph : Graph) (clock : ℕ) (after : Graph) (later : ℕ) → Stands start base lines graph clock
    → Step graph clock (asked line) line.reply after later → Stands start base (lines ++ line ∷ []) after later
line_served start base lines line graph clock after later st step = line_added start base lines graph clock st line after later (adds base graph clock after later (asked line) line.reply st.low step)

pub none_served : (start : Graph) (base : ℕ) → Stands start base [] start base
unfolding graph_at commits_up_to IsDistinct
none_served start base = record { now = refl; low = omega arith; up_to = All-nil _; stamps_differ = tt; stamps_within = All-nil _; told_first = λ j line e. absurd cc; answered = All-nil _ }

pub step_clock : (graph : Graph) (clock : ℕ) (r : Result Request BadWord) (p : Reply) (after : Graph) (later : ℕ) → Step graph clock r p after later → later ≤ clock + 1
step_clock graph clock (Ok (Do ops)) (reply.Ok stamp) after later h = omega (arith, h.2)
step_clock graph clock (Ok (Do ops)) (reply.Refused at refusal) after later h = omega (arith, h.2.1)
step_clock graph clock (Ok (Ask ask)) (reply.Rows at rows) after later h = omega (arith, h.2.1)
step_clock graph clock (Ok (Ask ask)) (reply.Count at count) after later h = omega (arith, h.2.1)
step_clock graph clock (Ok (Ask ask)) (reply.Refused at refusal) after later h = omega (arith, h.2.1)
step_clock graph clock (Ok (After session line)) (reply.Told named) after later h = omega (arith, h.1.1)
step_clock graph clock (Err word) (reply.Bad printed) after later h = omega (arith, h.1.1)
step_clock graph clock (Ok (Do ops)) reply.Memory after later h = omega (arith, h.1)
step_clock graph clock (Ok (Ask ask)) reply.Memory after later h = omega (arith, h.1)
step_clock graph clock (Ok (After session line)) reply.Memory after later h = omega (arith, h.1)
step_clock graph clock (Err word) reply.Memory after later h = omega (arith, h.1)
step_clock graph clock r p after later h = absurd h
