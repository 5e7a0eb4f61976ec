-- The transcript of the only session is a legal history.
use Rattle.std.proofs.Common.{◌≡◌, ℕ, ◌<◌, ◌≤◌, List, [], ◌∷◌, map, nat_eq, Some, Ok, zero, suc, sym, ap, ◌∙◌, subst, arith, append-nil}
use Rattle.std.specs.Prelude.{Contains, slice_get}
use Rattle.std.specs.List.{AllByRecursion, IsDistinct}
use Rattle.std.specs.Prelude.{option_map}
use Rattle.std.proofs.lemmas.List.Elements.{recursion_from_All}
use Rattle.std.proofs.lemmas.Option.{slice_get-map}
use Rattle.type_schema.specs.Graph.{Graph}
use Rattle.request_reader.specs.declared.request.Request.TheVariants.{After}
use Rattle.answer_text.specs.Transcript.{lines_of, asked, NamesBefore, graph_at, ok_stamps, IsLineAt, IsTold, own, heard}
use Rattle.answer_text.specs.Legal.{IsReplyTo, IsLegal}
use Rattle.answer_text.specs.declared.transcript.Line.{Line}
use Rattle.answer_text.specs.declared.transcript.Transcript.{Transcript}
use Rattle.session.specs.Serving.{Stands, IsPrintedBefore}
use Rattle.session.proofs.HistoryLemmas.{fewer}

among_none : (s : ℕ) → ¬ Contains [] s
among_none s h = absurd (omega (arith, h.1))

all_apart : (stamps : List ℕ) → AllByRecursion (λ s. ¬ Contains [] s) stamps
all_apart [] = tt
all_apart (s ∷ stamps) = (among_none s, all_apart stamps)

only_one : (t u : Transcript) → Contains (t ∷ []) u → t ≡ u
only_one t u (zero, h, e) = e
only_one t u (suc k, h, e) = absurd (omega (arith, h))

line_of_only : (t : Transcript) (i j : ℕ) (line : Line) → IsLineAt (t ∷ []) i j line → slice_get t.lines j ≡ Some line
line_of_only t i j line h = subst (λ (u : Transcript). slice_get u.lines j ≡ Some line) (sym (only_one t h.0 h.1.0)) h.1.2

session_of_only : (t : Transcript) (i j : ℕ) (line : Line) → IsLineAt (t ∷ []) i j line → t.session ≡ i
session_of_only t i j line h = ap (λ (u : Transcript). u.session) (only_one t h.0 h.1.0) ∙ h.1.1

-- a session that was told something is the only one
told_to_only : (t : Transcript) (i j s : ℕ) → IsTold (t ∷ []) i j s → t.session ≡ i
told_to_only t i j s (own p q k r line h at says) = session_of_only t p k line at
told_to_only t i j s (heard p q k o n r line h at asks tells more) = session_of_only t p k line at

-- an `after` line of the only session names a line before it
named_before : (t : Transcript) → NamesBefore t.session (map (λ (line : Line). line.request) t.lines)
    → (i k q n : ℕ) (line : Line) → IsLineAt (t ∷ []) i k line → asked line ≡ Ok (After q n) → q ≡ t.session → n ≤ k
named_before t names i k q n line at asks same =
    names k q n line.request (slice_get-map (λ (l : Line). l.request) t.lines k ∙ ap (option_map (λ (l : Line). l.request)) (line_of_only t i k line at)) asks same

-- all that was told was printed by a line before
told_before : (t : Transcript) → NamesBefore t.session (map (λ (line : Line). line.request) t.lines)
    → (i j s : ℕ) → IsTold (t ∷ []) i j s → IsPrintedBefore t.lines j s
told_before t names i j s (own p q k r line h at says) = record { place = k; line = line; before = h; there = line_of_only t p k line at; says = says }
told_before t names i j s (heard p q k o n r line h at asks tells more) =
    let there = told_before t names o n r more in
    let low = named_before t names p k o n line at asks (sym (told_to_only t o n r more)) in
    record { place = there.place; line = there.line; before = omega (arith, h, low, there.before); there = there.there; says = there.says }

-- what was served is legal
pub served_legal : (start : Graph) (base : ℕ) (t : Transcript) (graph : Graph) (clock : ℕ) → NamesBefore t.session (map (λ (line : Line). line.request) t.lines)
    → Stands start base t.lines graph clock → IsLegal start base (t ∷ []) []
served_legal start base t graph clock names st =
    let all : t.lines ≡ lines_of (t ∷ []) = sym (append-nil t.lines) in
    record {
      stamps_differ = subst (λ ls. IsDistinct nat_eq (ok_stamps ls)) all st.stamps_differ;
      stamps_above = subst (λ ls. AllByRecursion (λ s. base < s) (ok_stamps ls)) all (recursion_from_All (λ s. base < s) _ (λ k d h. (st.stamps_within k d h).0));
      stamps_apart = all_apart (ok_stamps (lines_of (t ∷ [])));
      told_first = λ i j line h. fewer base (IsPrintedBefore t.lines j) (IsTold (t ∷ []) i j) (λ s q. told_before t names i j s q) line.reply (st.told_first j line (line_of_only t i j line h));
      answered = subst (λ ls. AllByRecursion (λ (line : Line). IsReplyTo (graph_at start ls) (asked line) line.reply) ls) all
          (recursion_from_All (λ (line : Line). IsReplyTo (graph_at start t.lines) (asked line) line.reply) _ st.answered);
    }
