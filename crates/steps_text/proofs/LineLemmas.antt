-- The lines of a text.
use Rattle.std.proofs.Common.{◌≡◌, ◌≢◌, ℕ, zero, suc, ◌+◌, ◌<◌, List, [], ◌∷◌, ◌++◌, length, get_or, take, drop, refl, sym, ap, ◌∙◌, append_assoc, add-one, arith}
use Rattle.farm_core.specs.declared.event.Event.{Event}
use Rattle.steps_text.specs.EventText.{event_text, event_line, IsEvent, NoLine}
use Rattle.steps_text.specs.Reading.{Lacks, IsCut, Refuses, Fails, FailsLine}
use Rattle.steps_text.specs.declared.fault.LineFault.{LineFault}
use Rattle.steps_text.specs.declared.fault.LineFault.TheVariants.{Malformed, Memory}
use Rattle.steps_text.proofs.WordLemmas.{one_cut, has_mark}
use Rattle.steps_text.proofs.EventLemmas.{event_clean}

-- ---- the first LF

lacks_suc : (mark : ℕ) (text : List ℕ) (at : ℕ) → at < length text → get_or text at 0 ≢ mark → Lacks mark (take at text) → Lacks mark (take (suc at) text)
lacks_suc mark [] at h other l = absurd (omega arith)
lacks_suc mark (b ∷ text) zero h other l = (other, tt)
lacks_suc mark (b ∷ text) (suc at) h other l = (l.0, lacks_suc mark text at (omega arith) other l.1)

pub lacks_more : (mark : ℕ) (text : List ℕ) (at : ℕ) → at < length text → get_or text at 0 ≢ mark → Lacks mark (take at text) → Lacks mark (take (at + 1) text)
lacks_more mark text at h other l = rw add-one (lacks_suc mark text at h other l)

at_mark : (text : List ℕ) (at : ℕ) → at < length text → text ≡ take at text ++ get_or text at 0 ∷ drop (suc at) text
at_mark [] at h = absurd (omega arith)
at_mark (b ∷ text) zero h = refl
at_mark (b ∷ text) (suc at) h = ap (λ xs. b ∷ xs) (at_mark text at (omega arith))

pub cut_at : (mark : ℕ) (text : List ℕ) (at : ℕ) → at < length text → get_or text at 0 ≡ mark → Lacks mark (take at text) → IsCut mark text (take at text) (drop (at + 1) text)
cut_at mark text at h same l = rw add-one (record { whole = at_mark text at h ∙ ap (λ b. take at text ++ b ∷ drop (suc at) text) same; first = l })

-- ---- one line

pub line_first : (e : Event) (rest : List ℕ) → event_line e ++ rest ≡ event_text e ++ 10 ∷ rest
line_first e rest = append_assoc (event_text e) (10 ∷ []) rest

pub unended : (nodes : ℕ) (text : List ℕ) → Lacks 10 text → NoLine nodes text
unended nodes text h e rest v same = has_mark 10 (event_text e) rest (rw (same ∙ line_first e rest) at h)

line_refused : (nodes : ℕ) (text line rest : List ℕ) → IsCut 10 text line rest → Refuses event_text (IsEvent nodes) line → NoLine nodes text
line_refused nodes text line rest cut h e behind v same =
    h.none e v (one_cut 10 (event_text e) behind line rest (event_clean nodes e v) cut.first (sym (line_first e behind) ∙ sym same ∙ cut.whole)).0

pub line_fails : (nodes : ℕ) (text line rest : List ℕ) (fault : LineFault) → IsCut 10 text line rest → Fails event_text (IsEvent nodes) line fault → FailsLine nodes text fault
line_fails nodes text line rest Malformed cut h = line_refused nodes text line rest cut h
line_fails nodes text line rest Memory cut h = tt

pub line_read : (e : Event) (text line rest : List ℕ) → IsCut 10 text line rest → event_text e ≡ line → text ≡ event_line e ++ rest
line_read e text line rest cut same = cut.whole ∙ ap (λ xs. xs ++ 10 ∷ rest) (sym same) ∙ sym (line_first e rest)

-- how the first line is read, or is no event's
pub ruleset first_line = (unended, line_fails, line_read)
