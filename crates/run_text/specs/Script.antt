-- A script: its lines, and the sessions that they make up.
use Rattle.std.specs.Prelude.{◌≡◌, ℕ, ◌+◌, ◌-◌, ◌*◌, List, [], ◌∷◌, ◌++◌, length, sum_by, Bool, true, ◌==◌, ◌&&◌, nat_lt, nat_le, if◌then◌else◌, filter, map, Result, Ok, Err, Option, Some, None, option_and_then, ⊤}
use Rattle.std.specs.List.{flat_map, list_any}
use Rattle.a1_base.specs.declared.limits.TheConstants.{SCRIPT_LIMIT, LINE_LIMIT}
use Rattle.request_reader.specs.Request.{names_line}
use Rattle.answer_text.specs.declared.transcript.Line as whole
use Rattle.answer_text.specs.declared.transcript.Transcript.{Transcript}
use Rattle.run_text.specs.declared.script.ScriptFault.{ScriptFault}
use Rattle.run_text.specs.declared.script.ScriptFault.TheVariants.{Line, Memory}

-- ---- lines

-- these bytes in front of the first line
abbrev pub onto : List ℕ → List (List ℕ) → List (List ℕ)
onto front [] = front ∷ []
onto front (line ∷ lines) = (front ++ line) ∷ lines

-- the lines of a text, without their ends; what stands behind the last end is a line where it has a byte
abbrev pub lines_in : List ℕ → List (List ℕ)
lines_in [] = []
lines_in (b ∷ bs) = if b == 10 then [] ∷ lines_in bs else onto (b ∷ []) (lines_in bs)

-- ---- one line

-- the numbers of the sessions that are served, rising
abbrev pub session_numbers : List ℕ
session_numbers = 1 ∷ []

abbrev pub is_session : ℕ → Bool
is_session n = list_any (λ s. n == s) session_numbers

abbrev pub is_digit : ℕ → Bool
is_digit b = nat_le 48 b && nat_le b 57

-- the number that goes on with the digits up to the blank, and what stands behind the blank
abbrev pub number_on : ℕ → List ℕ → Option (ℕ × List ℕ)
number_on n [] = None
number_on n (b ∷ bs) = if b == 32 then Some (n, bs) else (if is_digit b then number_on (10 * n + (b - 48)) bs else None)

-- a number in decimal without a leading zero, a blank, and the rest
abbrev pub numbered : List ℕ → Option (ℕ × List ℕ)
numbered [] = None
numbered (b ∷ bs) = if is_digit b && nat_lt 48 b then number_on (b - 48) bs else None

abbrev pub of_session : ℕ × List ℕ → Option (ℕ × List ℕ)
of_session (n, request) = if is_session n then Some (n, request) else None

-- the session and the request of a line that has a byte
abbrev pub entry_in : List ℕ → Option (ℕ × List ℕ)
entry_in line = if nat_le (length line) LINE_LIMIT then option_and_then of_session (numbered line) else None

-- ---- all lines

-- lines, each with its session and its request
abbrev pub Entries : Type 0
Entries = List (ℕ × List ℕ)

abbrev pub requests_of : Entries → ℕ → List (List ℕ)
requests_of entries n = map (λ e. e.1) (filter (λ e. e.0 == n) entries)

-- these entries have the line of the session that is named, if one is
abbrev pub stands_in : Entries → Option (ℕ × ℕ) → Bool
stands_in before None = true
stands_in before (Some l) = nat_le l.1 (length (requests_of before l.0))

abbrev pub if_told : Entries → ℕ × List ℕ → Option (ℕ × List ℕ)
if_told before e = if stands_in before (names_line e.1) then Some e else None

-- an entry behind others; a line that its request names is one of them
abbrev pub entry_behind : Entries → List ℕ → Option (ℕ × List ℕ)
entry_behind before line = option_and_then (if_told before) (entry_in line)

-- what follows behind an entry, or the number of the line that has none
abbrev pub with_entry : ℕ → Entries → Option (ℕ × List ℕ) → (Entries → Result Entries ℕ) → Result Entries ℕ
with_entry n before None rest = Err n
with_entry n before (Some entry) rest = rest (before ++ entry ∷ [])

-- the same behind a line; one of no bytes is skipped
abbrev pub with_line : ℕ → Entries → List ℕ → (Entries → Result Entries ℕ) → Result Entries ℕ
with_line n before [] rest = rest before
with_line n before (b ∷ bs) rest = with_entry n before (entry_behind before (b ∷ bs)) rest

-- these entries with those of the lines from line n on, or the number of the first line that breaks the grammar
abbrev pub entries_from : ℕ → Entries → List (List ℕ) → Result Entries ℕ
entries_from n before [] = Ok before
entries_from n before (line ∷ lines) = with_line n before line (λ entries. entries_from (n + 1) entries lines)

-- ---- sessions

-- a session, where it has a request
abbrev pub with_requests : ℕ → List (List ℕ) → List (ℕ × List (List ℕ))
with_requests n [] = []
with_requests n (r ∷ rs) = (n, r ∷ rs) ∷ []

-- the sessions that have requests, by rising number, each with its requests in order
abbrev pub sessions_of : Entries → List (ℕ × List (List ℕ))
sessions_of entries = flat_map (λ n. with_requests n (requests_of entries n)) session_numbers

abbrev pub sessions_in : Result Entries ℕ → Result (List (ℕ × List (List ℕ))) ℕ
sessions_in (Ok entries) = Ok (sessions_of entries)
sessions_in (Err line) = Err line

-- the sessions of a script, or the number of its first line that breaks the grammar; 0 where it is too long
unfoldable pub script_of : List ℕ → Result (List (ℕ × List (List ℕ))) ℕ
script_of bytes = if nat_lt SCRIPT_LIMIT (length bytes) then Err 0 else sessions_in (entries_from 1 [] (lines_in bytes))

abbrev pub request_count : List (ℕ × List (List ℕ)) → ℕ
request_count sessions = sum_by (λ t. length t.1) sessions

-- the sessions of a transcript, with their requests
abbrev pub asked_in : List Transcript → List (ℕ × List (List ℕ))
asked_in sessions = map (λ t. (t.session, map (λ (line : whole.Line). line.request) t.lines)) sessions

-- the transcript has the script's sessions and requests, in order, with one reply per request
abbrev pub IsOf : List Transcript → List ℕ → Type 0
IsOf sessions script = script_of script ≡ Ok (asked_in sessions)

-- a reading gives this, or wants memory
abbrev pub ReadsAsScript : Result (List (ℕ × List (List ℕ))) ScriptFault → Result (List (ℕ × List (List ℕ))) ℕ → Type 0
ReadsAsScript (Ok sessions) wanted = wanted ≡ Ok sessions
ReadsAsScript (Err (Line n)) wanted = wanted ≡ Err n
ReadsAsScript (Err Memory) wanted = ⊤
