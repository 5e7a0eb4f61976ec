-- What a transcript says: its text, its commits, the graph at a stamp, and what each session was told.
use Rattle.std.specs.Prelude.{◌≡◌, ℕ, ◌<◌, ◌≤◌, List, [], ◌∷◌, ◌++◌, Contains, nat_le, if◌then◌else◌, filter, slice_get, Some, Result, Ok, Err, decimal}
use Rattle.std.specs.List.{flat_map, filter_map}
use Rattle.type_schema.specs.Graph.{Graph}
use Rattle.type_schema.specs.declared.refusal.Refusal.{Refusal}
use Rattle.request_reader.specs.Request.{request_of}
use Rattle.request_reader.specs.Operations.{Reached, effect}
use Rattle.request_reader.specs.declared.operation.Op.{Op}
use Rattle.request_reader.specs.declared.request.BadWord.{BadWord}
use Rattle.request_reader.specs.declared.request.Request.{Request}
use Rattle.request_reader.specs.declared.request.Request.TheVariants.{Do, After}
use Rattle.answer_text.specs.Reply.{reply_text, ok_stamp, printed}
use Rattle.answer_text.specs.declared.reply.Reply.{Reply}
use Rattle.answer_text.specs.declared.reply.Reply.TheVariants as reply
use Rattle.answer_text.specs.declared.transcript.Line.{Line}
use Rattle.answer_text.specs.declared.transcript.Transcript.{Transcript}

-- ---- text

-- `S REPLY` and the end of the line
abbrev pub reply_line : ℕ → Line → List ℕ
reply_line session line = decimal session ++ (32 ∷ reply_text line.reply) ++ 10 ∷ []

abbrev pub session_text : Transcript → List ℕ
session_text t = flat_map (reply_line t.session) t.lines

-- what is printed: session by session, line by line
abbrev pub text_of : List Transcript → List ℕ
text_of sessions = flat_map session_text sessions

-- ---- lines

-- the lines of all sessions, in the order in which they are printed
abbrev pub lines_of : List Transcript → List Line
lines_of sessions = flat_map (λ t. t.lines) sessions

-- the line of session i that has j lines before it
abbrev pub IsLineAt : List Transcript → ℕ → ℕ → Line → Type 0
IsLineAt sessions i j line =
    (t : Transcript) × (Contains sessions t × (t.session ≡ i) × (slice_get t.lines j ≡ Some line))

-- each line of these requests that is an `after` of this session names a line before it
abbrev pub NamesBefore : ℕ → List (List ℕ) → Type 0
NamesBefore session requests =
    (k q n : ℕ) (request : List ℕ) → slice_get requests k ≡ Some request → request_of request ≡ Ok (After q n)
    → q ≡ session → n ≤ k

-- what a line asks for
abbrev pub asked : Line → Result Request BadWord
asked line = request_of line.request

-- ---- commits

-- operations that were answered as committed
pub record Commit : Type 0 where
  pub stamp : ℕ
  pub operations : List Op

abbrev pub commit_in : Result Request BadWord → Reply → List Commit
commit_in (Ok (Do ops)) (reply.Ok stamp) = record { stamp = stamp; operations = ops } ∷ []
commit_in request answer = []

abbrev pub commit_of : Line → List Commit
commit_of line = commit_in (asked line) line.reply

-- a commit among others of rising stamps, before those of its own stamp
abbrev pub placed : Commit → List Commit → List Commit
placed c [] = c ∷ []
placed c (d ∷ ds) = if nat_le c.stamp d.stamp then c ∷ d ∷ ds else d ∷ placed c ds

-- by rising stamp, those of one stamp in the order in which they stand
abbrev pub by_stamp : List Commit → List Commit
by_stamp [] = []
by_stamp (c ∷ cs) = placed c (by_stamp cs)

-- the commits of these lines by rising stamp, as far as this stamp
unfoldable pub commits_up_to : List Line → ℕ → List Commit
commits_up_to lines s = by_stamp (filter (λ c. nat_le c.stamp s) (flat_map commit_of lines))

-- a commit whose effect is a refusal leaves the graph as it was
abbrev pub kept : Graph → Result Reached Refusal → Graph
kept graph (Ok reached) = reached.graph
kept graph (Err refusal) = graph

-- the graph after these commits, one after another
abbrev pub replayed : Graph → List Commit → Graph
replayed graph [] = graph
replayed graph (c ∷ cs) = replayed (kept graph (effect graph c.operations)) cs

-- the graph at a stamp: after just the commits of stamps at most s, from the base graph on
unfoldable pub graph_at : Graph → List Line → ℕ → Graph
graph_at base lines s = replayed base (commits_up_to lines s)

-- ---- stamps

-- the stamps of the commits, in the order in which they are printed
abbrev pub ok_stamps : List Line → List ℕ
ok_stamps lines = filter_map (λ line. ok_stamp line.reply) lines

-- the stamps that session i was told before its line that has j lines before it
pub data IsTold (sessions : List Transcript) : ℕ → ℕ → ℕ → Type 0 where
  -- an own line that stands before it printed the stamp
  own : (i j k stamp : ℕ) (line : Line) → k < j → IsLineAt sessions i k line → printed line.reply ≡ Some stamp
      → IsTold sessions i j stamp
  -- an `after` line before it, answered, that names line n of session q: all that was told before line n + 1 there
  heard : (i j k q n stamp : ℕ) (line : Line) → k < j → IsLineAt sessions i k line → asked line ≡ Ok (After q n)
      → line.reply ≡ reply.Told n → IsTold sessions q n stamp → IsTold sessions i j stamp
