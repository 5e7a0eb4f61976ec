-- What serving lines at a clock keeps true.
use Rattle.std.specs.Prelude.{◌≡◌, ℕ, ◌+◌, ◌<◌, ◌≤◌, List, slice_get, nat_eq, IfSome, Some, Result, Ok, Err}
use Rattle.std.specs.List.{All, IsDistinct}
use Rattle.type_schema.specs.declared.refusal.Refusal.{Refusal}
use Rattle.type_schema.specs.Graph.{Graph}
use Rattle.a1ql_reader.specs.declared.ask.Answer.TheVariants as answer
use Rattle.a1ql_plan.specs.Answer.{answer}
use Rattle.request_reader.specs.Operations.{Reached, effect}
use Rattle.request_reader.specs.declared.request.BadWord.{BadWord}
use Rattle.request_reader.specs.declared.request.Request.{Request}
use Rattle.request_reader.specs.declared.request.Request.TheVariants.{Do, Ask, After}
use Rattle.answer_text.specs.Reply.{printed}
use Rattle.answer_text.specs.Transcript.{asked, graph_at, ok_stamps}
use Rattle.answer_text.specs.Legal.{ComesAfter, IsReplyTo}
use Rattle.answer_text.specs.declared.reply.Reply.{Reply}
use Rattle.answer_text.specs.declared.reply.Reply.TheVariants as reply
use Rattle.answer_text.specs.declared.transcript.Line.{Line}

abbrev pub IsSame : Graph → ℕ → Graph → ℕ → Type 0
IsSame graph clock after later = (after ≡ graph) × (later ≡ clock)

-- the graph that was reached
abbrev pub IsReached : Result Reached Refusal → Graph → Type 0
IsReached (Ok reached) after = reached.graph ≡ after
IsReached (Err refusal) after = ⊥

-- one request served at a clock: its reply, and the graph and the clock behind it
abbrev pub Step : Graph → ℕ → Result Request BadWord → Reply → Graph → ℕ → Type 0
Step graph clock (Ok (Do ops)) (reply.Ok stamp) after later =
    IsReached (effect graph ops) after × (stamp ≡ clock + 1) × (later ≡ clock + 1)
Step graph clock (Ok (Do ops)) (reply.Refused at refusal) after later =
    (effect graph ops ≡ Err refusal) × (at ≡ clock) × IsSame graph clock after later
Step graph clock (Ok (Ask ask)) (reply.Rows at rows) after later =
    (answer graph ask ≡ Ok (answer.Rows rows)) × (at ≡ clock) × IsSame graph clock after later
Step graph clock (Ok (Ask ask)) (reply.Count at count) after later =
    (answer graph ask ≡ Ok (answer.Count count)) × (at ≡ clock) × IsSame graph clock after later
Step graph clock (Ok (Ask ask)) (reply.Refused at refusal) after later =
    (answer graph ask ≡ Err refusal) × (at ≡ clock) × IsSame graph clock after later
Step graph clock (Ok (After session line)) (reply.Told named) after later =
    (named ≡ line) × IsSame graph clock after later
Step graph clock (Err word) (reply.Bad printed) after later = (printed ≡ word) × IsSame graph clock after later
Step graph clock request reply.Memory after later = IsSame graph clock after later
Step graph clock request other after later = ⊥

-- the reply prints no stamp above the clock
abbrev pub IsPrintedUpTo : ℕ → Reply → Type 0
IsPrintedUpTo clock r = IfSome (printed r) (λ stamp. stamp ≤ clock)

-- one of the first j lines printed the stamp
pub record IsPrintedBefore (lines : List Line) (j stamp : ℕ) : Type 0 where
  pub place : ℕ
  pub line : Line
  pub before : place < j
  pub there : slice_get lines place ≡ Some line
  pub says : printed line.reply ≡ Some stamp

-- behind these lines of the only session, which began with this graph at this base, the graph and the clock stand so
pub record Stands (start : Graph) (base : ℕ) (lines : List Line) (graph : Graph) (clock : ℕ) : Type 0 where
  pub now : graph_at start lines clock ≡ graph
  pub low : base ≤ clock
  pub up_to : All (λ line. IsPrintedUpTo clock line.reply) lines
  pub stamps_differ : IsDistinct nat_eq (ok_stamps lines)
  pub stamps_within : All (λ stamp. (base < stamp) × (stamp ≤ clock)) (ok_stamps lines)
  pub told_first : (j : ℕ) (line : Line) → slice_get lines j ≡ Some line
      → ComesAfter base (IsPrintedBefore lines j) line.reply
  pub answered : All (λ line. IsReplyTo (graph_at start lines) (asked line) line.reply) lines
