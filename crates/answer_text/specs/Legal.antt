-- When a transcript is a legal history of the graph.
use Rattle.std.specs.Prelude.{◌≡◌, ℕ, ◌-◌, ◌<◌, ◌≤◌, List, Contains, nat_eq, IsOk, Result, Ok, Err, ⊤}
use Rattle.std.specs.List.{AllByRecursion, IsDistinct}
use Rattle.type_schema.specs.Graph.{Graph}
use Rattle.a1ql_reader.specs.declared.ask.Answer.TheVariants as answer
use Rattle.a1ql_plan.specs.Answer.{answer}
use Rattle.request_reader.specs.Operations.{effect}
use Rattle.request_reader.specs.declared.request.BadWord.{BadWord}
use Rattle.request_reader.specs.declared.request.Request.{Request}
use Rattle.request_reader.specs.declared.request.Request.TheVariants.{Do, Ask, After}
use Rattle.answer_text.specs.Transcript.{lines_of, asked, graph_at, ok_stamps, IsLineAt, IsTold}
use Rattle.answer_text.specs.declared.reply.Reply.{Reply}
use Rattle.answer_text.specs.declared.reply.Reply.TheVariants as reply
use Rattle.answer_text.specs.declared.transcript.Line.{Line}
use Rattle.answer_text.specs.declared.transcript.Transcript.{Transcript}

-- a snapshot is no earlier than the base, and has all that was told
abbrev pub HasAll : ℕ → (ℕ → Type 0) → ℕ → Type 0
HasAll base told at = (base ≤ at) × ((s : ℕ) → told s → s ≤ at)

-- a reply comes after what was told: its snapshot has all of it, and its commit is above all of it, and so is a change
-- that it met
abbrev pub ComesAfter : ℕ → (ℕ → Type 0) → Reply → Type 0
ComesAfter base told (reply.Ok stamp) = (s : ℕ) → told s → s < stamp
ComesAfter base told (reply.Rows at rows) = HasAll base told at
ComesAfter base told (reply.Count at count) = HasAll base told at
ComesAfter base told (reply.Refused at refusal) = HasAll base told at
ComesAfter base told (reply.Changed object seen now) = (seen < now) × ((s : ℕ) → told s → s < now)
ComesAfter base told (reply.Held object by) = ⊤
ComesAfter base told (reply.Told line) = ⊤
ComesAfter base told (reply.Bad word) = ⊤
ComesAfter base told reply.SpentNode = ⊤
ComesAfter base told reply.SpentStamps = ⊤
ComesAfter base told reply.Memory = ⊤

-- the replies that a request may have, over the graph at each stamp; no other is one
abbrev pub IsReplyTo : (ℕ → Graph) → Result Request BadWord → Reply → Type 0
IsReplyTo graph (Ok (Do ops)) (reply.Ok stamp) = IsOk (effect (graph (stamp - 1)) ops)
IsReplyTo graph (Ok (Do ops)) (reply.Refused at refusal) = effect (graph at) ops ≡ Err refusal
IsReplyTo graph (Ok (Ask ask)) (reply.Rows at rows) = answer (graph at) ask ≡ Ok (answer.Rows rows)
IsReplyTo graph (Ok (Ask ask)) (reply.Count at count) = answer (graph at) ask ≡ Ok (answer.Count count)
IsReplyTo graph (Ok (Ask ask)) (reply.Refused at refusal) = answer (graph at) ask ≡ Err refusal
IsReplyTo graph (Ok (After session line)) (reply.Told named) = named ≡ line
IsReplyTo graph (Err word) (reply.Bad printed) = printed ≡ word
IsReplyTo graph request reply.Memory = ⊤
IsReplyTo graph request other = ⊥

-- the sessions' lines are one legal history from this graph at this stamp on; K are the stamps of the background
pub record IsLegal (graph : Graph) (base : ℕ) (sessions : List Transcript) (K : List ℕ) : Type 0 where
  -- the stamps of the commits differ, are above the base, and none is one of the background
  pub stamps_differ : IsDistinct nat_eq (ok_stamps (lines_of sessions))
  pub stamps_above : AllByRecursion (λ stamp. base < stamp) (ok_stamps (lines_of sessions))
  pub stamps_apart : AllByRecursion (λ stamp. ¬ Contains K stamp) (ok_stamps (lines_of sessions))
  -- each line comes after all that its session had been told
  pub told_first : (i j : ℕ) (line : Line) → IsLineAt sessions i j line
      → ComesAfter base (IsTold sessions i j) line.reply
  -- each reply is one that its line may have: a commit has an effect on the graph just below its stamp, and what
  -- prints a snapshot is the answer or the refusal there
  pub answered : AllByRecursion (λ line. IsReplyTo (graph_at graph (lines_of sessions)) (asked line) line.reply)
      (lines_of sessions)
