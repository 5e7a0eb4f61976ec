use Rattle.a1.proofs.TableLemmas.{run_or_none, legal, served, misused, unread, line_said, unwritten, no_run, whole, broken, other_words}
use Rattle.a1.proofs.top.a1.Goals as goal

pub returns-clause-served : goal.returns-clause-served
returns-clause-served g c = λ d is. served _ c.dispatch.result.run d c.dispatch.result.status (rw is at c.dispatch.ensures)

pub returns-clause-run_or_none : goal.returns-clause-run_or_none
returns-clause-run_or_none g c = run_or_none _ c.dispatch.result.run _ c.dispatch.result.status c.dispatch.ensures

pub returns-clause-no_run : goal.returns-clause-no_run
returns-clause-no_run g c = no_run _ c.dispatch.result.run _ c.dispatch.result.status c.dispatch.ensures

pub returns-clause-legal_history : goal.returns-clause-legal_history
returns-clause-legal_history g c = legal _ c.dispatch.result.run _ c.dispatch.result.status c.dispatch.ensures

pub returns-clause-usage_written : goal.returns-clause-usage_written
returns-clause-usage_written g c = λ is. (misused _ c.dispatch.result.run _ c.dispatch.result.status c.dispatch.ensures is).1

pub returns-clause-nothing_written : goal.returns-clause-nothing_written
returns-clause-nothing_written g c = λ is. (unread _ c.dispatch.result.run _ c.dispatch.result.status c.dispatch.ensures is).1

pub returns-clause-line_written : goal.returns-clause-line_written
returns-clause-line_written g c = λ d is. line_said _ c.dispatch.result.run d c.dispatch.result.status (rw is at c.dispatch.ensures)

pub returns-clause-usage : goal.returns-clause-usage
returns-clause-usage g c = λ is. (misused _ c.dispatch.result.run _ c.dispatch.result.status c.dispatch.ensures is).0

pub returns-clause-unread : goal.returns-clause-unread
returns-clause-unread g c = λ is. (unread _ c.dispatch.result.run _ c.dispatch.result.status c.dispatch.ensures is).0

pub returns-clause-unwritten : goal.returns-clause-unwritten
returns-clause-unwritten g c = λ is. unwritten _ c.dispatch.result.run _ c.dispatch.result.status c.dispatch.ensures is

pub returns-clause-whole : goal.returns-clause-whole
returns-clause-whole g c = λ d bytes is. whole _ c.dispatch.result.run d c.dispatch.result.status bytes (rw is at c.dispatch.ensures)

pub returns-clause-malformed : goal.returns-clause-malformed
returns-clause-malformed g c = λ d bytes line is. broken _ c.dispatch.result.run d c.dispatch.result.status bytes line (rw is at c.dispatch.ensures)

pub returns-clause-other_words : goal.returns-clause-other_words
returns-clause-other_words g c = λ is. other_words _ c.dispatch.result.run c.dispatch.result.status (rw is at c.dispatch.ensures)

pub returns-clause-store : goal.returns-clause-store
returns-clause-store g c = c.dispatch.ensures.ends.untouched.0
