use Rattle.std.proofs.Common.{◌≡◌, ◌%◌, true, refl}
use Rattle.std.proofs.lemmas.Option.{slice_get_read}
use Rattle.write_set.specs.Writes.{writes, Lacks}
use Rattle.transaction_part.specs.declared.part.Seen.{Seen}
use Rattle.transaction_part.proofs.Lists.{before_none, before_next, before_all}
use Rattle.transaction_part.proofs.checking.needs_check.Goals as goal

pub loop-seen-init : goal.loop-seen-init
loop-seen-init c =
    before_none (λ (s : Seen). s.at.region % c.args.nodes ≡ c.args.node → Lacks (writes c.args.set.now) s.at → ⊥) c.args.reads.now

pub loop-seen-preserved : goal.loop-seen-preserved
loop-seen-preserved c =
    before_next (λ (s : Seen). s.at.region % c.args.nodes ≡ c.args.node → Lacks (writes c.args.set.now) s.at → ⊥) c.args.reads.now
    c.loop-seen.seen-index c.seen-item.result
    (slice_get_read c.args.reads.now _ c.loop-seen.seen-index c.seen-item.result refl c.loop-seen-test.true c.seen-item.is)
    (λ at lacks. let yes : c.is_read.result ≡ true = c.is_read.ensures.1 (at, lacks) in absurd (cc)) c.loop-seen.invariant

pub returns : goal.returns
returns c none =
    before_all (λ (s : Seen). s.at.region % c.args.nodes ≡ c.args.node → Lacks (writes c.args.set.now) s.at → ⊥) c.args.reads.now
    c.loop-seen.seen-index c.loop-seen-test.false c.loop-seen.invariant
