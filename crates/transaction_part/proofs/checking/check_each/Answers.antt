use Rattle.std.proofs.Common.{◌≡◌, ◌+◌, Some, true, false, slice_get, get_or}
use Rattle.std.proofs.lemmas.Option.{slice_get-get_or}
use Rattle.turnstile.specs.Passes.{entered}
use Rattle.write_set.specs.Writes.{writes}
use Rattle.transaction_part.specs.declared.part.Seen.{Seen}
use Rattle.transaction_part.proofs.Lists.{before_none, before_all}
use Rattle.transaction_part.proofs.Checks.{CheckedIfRead, checks_same, keeps_first, keeps_on, keeps_next, not_own, refused_now, checked_skip, checked_next}
use Rattle.transaction_part.proofs.checking.check_each.Goals.{then-is_read+in_default, else-is_read}
use Rattle.transaction_part.proofs.checking.check_each.Goals as goal

pub loop-index-init : goal.loop-index-init
loop-index-init g c = record {
  inside = c.requires.inside;
  keeps = keeps_first c.args.t c.args.r c.args.w (writes c.args.set.now) (entered c.args.turn) c.requires.runs c.requires.holds;
  checked = before_none (CheckedIfRead c.args.t c.args.r c.args.w c.args.node c.args.nodes (writes c.args.set.now) (entered c.args.turn))
      c.args.reads.now;
}

pub paced-turn-requires : goal.paced-turn-requires
paced-turn-requires g c = record { inside = c.loop-index.invariant.inside }

pub check_there-left-requires-clause-pinned : goal.check_there-left-requires-clause-pinned
check_there-left-requires-clause-pinned g c =
    (keeps_on c.args.t c.args.r c.args.w (writes c.args.set.now) (entered c.args.turn) (entered c.loop-index.turn)
    (entered c.paced-turn.result) c.loop-index.invariant.inside.stands.lawful c.paced-turn.ensures.inside.stands.lawful
    c.paced-turn.ensures.goes_on c.loop-index.invariant.keeps).runs.pinned

pub check_there-left-requires-clause-not_own : goal.check_there-left-requires-clause-not_own
check_there-left-requires-clause-not_own g c =
    not_own c.args.t c.args.r c.args.w (writes c.args.set.now) (entered c.args.turn) (entered c.paced-turn.result) _
    (c.is_read.ensures.0 c.if-is_read.true).1
    (keeps_on c.args.t c.args.r c.args.w (writes c.args.set.now) (entered c.args.turn) (entered c.loop-index.turn)
    (entered c.paced-turn.result) c.loop-index.invariant.inside.stands.lawful c.paced-turn.ensures.inside.stands.lawful
    c.paced-turn.ensures.goes_on c.loop-index.invariant.keeps)

pub returns-in-Err : goal.returns-in-Err
returns-in-Err g c =
    let x : Seen = get_or c.args.reads.now c.loop-index.index c.index-reads-index.result in
    let k = keeps_next c.args.t c.args.r c.args.w (writes c.args.set.now) (entered c.args.turn) (entered c.loop-index.turn)
    (entered c.paced-turn.result) (entered c.check_there-left.result.0) x.at c.check_there-left.result.1
    c.loop-index.invariant.inside.stands.lawful c.paced-turn.ensures.inside.stands.lawful
    c.check_there-left.ensures.inside.stands.lawful c.paced-turn.ensures.goes_on c.check_there-left.ensures.entry
    (c.is_read.ensures.0 c.if-is_read.true).1 c.loop-index.invariant.keeps in
    record {
      inside = c.check_there-left.ensures.inside;
      runs = k.runs;
      holds = k.holds;
      checked = tt;
      fault = refused_now c.args.t x.at c.args.r c.args.w c.in-Err.fault c.check_there-left.result.1 (entered c.paced-turn.result)
          (entered c.check_there-left.result.0) c.check_there-left.ensures.entry c.in-Err.is;
      grown = k.grown;
      quiet = k.quiet;
    }

pub loop-index-preserved : goal.loop-index-preserved
loop-index-preserved g c =
    let x : Seen = get_or c.args.reads.now c.loop-index.index c.index-reads-index.result in
    let here : slice_get c.args.reads.now c.loop-index.index ≡ Some x =
    slice_get-get_or c.args.reads.now c.loop-index.index c.index-reads-index.result c.loop-index-test.true in
    elim c.if-is_read.branch [
      | then-is_read+in_default w ↦ checks_same c.args.lock.now c.args.t c.args.r c.args.w c.args.node c.args.nodes (writes c.args.set.now)
          c.args.reads.now (entered c.args.turn) (c.loop-index.index + 1) c.if-is_read.turn w.check_there-left.result.0 w.turn-is record {
            inside = w.check_there-left.ensures.inside;
            keeps = keeps_next c.args.t c.args.r c.args.w (writes c.args.set.now) (entered c.args.turn) (entered c.loop-index.turn)
                (entered w.paced-turn.result) (entered w.check_there-left.result.0) x.at w.check_there-left.result.1
                c.loop-index.invariant.inside.stands.lawful w.paced-turn.ensures.inside.stands.lawful
                w.check_there-left.ensures.inside.stands.lawful w.paced-turn.ensures.goes_on w.check_there-left.ensures.entry
                (c.is_read.ensures.0 w.if-is_read.true).1 c.loop-index.invariant.keeps;
            checked = checked_next c.args.t c.args.r c.args.w c.args.node c.args.nodes (writes c.args.set.now) c.args.reads.now
                c.loop-index.index x here (entered c.loop-index.turn) (entered w.paced-turn.result)
                (entered w.check_there-left.result.0) w.check_there-left.result.1 w.paced-turn.ensures.goes_on
                w.check_there-left.ensures.entry w.in_default.is c.loop-index.invariant.checked;
          }
      | else-is_read w ↦ checks_same c.args.lock.now c.args.t c.args.r c.args.w c.args.node c.args.nodes (writes c.args.set.now)
          c.args.reads.now (entered c.args.turn) (c.loop-index.index + 1) c.if-is_read.turn c.loop-index.turn w.turn-is record {
            inside = c.loop-index.invariant.inside;
            keeps = c.loop-index.invariant.keeps;
            checked = checked_skip c.args.t c.args.r c.args.w c.args.node c.args.nodes (writes c.args.set.now) c.args.reads.now
                c.loop-index.index x here (entered c.loop-index.turn)
                (λ at lacks. let yes : c.is_read.result ≡ true = c.is_read.ensures.1 (at, lacks) in
                let no : c.is_read.result ≡ false = w.if-is_read.false in absurd (cc)) c.loop-index.invariant.checked;
          }
    ]

pub returns : goal.returns
returns g c = record {
  inside = c.loop-index.invariant.inside;
  runs = c.loop-index.invariant.keeps.runs;
  holds = c.loop-index.invariant.keeps.holds;
  checked = before_all (CheckedIfRead c.args.t c.args.r c.args.w c.args.node c.args.nodes (writes c.args.set.now) (entered c.loop-index.turn))
      c.args.reads.now c.loop-index.index c.loop-index-test.false c.loop-index.invariant.checked;
  fault = tt;
  grown = c.loop-index.invariant.keeps.grown;
  quiet = c.loop-index.invariant.keeps.quiet;
}
