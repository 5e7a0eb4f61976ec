use Rattle.std.proofs.Common.{rules, ◌≡◌, ℕ, ◌+◌, ◌<◌, ◌≤◌, List, Ok, length, sym, ap, ◌∙◌, subst, arith}
use Rattle.turnstile.specs.Passes.{entered}
use Rattle.write_set.specs.declared.set.Write.{Write}
use Rattle.write_set.specs.Writes.{writes}
use Rattle.write_set.proofs.Keyed.{writes_apart}
use Rattle.transaction_part.specs.Locking.{Locks}
use Rattle.transaction_part.proofs.LockSteps.{Locking, emptied, emptied_length, locking_begins, locking_ends, next_left, next_pinned, next_may, next_given, next_refused}
use Rattle.transaction_part.proofs.locking.lock_each.Goals as goal

pub loop-index-init : goal.loop-index-init
loop-index-init g c = record {
  inside = c.requires.inside;
  left = search rules;
  locking = locking_begins c.args.t c.args.r (writes c.args.set.now) (entered c.args.turn) c.requires.can;
}

within : (n m : ℕ) (ws left : List Write) → left ≡ emptied n ws → n < m → m ≡ length ws → n < length left
within n m ws left is low all =
    let same : length left ≡ length ws = ap (length {A = Write}) is ∙ emptied_length n ws in omega arith

pub get-requires : goal.get-requires
get-requires g c =
    within c.loop-index.index c.len-index-end.result (writes c.args.set.now) (writes c.loop-index.set) c.loop-index.invariant.left c.loop-index-test.true
    c.len-index-end.ensures

pub take_value-value-requires : goal.take_value-value-requires
take_value-value-requires g c =
    within c.loop-index.index c.len-index-end.result (writes c.args.set.now) (writes c.loop-index.set) c.loop-index.invariant.left c.loop-index-test.true
    c.len-index-end.ensures

pub lock_there-left-requires-clause-pinned : goal.lock_there-left-requires-clause-pinned
lock_there-left-requires-clause-pinned g c =
    next_pinned c.args.t c.args.r (writes c.args.set.now) (writes_apart c.args.set.now) c.loop-index.index c.loop-index.top
    (entered c.args.turn) (entered c.loop-index.turn) (entered c.paced-turn.result) (writes c.loop-index.set) (writes c.take_value-value.new.self)
    c.take_value-value.result c.get.result.now c.loop-index.invariant.inside.stands.lawful c.paced-turn.ensures.inside.stands.lawful
    c.paced-turn.ensures.goes_on c.loop-index.invariant.locking c.loop-index.invariant.left c.get.ensures c.take_value-value.ensures

pub lock_there-left-requires-clause-may : goal.lock_there-left-requires-clause-may
lock_there-left-requires-clause-may g c =
    next_may c.args.t c.args.r (writes c.args.set.now) (writes_apart c.args.set.now) c.loop-index.index c.loop-index.top
    (entered c.args.turn) (entered c.loop-index.turn) (entered c.paced-turn.result) (writes c.loop-index.set) (writes c.take_value-value.new.self)
    c.take_value-value.result c.get.result.now c.loop-index.invariant.inside.stands.lawful c.paced-turn.ensures.inside.stands.lawful
    c.paced-turn.ensures.goes_on c.loop-index.invariant.locking c.loop-index.invariant.left c.get.ensures c.take_value-value.ensures

pub returns-in-Err-clause-locks : goal.returns-in-Err-clause-locks
returns-in-Err-clause-locks g c =
    next_refused c.args.t c.args.r (writes c.args.set.now) (writes_apart c.args.set.now) c.loop-index.index c.loop-index.top
    (entered c.args.turn) (entered c.loop-index.turn) (entered c.paced-turn.result) (writes c.loop-index.set) (writes c.take_value-value.new.self)
    c.take_value-value.result c.get.result.now c.loop-index.invariant.inside.stands.lawful c.paced-turn.ensures.inside.stands.lawful
    c.paced-turn.ensures.goes_on c.loop-index.invariant.locking c.loop-index.invariant.left c.get.ensures c.take_value-value.ensures
    (entered c.lock_there-left.result.0) c.lock_there-left.result.1 c.lock_there-left.ensures.inside.stands.lawful c.lock_there-left.ensures.entry
    c.in-Err.fault c.in-Err.is

pub loop-index-preserved : goal.loop-index-preserved
loop-index-preserved g c =
    record {
      inside = c.lock_there-left.ensures.inside;
      left = next_left c.args.t c.args.r (writes c.args.set.now) (writes_apart c.args.set.now) c.loop-index.index c.loop-index.top
          (entered c.args.turn) (entered c.loop-index.turn) (entered c.paced-turn.result) (writes c.loop-index.set) (writes c.take_value-value.new.self)
          c.take_value-value.result c.get.result.now c.loop-index.invariant.inside.stands.lawful c.paced-turn.ensures.inside.stands.lawful
          c.paced-turn.ensures.goes_on c.loop-index.invariant.locking c.loop-index.invariant.left c.get.ensures c.take_value-value.ensures;
      locking = subst (λ (top : ℕ). Locking c.args.t c.args.r (writes c.args.set.now) (c.loop-index.index + 1) top (entered c.args.turn)
          (entered c.lock_there-left.result.0)) (sym c.max-top.ensures)
          (next_given c.args.t c.args.r (writes c.args.set.now) (writes_apart c.args.set.now) c.loop-index.index c.loop-index.top
          (entered c.args.turn) (entered c.loop-index.turn) (entered c.paced-turn.result) (writes c.loop-index.set) (writes c.take_value-value.new.self)
          c.take_value-value.result c.get.result.now c.loop-index.invariant.inside.stands.lawful c.paced-turn.ensures.inside.stands.lawful
          c.paced-turn.ensures.goes_on c.loop-index.invariant.locking c.loop-index.invariant.left c.get.ensures c.take_value-value.ensures (entered c.lock_there-left.result.0) c.lock_there-left.result.1 c.lock_there-left.ensures.inside.stands.lawful
          c.lock_there-left.ensures.entry c.in-Ok.locked c.in-Ok.is);
    }

pub returns-clause-locks : goal.returns-clause-locks
returns-clause-locks g c =
    let ws : List Write = writes c.args.set.now in
    let low : c.loop-index.index ≤ c.len-index-end.result = c.loop-index.auto.index-end in
    let high : c.len-index-end.result ≤ c.loop-index.index = c.loop-index-test.false in
    let all : c.len-index-end.result ≡ length ws = c.len-index-end.ensures in
    subst (λ (left : List Write). Locks c.args.t c.args.r ws left (entered c.args.turn) (entered c.loop-index.turn) (Ok c.loop-index.top))
    (sym c.loop-index.invariant.left)
    (locking_ends c.args.t c.args.r ws c.loop-index.index c.loop-index.top (entered c.args.turn) (entered c.loop-index.turn)
    (omega arith) c.loop-index.invariant.locking)
