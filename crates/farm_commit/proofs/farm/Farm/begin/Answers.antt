use Rattle.std.proofs.Common.{refl, subst, arith}
use Rattle.a1_base.specs.Lists.{IsAmong}
use Rattle.snapshot_stamps.specs.Seats.{watch}
use Rattle.transaction_part.specs.Part.{IsResting}
use Rattle.farm_commit.specs.Farms.{txn_id}
use Rattle.farm_commit.proofs.NodeSteps.{learned_then, opened_pins, opened_runs}
use Rattle.farm_commit.proofs.farm.Farm.begin.Goals as goal

pub returns-clause-txn : goal.returns-clause-txn
returns-clause-txn g c =
    let top = c.reach.ensures.reached in
    let known = c.now-read_stamp.ensures.known in record {
      seat = c.now-read_stamp.ensures.seat;
      number = c.requires.actor.number;
      stamp = (let k = known.1 in omega (arith, k));
      known = (let e = c.now-read_stamp.ensures.clock.2 in omega (arith, e));
      parts = opened_runs c.args.self.now.locks.items (txn_id c.args.actor.number c.saturating_add.result) c.args.actor.number c.now-clock.result
          c.open_each-top.result c.now-read_stamp.result c.args.self.now.nodes (λ _ l p. IsResting l c.args.actor.number p) c.args.actor.parts.items
          c.open_each-top.new.parts.items refl (let k = known.0 in omega (arith, top, k)) c.requires.actor.parts c.open_each-top.ensures.opened;
      reads = λ s p there. absurd (subst (IsAmong s) c.requires.actor.reads there);
    }

pub returns-clause-begins : goal.returns-clause-begins
returns-clause-begins g c =
    let top = c.reach.ensures.reached in
    let known = c.now-read_stamp.ensures.known in
    let all = learned_then (watch c.args.actor.seat) (watch c.now-clock.new.seat) (watch c.now-read_stamp.new.seat) c.now-clock.ensures.learned
    (learned_then (watch c.now-clock.new.seat) (watch c.reach.new.seat) (watch c.now-read_stamp.new.seat) c.reach.ensures.learned c.now-read_stamp.ensures.learned) in
    let e = c.now-read_stamp.ensures.clock.2 in
    record {
      clock = (c.now-read_stamp.ensures.clock.0, watch c.reach.new.seat, c.now-read_stamp.ensures.clock.1, c.now-read_stamp.ensures.clock.2);
      known = (let a = all.0 in omega (arith, a, e));
      learned = all;
      pins = (
        c.now-clock.result,
        (let k = known.0 in let l = c.open_each-top.ensures.top.0 in omega (arith, top, k, l)),
        opened_pins c.args.self.now.locks.items c.args.actor.number c.now-clock.result c.open_each-top.result c.now-read_stamp.result
            c.args.actor.parts.items c.open_each-top.new.parts.items (let k = known.0 in omega (arith, top, k)) c.open_each-top.ensures.opened,
      );
      reads = c.requires.actor.reads;
      whose = refl;
      number = c.saturating_add.ensures;
    }
