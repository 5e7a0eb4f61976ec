use Rattle.std.proofs.Common.{get_or}
use Rattle.object_view.proofs.Held.{room_put, taken_put, written_put}
use Rattle.object_view.proofs.mem_view.MemView.put.Goals as goal

pub invariant_of-self-clause-taken : goal.invariant_of-self-clause-taken
invariant_of-self-clause-taken c node =
    taken_put c.args.self.now.over c.insert.new.self c.args.self.now.heap c.args.at _ c.insert.result
    c.insert.ensures.updates c.insert.ensures.err
    c.args.self.now.nodes node (get_or c.args.self.now.next node 0) (c.args.self.now.taken node)

pub invariant_of-self-clause-room : goal.invariant_of-self-clause-room
invariant_of-self-clause-room c =
    room_put c.args.self.now.over c.insert.new.self c.args.self.now.heap c.args.at _ c.insert.result
    c.insert.ensures.updates c.insert.ensures.err
    c.requires.made c.args.self.now.room

pub invariant_of-self-clause-written : goal.invariant_of-self-clause-written
invariant_of-self-clause-written c =
    written_put c.args.self.now.over c.insert.new.self c.args.self.now.heap c.args.at _ c.insert.result
    c.insert.ensures.updates c.insert.ensures.err
    c.args.self.now.nodes c.requires.stored c.args.self.now.written
