-- An actor may go to another thread, and threads may share a farm.
use denote.Param.Send.{IsSend, IsSync, sendable}
use Rattle.std.proofs.Crossing.{crosses}
use Rattle.farm_node.proofs.node.Node.TheSendSync as node
use Rattle.node_turns.specs.contracts.standing.Standing as Standing
use Rattle.snapshot_stamps.proofs.seat.Stamps.TheSendSync as stamps
use Rattle.snapshot_stamps.proofs.seat.StampSeat.TheSendSync as seat
use Rattle.transaction_part.specs.contracts.part.Part as Part
use Rattle.transaction_part.specs.contracts.part.Seen as Seen
use Rattle.turnstile.proofs.lock.Pass.TheSendSync as pass
use Rattle.turnstile.proofs.lock.Turnstile.TheSendSync as turnstile
use Rattle.write_set.proofs.set.WriteSet.TheSendSync as writes
use Rattle.farm_commit.specs.contracts.actor.Actor as Actor
use Rattle.farm_commit.specs.contracts.farm.Farm as Farm

standing_send : IsSend Standing.the_row
standing_send = search (sendable, crosses, node.the_field_send) depth 20

part_send : IsSend Part.the_row
part_send = search (sendable, crosses, standing_send, writes.the_field_send, pass.the_send) depth 20

seen_send : IsSend Seen.the_row
seen_send = search (sendable, crosses) depth 20

pub actor_send : IsSend Actor.the_row
actor_send = search (sendable, crosses, part_send, seen_send, seat.the_field_send) depth 20

pub farm_sync : IsSync Farm.the_row
farm_sync = search (sendable, crosses, standing_send, node.the_field_sync, stamps.the_field_sync, turnstile.the_sync) depth 20
