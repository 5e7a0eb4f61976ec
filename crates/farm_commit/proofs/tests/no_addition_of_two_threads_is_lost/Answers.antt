use denote.Param.Send.{sendable}
use Rattle.std.proofs.Crossing.{crosses}
use Rattle.farm_commit.proofs.Sent.{actor_send, farm_sync}
use Rattle.farm_commit.proofs.tests.no_addition_of_two_threads_is_lost.Goals as goal

pub join-one-requires-send-F : goal.join-one-requires-send-F
join-one-requires-send-F c κs = search (sendable, crosses, actor_send, farm_sync) depth 20

pub join-one-requires-send-A : goal.join-one-requires-send-A
join-one-requires-send-A c κs = search (sendable, crosses, actor_send) depth 20
