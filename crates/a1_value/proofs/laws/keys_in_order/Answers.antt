use Rattle.a1_value.proofs.KeyOrder.{in_order}
use Rattle.a1_value.proofs.laws.keys_in_order.Goals as goal

pub returns : goal.returns
returns c = in_order
