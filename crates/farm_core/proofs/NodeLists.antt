-- The plain states of some nodes, read and written.
use Rattle.std.proofs.Common.{◌≡◌, ◌≢◌, ℕ, ◌%◌, ◌<◌, List, length, map, get_or, get_or-set_other, get_or-set_same, sym, ap, ◌∙◌}
use Rattle.std.proofs.lemmas.List.{get_or-map, map-set}
use Rattle.farm_node.specs.NodeState.{nowhere}
use Rattle.std.proofs.Math.ListN.{set, length-set}
use Rattle.farm_core.proofs.Words.{NodeState, Addr, Node, plain_of, plains, plain_at}

pub plains_index : (nodes : List Node) (n : ℕ) (d : Node) → n < length nodes → plain_of (get_or nodes n d) ≡ plains nodes n
plains_index nodes n d low = sym (get_or-map plain_of nodes n d nowhere low)

-- what stands at an address's node, once it was fetched
pub fetched : (nodes : List Node) (a : Addr) (n : ℕ) (x : Node) → n ≡ a.region % length nodes → n < length nodes → x ≡ get_or nodes n x → plain_of x ≡ plain_at nodes a
fetched nodes a n x is low there = ap plain_of there ∙ (plains_index nodes n x low ∙ ap (plains nodes) is)

pub plains_set : (nodes : List Node) (n : ℕ) (v : Node) → n < length nodes → plains (set nodes n v) n ≡ plain_of v
plains_set nodes n v low = sym (plains_index (set nodes n v) n v (rw (length-set nodes n v) low)) ∙ ap plain_of (get_or-set_same nodes n v v low)

pub plains_other : (nodes : List Node) (n m : ℕ) (v : Node) → n ≢ m → plains (set nodes n v) m ≡ plains nodes m
plains_other nodes n m v differ = ap (λ (all : List NodeState). get_or all m nowhere) (map-set plain_of nodes n v) ∙ get_or-set_other (map plain_of nodes) n m (plain_of v) nowhere (λ same. differ (sym same))
