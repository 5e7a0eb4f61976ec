-- The nodes of a farm.
use Rattle.std.specs.Prelude.{◌≡◌, ℕ, ◌%◌, List, Some, slice_get}
use Rattle.a1_base.specs.declared.place.Addr.{Addr}
use Rattle.farm_node.specs.declared.entry.Entry.{Entry}
use Rattle.turnstile.specs.declared.lock.Turnstile.{Turnstile}
use Rattle.turnstile.specs.Passes.{first_value, pass_count}
use Rattle.node_turns.specs.declared.standing.Standing.{Standing}
use Rattle.node_turns.specs.Standing.{start_of}

-- a turnstile round a node
abbrev pub Lock : Type 0
Lock = Turnstile Standing Entry

-- the node of an address
abbrev pub home : ℕ → Addr → ℕ
home nodes a = a.region % nodes

-- each turnstile's node began as the one of its place among so many, for so many actors
abbrev pub AreNodes : List Lock → ℕ → ℕ → Type 0
AreNodes locks nodes actors = (i : ℕ) (l : Lock) → slice_get locks i ≡ Some l
    → ((start_of (first_value l)).node ≡ i) × ((start_of (first_value l)).nodes ≡ nodes)
    × ((start_of (first_value l)).actors ≡ actors)

-- each turnstile has a pass for each actor
abbrev pub HavePasses : List Lock → ℕ → Type 0
HavePasses locks actors = (i : ℕ) (l : Lock) → slice_get locks i ≡ Some l → pass_count l ≡ actors
