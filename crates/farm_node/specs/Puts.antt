-- What every lawful list of a node keeps of the puts on an address, as transactions rely on it.
use Rattle.std.specs.Prelude.{◌≡◌, ℕ, ◌<◌, ◌≤◌, ◌==◌, List, ◌∷◌, ◌++◌, filter, Ok}
use Rattle.a1_base.specs.declared.place.Addr.{Addr}
use Rattle.a1_base.specs.declared.place.TxnId.{TxnId}
use Rattle.version_chain.specs.Versions.{Falls}
use Rattle.farm_node.specs.declared.entry.Start.{Start}
use Rattle.farm_node.specs.declared.entry.Entry.{Entry}
use Rattle.farm_node.specs.declared.entry.Entry.TheVariants.{Made, Check}
use Rattle.farm_node.specs.NodeState.{Lawful}
use Rattle.farm_node.specs.Story.{Installed, story, story_from, untold, loaded_puts, versions_of, value_at, number_of}
use Rattle.a1_base.specs.Lists.{IsAmong, entries_of}

pub record PutsHold : Type 0 where
  -- the stamps of the puts strictly fall, so the latest put at most a stamp is the one of the greatest stamp
  pub falls : (log : List Entry) (a : Addr) → Lawful log → Falls (versions_of (story a log).puts)
  -- what was loaded stays first: every further put is an actor's, above the stamp of the start
  pub loaded : (m : Start) (es : List Entry) (a : Addr) → Lawful (Made m ∷ es)
      → (story a (Made m ∷ es)).puts ≡ (story_from a untold es).puts ++ loaded_puts a m.stamp m.heap
  pub later : (m : Start) (es : List Entry) (a : Addr) (i : Installed) → Lawful (Made m ∷ es)
      → IsAmong i (story_from a untold es).puts → (0 < i.by.actor) × (m.stamp < i.stamp)
  -- from the read stamp of its lock to its own stamp a put has the value at its read stamp before it
  pub decided : (log : List Entry) (a : Addr) (i : Installed) (s : ℕ) → Lawful log → IsAmong i (story a log).puts
      → i.read ≤ s → s < i.stamp → value_at log a s ≡ value_at log a i.read
  -- what a check found the same, stays so from its read stamp to its write stamp
  pub checked : (before rest : List Entry) (t : TxnId) (a : Addr) (r w s : ℕ)
      → Lawful (before ++ Check t a r w (Ok tt) ∷ rest) → r ≤ s → s ≤ w
      → value_at (before ++ Check t a r w (Ok tt) ∷ rest) a s ≡ value_at (before ++ Check t a r w (Ok tt) ∷ rest) a r
  -- the puts of an actor are those that its own entries alone give
  pub own : (log : List Entry) (a : Addr) (k : ℕ) → Lawful log → 0 < k
      → filter (λ i. i.by.actor == k) (story a log).puts ≡ (story_from a untold (entries_of number_of k log)).puts
