-- What an actor gave and put at an address, as its own entries alone tell.
use Rattle.std.specs.Prelude.{◌≡◌, ℕ, List, ◌∷◌, ◌++◌}
use Rattle.std.specs.List.{AllByRecursion}
use Rattle.a1_base.specs.declared.place.Addr.{Addr}
use Rattle.a1_base.specs.declared.place.TxnId.{TxnId}
use Rattle.a1_base.specs.Lists.{IsAmong, entries_of}
use Rattle.farm_node.specs.declared.entry.Entry.{Entry}
use Rattle.farm_node.specs.Story.{Installed, Story, gives, story_from, untold, number_of}
use Rattle.farm_node.specs.Locks.{IsOther}
use Rattle.write_set.specs.declared.set.Write.{Write}
use Rattle.write_set.specs.Writes.{Lacks}

-- the list went on by these entries of the actor's, behind entries of others
pub record Went (k : ℕ) (before own after : List Entry) : Type 0 where
  pub between : List Entry
  pub is : after ≡ before ++ between ++ own
  pub others : AllByRecursion (IsOther k) between

-- the story of an address by the entries of the actor k alone
abbrev pub own_story : ℕ → Addr → List Entry → Story
own_story k a log = story_from a untold (entries_of number_of k log)

-- it gave and put nothing more, at any address
abbrev pub SameStory : ℕ → List Entry → List Entry → Type 0
SameStory k before after = (a : Addr) → own_story k a after ≡ own_story k a before

-- it put nothing more
abbrev pub SamePuts : ℕ → List Entry → List Entry → Type 0
SamePuts k before after = (a : Addr) → (own_story k a after).puts ≡ (own_story k a before).puts

-- each of the writes was given last, with its value
abbrev pub GaveAll : TxnId → ℕ → List Write → List Entry → Type 0
GaveAll t r ws log = (w : Write) → IsAmong w ws → (own_story t.actor w.at log).given t ≡ gives r w.value

-- the put of a transaction at w by what it last gave
abbrev pub put_by : TxnId → ℕ → Story → Installed
put_by t w h = record { by = t; read = (h.given t).read; stamp = w; value = (h.given t).value }

-- at each address that is written one put more, of what was last given there, and nowhere else
pub record PutsJust (t : TxnId) (w : ℕ) (ws : List Write) (before after : List Entry) : Type 0 where
  pub puts : (x : Write) → IsAmong x ws → (own_story t.actor x.at after).puts
      ≡ put_by t w (own_story t.actor x.at before) ∷ (own_story t.actor x.at before).puts
  pub others : (a : Addr) → Lacks ws a → own_story t.actor a after ≡ own_story t.actor a before
