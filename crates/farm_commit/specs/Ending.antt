-- The passes of all actors in one, and nodes that are closed with them.
use Rattle.std.specs.Prelude.{◌≡◌, ℕ, ◌≤◌, List, [], ◌∷◌, ◌++◌, Option, Some, slice_get, length}
use Rattle.a1_base.specs.Lists.{IsAmong, BeginsWith, entries_of}
use Rattle.farm_node.specs.declared.node.Node.{Node}
use Rattle.farm_node.specs.declared.entry.Entry.{Entry}
use Rattle.farm_node.specs.Node.{StandsFor}
use Rattle.farm_node.specs.Story.{number_of}
use Rattle.turnstile.specs.declared.keeps.Keeps.{Ghosts}
use Rattle.turnstile.specs.declared.lock.Pass.{Pass}
use Rattle.turnstile.specs.Entries.{HasAll, SameOwn}
use Rattle.turnstile.specs.Passes.{first_value, numbers, pass_count, seen, IsPassOf}
use Rattle.node_turns.specs.declared.standing.Standing.{Standing}
use Rattle.node_turns.specs.Standing.{begins_with}
use Rattle.transaction_part.specs.declared.part.Part.{Part}
use Rattle.transaction_part.specs.Part.{log}
use Rattle.farm_commit.specs.declared.actor.Actor.{Actor}
use Rattle.farm_commit.specs.Nodes.{Lock}
use Rattle.farm_commit.specs.Parts.{FirstStep}

module _ {g : Ghosts Standing Entry} where
  -- a pass of the turnstile is at hand
  abbrev pub IsAt : Lock → Pass Standing Entry g → Option (Pass Standing Entry g) → Type 0
  IsAt lock pass place = (place ≡ Some pass) × IsPassOf lock pass

  abbrev pub IsThere : Lock → Option (Pass Standing Entry g) → Type 0
  IsThere lock place = (p : Pass Standing Entry g) × IsAt lock p place

  -- two passes in one: it has the numbers of both and has seen all that either had, and no other entries of these numbers
  pub record Joins (lock : Lock) (first second whole : Option (Pass Standing Entry g)) : Type 0 where
    pub one : Pass Standing Entry g
    pub two : Pass Standing Entry g
    pub both : Pass Standing Entry g
    pub first_is : first ≡ Some one
    pub second_is : second ≡ Some two
    pub whole_is : IsAt lock both whole
    pub counted : numbers both ≡ numbers one ++ numbers two
    pub begins : BeginsWith (seen both) (seen one) × BeginsWith (seen both) (seen two)
    pub own : SameOwn number_of (numbers one) (seen one) (seen both)
        × SameOwn number_of (numbers two) (seen two) (seen both)

-- a part that stands for those of these actors at its node: it has their numbers and has seen what each had
pub record Knows (done : List Actor) (i : ℕ) (l : Lock) (p : Part) : Type 0 where
  pub there : IsThere l p.pass
  pub holds : (a : Actor) → IsAmong a done → IsAmong a.number (numbers there.0)
  pub begins : (a : Actor) (q : Part) → IsAmong a done → slice_get a.parts.items i ≡ Some q → BeginsWith (log p) (log q)
  pub own : (a : Actor) (q : Part) → IsAmong a done → slice_get a.parts.items i ≡ Some q
      → entries_of number_of a.number (log p) ≡ entries_of number_of a.number (log q)

-- it has the numbers of all actors
abbrev pub IsWhole : Lock → Part → Type 0
IsWhole l p = (t : IsThere l p.pass) × HasAll (pass_count l) (numbers t.0)

-- the node that came out stands for what the part had seen, in which number 0 has the first entry alone
pub record Ends (l : Lock) (p : Part) (n : Node) : Type 0 where
  pub stands : StandsFor n (log p)
  pub first : entries_of number_of 0 (log p) ≡ begins_with (first_value l) ∷ []

-- each node so
pub record EndsAll (locks : List Lock) (parts : List Part) (nodes : List Node) : Type 0 where
  pub count : length nodes ≡ length locks
  pub each : (i : ℕ) (l : Lock) (p : Part) (n : Node) → slice_get locks i ≡ Some l → slice_get parts i ≡ Some p
      → slice_get nodes i ≡ Some n → Ends l p n

-- the parts of one row joined to those of another
pub record JoinsAll (locks : List Lock) (row old new : List Part) : Type 0 where
  pub count : length new ≡ length old
  pub each : (i : ℕ) (l : Lock) (p q r : Part) → slice_get locks i ≡ Some l → slice_get old i ≡ Some p
      → slice_get row i ≡ Some q → slice_get new i ≡ Some r → Joins l p.pass q.pass r.pass

-- the same of the first n, and the others are as they were
pub record JoinsFirst (locks : List Lock) (n : ℕ) (row left old new : List Part) : Type 0 where
  pub step : FirstStep locks n (λ i l p r. (q : Part) → slice_get row i ≡ Some q → Joins l p.pass q.pass r.pass) old new
  pub count : length left ≡ length row
  pub rest : (i : ℕ) → n ≤ i → slice_get left i ≡ slice_get row i
