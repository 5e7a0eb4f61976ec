-- What the calls of a view say.
use Rattle.std.specs.Prelude.{◌≡◌, ℕ, ◌*◌, ◌%◌, ◌<◌, ◌≤◌, Bool, cond, List, [], ◌∷◌, ◌++◌, length, Option, Some, None, IsSome}
use Rattle.a1_base.specs.declared.place.Addr.{Addr}
use Rattle.a1_base.specs.declared.limits.TheConstants.{REGION_WIDTH, REGION_LIMIT, OBJECT_LIMIT}
use Rattle.object_view.specs.declared.view.Object.{Object}
use Rattle.object_view.specs.declared.view.ViewFault.{ViewFault}
use Rattle.object_view.specs.declared.view.ViewFault.TheVariants as fault
use Rattle.object_view.specs.Agreement.{Seen, Write, Heap, Overlay, Agrees, stood, same_addr, object_of}

-- what a read adds to the trace
abbrev pub noted : Addr → ℕ → Option Object → Seen
noted a stamp None = record { at = a; stamp = stamp; bytes = None }
noted a stamp (Some o) = record { at = a; stamp = o.stamp; bytes = Some o.bytes }

-- a read at an address that the overlay has tells what was written, with the stamp 0; any other adds to the trace the
-- one item that it answers
abbrev pub ReadTells : Option Write → Addr → List Seen → List Seen → Option Object → Type 0
ReadTells (Some w) a old new found = (new ≡ old) × (found ≡ object_of 0 w.bytes)
ReadTells None a old new found = (stamp : ℕ) × (new ≡ old ++ noted a stamp found ∷ [])

-- the overlay with one more write
abbrev pub written_at : Addr → Bool → Option (List ℕ) → Overlay → Overlay
written_at a made bytes over b = cond (same_addr a b) (Some (record { made = made; bytes = bytes })) (over b)

-- an object stands there in every heap that agrees
abbrev pub StandsIn : List Seen → Overlay → Addr → Type 0
StandsIn trace over a = (h : Heap) → Agrees h trace over → IsSome (stood h over a)

-- a place of a node, of so many nodes
pub record IsPlace (nodes node : ℕ) (a : Addr) : Type 0 where
  pub home : a.region % nodes ≡ node
  pub region : a.region < REGION_LIMIT * nodes
  pub offset : a.offset < REGION_WIDTH

-- as many bytes as an object may have
pub record IsObject (bytes : List ℕ) : Type 0 where
  pub some : 1 ≤ length bytes
  pub few : length bytes ≤ OBJECT_LIMIT

-- a call that may want memory, and fails for nothing else
abbrev pub OnlyMemory : ViewFault → Type 0
OnlyMemory f = f ≡ fault.Memory

-- what no call of a view changes
pub record IsSteady {S K : Type 0} (reach : S → ℕ → Bool) (number : S → ℕ) (keep : S → K) (old new : S) : Type 0 where
  pub reaches : reach new ≡ reach old
  pub count : number new ≡ number old
  pub kept : keep new ≡ keep old
