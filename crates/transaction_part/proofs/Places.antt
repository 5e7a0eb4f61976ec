-- A turn that was begun with the pass at hand.
use Rattle.std.proofs.Common.{◌≡◌, ℕ, List, Option, Some, sym, subst}
use Rattle.a1_base.specs.declared.place.Addr.{Addr}
use Rattle.farm_node.specs.declared.entry.Entry.{Entry}
use Rattle.farm_node.specs.NodeState.{Lawful}
use Rattle.turnstile.specs.declared.keeps.Keeps.{Ghosts}
use Rattle.turnstile.specs.declared.lock.Turnstile.{Turnstile}
use Rattle.turnstile.specs.declared.lock.Pass.{Pass}
use Rattle.turnstile.specs.declared.lock.Turn.{Turn}
use Rattle.turnstile.specs.Passes.{seen, entered}
use Rattle.node_turns.specs.declared.standing.Standing.{Standing}
use Rattle.node_turns.specs.Turned.{Sits, IsInside, GoesOn}
use Rattle.node_turns.proofs.Inside.{lawful_front}
use Rattle.write_set.specs.declared.set.Write.{Write}
use Rattle.write_set.specs.Writes.{Lacks}
use Rattle.write_set.proofs.Lists.{lacks_at}
use Rattle.transaction_part.specs.Part.{IsWritten, log_in}
use Rattle.transaction_part.proofs.Lists.{place_of}

-- what is lacking is not written
pub lacks_written : (ws : List Write) (a : Addr) → Lacks ws a → IsWritten ws a → ⊥
lacks_written ws a lacks written = let p = place_of ws written.0 written.1 in lacks_at ws a p.0 written.0 lacks p.1 written.2

-- a turn was begun with the pass at hand: both lists are lawful, and what came in between is others'
pub record Enters (k : ℕ) (before later : List Entry) : Type 0 where
  pub begins : Lawful before
  pub ends : Lawful later
  pub goes : GoesOn k before later

-- what a turn's begin gives, from the place of the pass
pub enters : {g : Ghosts Standing Entry} (lock : Turnstile Standing Entry) (k : ℕ) (place : Option (Pass Standing Entry g))
    (pass : Pass Standing Entry g) (turn : Turn Standing Entry g) → place ≡ Some pass → Sits lock k pass → IsInside lock k turn
    → GoesOn k (seen pass) (entered turn) → Enters k (log_in place) (entered turn)
enters {g} lock k place pass turn was sits inside goes = subst (λ (o : Option (Pass Standing Entry g)). Enters k (log_in o) (entered turn)) (sym was) record {
  begins = lawful_front (seen pass) goes.between sits.some (subst Lawful goes.is inside.stands.lawful);
  ends = inside.stands.lawful;
  goes = goes;
}
