use Rattle.std.proofs.Common.{refl}
use Rattle.farm_core.proofs.Words.{Active}
use Rattle.farm_core.proofs.Ending.{asked_still, asked_is}
use Rattle.farm_core.proofs.active.Active.holds_lock.Goals as goal

pub returns : goal.returns
returns c = λ s r at.
    let z : Active = record c.args.self.now { locked = c.any_held.new.locked } in (
      asked_is s r c.args.transaction c.args.self.now z c.args.nodes.now at c.any_held.result c.any_held.ensures.held c.any_held.ensures.some c.any_held.ensures.none,
      asked_still s r c.args.transaction c.args.self.now z c.args.nodes.now at (refl, refl, refl) refl c.any_held.ensures.fewer c.any_held.ensures.held,
    )
