use Rattle.std.proofs.Common.{◌≡◌, List, [], ◌∷◌, sym, subst, Vec, Global}
use Rattle.a1_base.specs.declared.place.Addr.{Addr}
use Rattle.farm_node.specs.Cell.{Bytes}
use Rattle.farm_node.specs.NodeState.{NodeState}
use Rattle.farm_node.specs.State.{CanLoad}
use Rattle.farm_node.specs.Node.{StandsFor}
use Rattle.farm_node.specs.Standing.{with_heap}
use Rattle.farm_node.specs.declared.entry.Entry.TheVariants.{Made}
use Rattle.node_turns.specs.declared.standing.Inner.{Inner}
use Rattle.node_turns.specs.Standing.{bare_start}
use Rattle.node_turns.proofs.standing.Standing.new.Goals as goal

pub load-requires-clause-places : goal.load-requires-clause-places
load-requires-clause-places c =
    subst (λ (p : NodeState). CanLoad p c.args.objects.items) (sym c.in_ok-made.ensures.state) c.requires.objects

pub returns-in-Ok-clause-stands : goal.returns-in-Ok-clause-stands
returns-in-Ok-clause-stands c =
    let P : Inner → Type 0 = λ i. StandsFor i.node (Made (with_heap (bare_start i.number i.nodes i.actors i.stamp) i.loaded.value.items) ∷ []) in
    subst P (sym c.in-Ok.ensures.ok)
    (subst (λ (v : Vec (Addr × Bytes) Global). StandsFor c.load.new.self (Made (with_heap (bare_start c.args.node c.args.nodes c.args.actors c.args.stamp) v.items) ∷ []))
    (sym c.of-loaded.ensures) (c.in_ok-load.ensures.begins (bare_start c.args.node c.args.nodes c.args.actors c.args.stamp) c.in_ok-made.ensures))
