-- A collection.
use Rattle.std.proofs.Common.{◌≡◌, ℕ, ◌<◌, false, List, length, get_or, Ok, sym, refl, ap, ◌∙◌, subst, inl, ⊎_elim, arith}
use Rattle.std.proofs.Math.ListN.{set}
use Rattle.farm_core.proofs.Words.{COLLECTOR_ACTOR, Node, Collected, Entry, Adds, collect_answer, plain_of, Farm}
use Rattle.farm_core.proofs.Words.{State, node_at, adding, loading_over, Collects, NodesStand, Stands, StepsTo}
use Rattle.farm_node.specs.declared.entry.Entry.TheVariants as entry
use Rattle.farm_core.specs.declared.event.Event.TheVariants as event
use Rattle.farm_core.specs.declared.event.Answer.TheVariants as answer
use Rattle.farm_core.proofs.Good.{Good}
use Rattle.farm_core.proofs.Changes.{good, old_is, nodes_written, held_adding}
use Rattle.farm_core.proofs.Farming.{reached_more, stands_kept}

module _ (farm : Farm) (s : State) (st : Stands farm s) where
  g : Good s
  g = good s st.reached

  pub collect_stands : (n : ℕ) (old v : Node) (removed : Collected) (after : Farm) → n < length farm.nodes.items → old ≡ get_or farm.nodes.items n old → Adds (plain_of old) (entry.Collect COLLECTOR_ACTOR farm.clock removed) (plain_of v)
      → after.nodes.items ≡ set farm.nodes.items n v → after.clock ≡ farm.clock → after.loading ≡ false → after.slots.items ≡ farm.slots.items
      → StepsTo s (event.Collect n) (Ok (answer.Collected removed.floor removed.versions removed.objects)) (Stands after)
  collect_stands n old v removed after low there adds nodes_are clock_is loading_is slots_are = (
    later,
    inl (tt, acts),
    stands_kept farm s st after later (reached_more s (event.Collect n) (answer.Collected removed.floor removed.versions removed.objects) later st.reached less (inl (tt, acts)) refl)
        (clock_is ∙ st.clock_is) loading_is
        (subst (λ (ns : List Node). NodesStand ns later.nodes later.logs) (sym nodes_are) (nodes_written s g farm.nodes.items st.nodes_stand n old v less e adds_it))
        slots_are refl refl (λ u a has. ⊎_elim (λ before. before) (λ takes. absurd takes) (held_adding s g n e u a has)),
  ) where
    less : n < s.nodes
    less = let number : length farm.nodes.items ≡ s.nodes = st.nodes_stand.number in omega arith

    given_is : plain_of old ≡ node_at s n
    given_is = ap plain_of there ∙ old_is s g farm.nodes.items st.nodes_stand n old old less

    e : Entry
    e = entry.Collect COLLECTOR_ACTOR s.clock removed

    later : State
    later = loading_over (adding n (entry.Collect COLLECTOR_ACTOR s.clock removed) s)

    adds_it : Adds (plain_of (get_or farm.nodes.items n old)) e (plain_of v)
    adds_it = subst (λ (z : Node × ℕ). Adds (plain_of z.0) (entry.Collect COLLECTOR_ACTOR z.1 removed) (plain_of v)) (λ i. (there i, st.clock_is i)) adds

    acts : Collects s n (collect_answer (node_at s n) s.clock) (answer.Collected removed.floor removed.versions removed.objects) later
    acts = subst (λ (w : Collected). Collects s n w (answer.Collected removed.floor removed.versions removed.objects) later)
        (adds.fits.2 ∙ (λ i. collect_answer (given_is i) (st.clock_is i))) (refl, refl)
