-- Loading.
use Rattle.std.proofs.Common.{◌≡◌, ℕ, ◌%◌, ◌<◌, Bool, true, false, is_some, List, length, get_or, Option, Some, Ok, sym, refl, ap, ◌∙◌, subst, inl, inr, ⊎_elim}
use Rattle.std.proofs.Math.ListN.{set}
use Rattle.std.proofs.lemmas.Bool.{both_ways}
use Rattle.farm_core.proofs.Words.{Addr, TxnId, IsPlace, Node, Entry, Bytes, Cell, loaded_cell, NodeState, HeldBy, occupancy, Lawful}
use Rattle.farm_core.proofs.Words.{replay, with_cell, plain_of, Farm, State, home, node_at, node_of, set_log, log_loaded, HoldsLockAt, Meets, IsAddr}
use Rattle.farm_core.proofs.Words.{IsObject, NodesStand, Stands, StepsTo}
use Rattle.farm_core.specs.declared.event.Event.TheVariants as event
use Rattle.farm_core.specs.declared.event.Answer.TheVariants as answer
use Rattle.farm_core.proofs.Held.{Holds, holds_held}
use Rattle.farm_core.proofs.Good.{Listed, Good, IsFirst, set_at}
use Rattle.farm_core.proofs.Events.{less_home}
use Rattle.farm_core.proofs.Changes.{good, holds_set, held_holds, old_is, nodes_set, nodes_kept}
use Rattle.farm_core.proofs.First.{is_place}
use Rattle.farm_core.proofs.Farming.{none_of, reached_more, stands_kept}

-- a loaded object in the first entry
first_loaded : (log : List Entry) (a : Addr) (bytes : Bytes) → IsFirst log → replay (log_loaded a bytes log) ≡ with_cell a (loaded_cell (replay log).floor bytes) (replay log)
first_loaded log a bytes first = subst (λ (es : List Entry). replay (log_loaded a bytes es) ≡ with_cell a (loaded_cell (replay es).floor bytes) (replay es)) (sym first.1) refl

module _ (farm : Farm) (s : State) (st : Stands farm s) (a : Addr) where
  g : Good s
  g = good s st.reached

  less : home s a < s.nodes
  less = less_home s g a

  pub load_closed : (bytes : Bytes) → farm.loading ≡ false → StepsTo s (event.Load a bytes) (Ok answer.No) (Stands farm)
  load_closed bytes closed = (s, inr (λ meets. both_ways s.loading (sym st.loading_is ∙ closed) meets.0, (refl, refl)), st)

  module _ (n : ℕ) (is : n ≡ a.region % length farm.nodes.items) (old : Node) (there : old ≡ get_or farm.nodes.items n old) where
    n_is : n ≡ home s a
    n_is = is ∙ ap (λ (k : ℕ). a.region % k) st.nodes_stand.number

    n_less : n < s.nodes
    n_less = subst (λ (m : ℕ). m < s.nodes) (sym n_is) less

    pub here : plain_of old ≡ node_of s a
    here = ap plain_of there ∙ (old_is s g farm.nodes.items st.nodes_stand n old old n_less ∙ ap (node_at s) n_is)

    pub load_taken : (bytes : Bytes) (has : Bool) → has ≡ is_some ((plain_of old).cells a) → has ≡ true → StepsTo s (event.Load a bytes) (Ok answer.No) (Stands farm)
    load_taken bytes has says yes_it = (
      s,
      inr (λ meets. both_ways _ (ap (λ (c : Option Cell). is_some c) meets.1) (ap (λ (p : NodeState). is_some (p.cells a)) (sym here) ∙ (sym says ∙ yes_it)), (refl, refl)),
      st,
    )

    module _ (loading : farm.loading ≡ true) where
      log_first : IsFirst (s.logs (home s a))
      log_first = (g.base.first (sym st.loading_is ∙ loading)).0 (home s a) less

      pub load_stamp : 0 < (plain_of old).floor
      load_stamp = subst (λ (p : NodeState). 0 < p.floor) (sym here) (subst (λ (es : List Entry). Lawful es → 0 < (replay es).floor) (sym log_first.1) (λ l. l.0.2) (g.base.lists (home s a) less).lawful)

      pub load_place : IsAddr (length farm.nodes.items) a → IsPlace (occupancy (plain_of old)) a
      load_place range = let l : Listed s.clock s.nodes (home s a) (s.logs (home s a)) = g.base.lists (home s a) less in
          subst (λ (p : NodeState). IsPlace (occupancy p) a) (sym here) (is_place (occupancy (node_of s a)) s.nodes a g.base.count.0 (subst (λ (k : ℕ). IsAddr k a) st.nodes_stand.number range) l.number l.count)

      module _ (v : Node) (bytes copy : Bytes) (same : copy ≡ bytes) (has : Bool) (says : has ≡ is_some ((plain_of old).cells a)) (free : has ≡ false) where
        abbrev later : State
        later = record s { logs = set_log (home s a) (log_loaded a bytes (s.logs (home s a))) s.logs }

        meets : Meets s (event.Load a bytes)
        meets = (sym st.loading_is ∙ loading, none_of ((node_of s a).cells a) (ap (λ (p : NodeState). is_some (p.cells a)) (sym here) ∙ (sym says ∙ free)))

        written : plain_of v ≡ with_cell a (loaded_cell (plain_of old).floor copy) (plain_of old) → plain_of v ≡ replay (log_loaded a bytes (s.logs (home s a)))
        written made = made ∙ ((λ i. with_cell a (loaded_cell (here i).floor (same i)) (here i)) ∙ sym (first_loaded (s.logs (home s a)) a bytes log_first))

        nodes_after : plain_of v ≡ with_cell a (loaded_cell (plain_of old).floor copy) (plain_of old) → NodesStand (set farm.nodes.items n v) s.nodes later.logs
        nodes_after made = subst (λ (m : ℕ). NodesStand (set farm.nodes.items n v) s.nodes (set_log m (log_loaded a bytes (s.logs (home s a))) s.logs)) n_is
            (nodes_set s g farm.nodes.items st.nodes_stand n old v n_less (log_loaded a bytes (s.logs (home s a))) (written made))

        held_before : (u : TxnId) (b : Addr) → HoldsLockAt later u b → HoldsLockAt s u b
        held_before u b = set_at (λ log. HeldBy (replay log) u b → HoldsLockAt s u b) (home s a) (home s b) (log_loaded a bytes (s.logs (home s a))) s.logs
            (λ e held. holds_held (node_of s b) u b (subst (λ (m : ℕ). Holds u ((node_at s m).cells b)) e
            (⊎_elim (λ old. old) (λ none. absurd none) (holds_set u a b (Some (loaded_cell (node_of s a).floor bytes)) (node_of s a).cells ⊥ (λ none. absurd none)
            (subst (λ (p : NodeState). Holds u (p.cells b)) (first_loaded (s.logs (home s a)) a bytes log_first) (held_holds (replay (log_loaded a bytes (s.logs (home s a)))) u b held))))))
            (λ held. held)

        pub load_stands : (after : Farm) → IsAddr (length farm.nodes.items) a → IsObject bytes → plain_of v ≡ with_cell a (loaded_cell (plain_of old).floor copy) (plain_of old)
            → after.nodes.items ≡ set farm.nodes.items n v → after.clock ≡ farm.clock → after.loading ≡ farm.loading → after.slots.items ≡ farm.slots.items
            → StepsTo s (event.Load a bytes) (Ok answer.Loaded) (Stands after)
        load_stands after range object made nodes_are clock_is loading_is slots_are = (
          later,
          inl (meets, (refl, refl)),
          stands_kept farm s st after later
              (reached_more s (event.Load a bytes) answer.Loaded later st.reached (subst (λ (k : ℕ). IsAddr k a) st.nodes_stand.number range, object) (inl (meets, (refl, refl))) refl)
              (clock_is ∙ st.clock_is) (loading_is ∙ st.loading_is) (subst (λ (ns : List Node). NodesStand ns later.nodes later.logs) (sym nodes_are) (nodes_after made)) slots_are refl refl held_before,
        )

    pub load_failed : (v : Node) (after : Farm) → plain_of v ≡ plain_of old → after.nodes.items ≡ set farm.nodes.items n v → after.clock ≡ farm.clock → after.loading ≡ farm.loading
        → after.slots.items ≡ farm.slots.items → Stands after s
    load_failed v after same nodes_are clock_is loading_is slots_are = stands_kept farm s st after s st.reached (clock_is ∙ st.clock_is) (loading_is ∙ st.loading_is)
        (subst (λ (ns : List Node). NodesStand ns s.nodes s.logs) (sym nodes_are) (nodes_kept s g farm.nodes.items st.nodes_stand n old v n_less (same ∙ ap plain_of there)))
        slots_are refl refl (λ u b held. held)
