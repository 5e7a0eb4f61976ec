-- Events one after another, and the farm before any event.
use Rattle.std.proofs.Common.{◌≡◌, ℕ, ◌+◌, ◌<◌, ◌≤◌, true, List, [], ◌∷◌, ◌++◌, length, take, get_or, Option, None, Result, Ok, Err, sym, refl, ap, ◌∙◌, subst, length-append, OnErr, ⊎_elim, arith}
use Rattle.std.proofs.lemmas.List.{take_more}
use Rattle.std.proofs.lemmas.Bool.{cases_eq}
use Rattle.std.proofs.Math.ListN.{get_or-append}
use Rattle.std.proofs.Math.Seq.{get_or-append_seam}
use Rattle.farm_core.proofs.NodeLists.{plains_index}
use Rattle.farm_core.proofs.Words.{NODE_LIMIT, Node, replay, plain_of, StandsFor, Event, Answer, Active, Slot, Farm, State, InRange, Runs, start_of, fresh}
use Rattle.farm_core.proofs.Words.{plains, NodesStand, OpenStands, Stands, StepsTo, RunsTo, AreNew}
use Rattle.farm_node.specs.declared.entry.Entry.TheVariants as entry
use Rattle.farm_core.proofs.Farming.{runs_more}

-- one more answer
pub ran_more : (first now later : Farm) (events : List Event) (i : ℕ) (e : Event) (answers : List Answer) (x : Answer) → i < length events → e ≡ get_or events i e
    → InRange (length first.nodes.items) e → length now.nodes.items ≡ length first.nodes.items
    → ((s : State) → Stands first s → RunsTo s (take i events) answers (Stands now)) → ((s : State) → Stands now s → StepsTo s e (Ok x) (Stands later))
    → (s : State) → Stands first s → RunsTo s (take (i + 1) events) (answers ++ x ∷ []) (Stands later)
ran_more first now later events i e answers x low is range same ran steps s st =
    let before = ran s st in
    let step = steps before.0 before.2 in
    let number : length first.nodes.items ≡ before.0.nodes = sym same ∙ before.2.nodes_stand.number in
    let more : take i events ++ e ∷ [] ≡ take (i + 1) events = ap (λ (f : Event). take i events ++ f ∷ []) is ∙ sym (take_more events i e low) in (
      step.0,
      subst (λ (es : List Event). Runs s es (answers ++ x ∷ []) step.0) more
          (runs_more (take i events) s answers before.0 e x step.0 before.1 (subst (λ (n : ℕ). InRange n e) number range) step.1),
      step.2,
    )

-- after a failure, with as many events as answers
pub ran_still : (first now later : Farm) (events : List Event) (i : ℕ) (answers : List Answer) → length answers ≡ i
    → ((s : State) → Stands first s → RunsTo s (take i events) answers (Stands now)) → ((s : State) → Stands now s → Stands later s)
    → (s : State) → Stands first s → RunsTo s (take (length answers) events) answers (Stands later)
ran_still first now later events i answers count ran still s st =
    let before = ran s st in
    (before.0, subst (λ (n : ℕ). Runs s (take n events) answers before.0) (sym count) before.1, still before.0 before.2)

-- the beginning

plains_last : (nodes : List Node) (v : Node) (n : ℕ) → n ≡ length nodes → plains (nodes ++ v ∷ []) n ≡ plain_of v
plains_last nodes v n is = sym (plains_index (nodes ++ v ∷ []) n v (let long : length (nodes ++ v ∷ []) ≡ length nodes + 1 = length-append nodes (v ∷ []) in omega arith))
    ∙ ap plain_of (ap (λ (m : ℕ). get_or (nodes ++ v ∷ []) m v) is ∙ get_or-append_seam nodes v [] v)

plains_front : (nodes : List Node) (v : Node) (n : ℕ) → n < length nodes → plains (nodes ++ v ∷ []) n ≡ plains nodes n
plains_front nodes v n low = sym (plains_index (nodes ++ v ∷ []) n v (let long : length (nodes ++ v ∷ []) ≡ length nodes + 1 = length-append nodes (v ∷ []) in omega arith))
    ∙ (ap plain_of (get_or-append nodes (v ∷ []) v n low) ∙ plains_index nodes n v low)

pub record NodesBegun (count number : ℕ) (nodes : List Node) : Type 0 where
  pub made : length nodes ≡ number
  pub each : (n : ℕ) → n < number → plains nodes n ≡ replay (entry.Made (start_of count n) ∷ [])

pub begun_more : (count number : ℕ) (nodes : List Node) (v : Node) → NodesBegun count number nodes → StandsFor v (entry.Made (start_of count number) ∷ []) → NodesBegun count (number + 1) (nodes ++ v ∷ [])
begun_more count number nodes v b stands = record {
  made = length-append nodes (v ∷ []) ∙ ap (λ (n : ℕ). n + 1) b.made;
  each = λ n less. ⊎_elim
      (λ (is : n ≡ number). plains_last nodes v n (is ∙ sym b.made) ∙ (stands.state ∙ ap (λ (m : ℕ). replay (entry.Made (start_of count m) ∷ [])) (sym is)))
      (λ (differ : n ≡ number → ⊥). let made : length nodes ≡ number = b.made in let low : n < number = omega arith in plains_front nodes v n (omega arith) ∙ b.each n low)
      (cases_eq n number);
}

pub fresh_stands : (farm : Farm) (count : ℕ) → 0 < count → count ≤ NODE_LIMIT → NodesStand farm.nodes.items count (fresh count).logs → farm.clock ≡ 1 → farm.loading ≡ true → AreNew farm.slots.items → Stands farm (fresh count)
fresh_stands farm count some few nodes clock_is loading_is slots = record {
  reached = (some, few, ([], [], refl));
  clock_is = clock_is;
  loading_is = loading_is;
  nodes_stand = record { number = nodes.number; each = nodes.each };
  count = slots.count;
  slots_stand = λ k d low high.
      let new = slots.each k d (omega arith) in
      record { begins = new.0; current = subst (λ (o : Option Active). OpenStands o k (fresh count)) (sym new.1) (λ u is. refl) };
}

-- a slot more that is new

abbrev pub IsNew : Slot → Type 0
IsNew slot = (slot.begins ≡ 0) × (slot.open ≡ None)

pub record NewTo (number : ℕ) (slots : List Slot) : Type 0 where
  pub made : length slots ≡ number
  pub each : (k : ℕ) (d : Slot) → k < number → IsNew (get_or slots k d)
