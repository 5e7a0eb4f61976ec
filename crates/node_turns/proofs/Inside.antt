-- A turn at a node: what comes in between is others', and what an event adds stands.
use Rattle.std.proofs.Common.{◌≡◌, ℕ, ◌<◌, ◌==◌, Bool, true, false, List, [], ◌∷◌, ◌++◌, length, Option, Some, None, arith, sym, refl, ap, ◌∙◌, subst, inl, append-nil}
use Rattle.std.proofs.lemmas.Bool.{cond_both, eqb-false}
use Rattle.std.proofs.lemmas.List.{append_cancel_left}
use Rattle.std.specs.List.{AllByRecursion}
use Rattle.std.specs.Option.{option_to_list}
use Rattle.a1_base.specs.Lists.{IsAmong, BeginsWith, entries_of}
use Rattle.farm_node.specs.declared.node.Node.{Node}
use Rattle.farm_node.specs.declared.entry.Entry.{Entry}
use Rattle.farm_node.specs.NodeState.{NodeState, Adds, after, begun, replay, LawfulFrom, Lawful}
use Rattle.farm_node.specs.Answers.{AddsIfMade}
use Rattle.farm_node.specs.Node.{plain_of, StandsFor}
use Rattle.farm_node.specs.Story.{number_of}
use Rattle.farm_node.specs.Locks.{IsOther}
use Rattle.farm_node.specs.declared.entry.Entry.TheVariants.{Made}
use Rattle.farm_node.proofs.Owning.{owned}
use Rattle.farm_node.proofs.Standing.{stand}
use Rattle.turnstile.specs.declared.keeps.Keeps.{Ghosts}
use Rattle.turnstile.specs.declared.lock.Turnstile.{Turnstile}
use Rattle.turnstile.specs.declared.lock.Turn.{Turn}
use Rattle.turnstile.specs.Entries.{SameOwn}
use Rattle.turnstile.specs.Passes.{entered, turn_numbers, IsTurnOf}
use Rattle.turnstile.proofs.Histories.{of_append}
use Rattle.node_turns.specs.declared.standing.Standing.{Standing}
use Rattle.node_turns.specs.Standing.{node_in, Stands}
use Rattle.node_turns.specs.Turned.{IsOf, GoesOn, IsInside}

-- entries none of which is the actor's
all_others : (k : ℕ) (es : List Entry) → entries_of number_of k es ≡ [] → AllByRecursion (IsOther k) es
all_others k [] none = tt
all_others k (e ∷ es) none = cond_both (number_of e == k) (e ∷ entries_of number_of k es) (entries_of number_of k es)
    (λ own. own ≡ [] → AllByRecursion (IsOther k) (e ∷ es))
    (λ _ some. absurd (cc))
    (λ is more. (eqb-false (number_of e) k is, all_others k es more))
    none

none_more : (xs ys : List Entry) → xs ++ ys ≡ xs → ys ≡ []
none_more xs ys is = append_cancel_left xs ys [] (is ∙ sym (append-nil xs))

-- a front of a lawful list is lawful, and a lawful list has its first entry

front_from : (p : NodeState) (es rest : List Entry) → LawfulFrom p (es ++ rest) → LawfulFrom p es
front_from p [] rest lawful = tt
front_from p (e ∷ es) rest lawful = (lawful.0, front_from (after p e) es rest lawful.1)

pub lawful_front : (before rest : List Entry) → 0 < length before → Lawful (before ++ rest) → Lawful before
lawful_front [] rest some lawful = absurd (omega arith)
lawful_front (Made m ∷ es) rest some lawful = (lawful.0, front_from (begun m) es rest lawful.1)
lawful_front (e ∷ es) rest some lawful = absurd lawful

pub lawful_some : (log : List Entry) → Lawful log → 0 < length log
lawful_some [] lawful = absurd lawful
lawful_some (e ∷ es) lawful = omega arith

-- a longer list is of the same node
pub of_more : (lock : Turnstile Standing Entry) (log rest : List Entry) → Lawful log → IsOf lock log → IsOf lock (log ++ rest)
of_more lock log rest lawful of =
    let kept = owned.kept log rest lawful in
    record { node = kept.0 ∙ of.node; nodes = kept.1 ∙ of.nodes; actors = kept.2 ∙ of.actors }

pub of_on : (lock : Turnstile Standing Entry) (k : ℕ) (before later : List Entry) → 0 < length before → Lawful later
    → GoesOn k before later → IsOf lock before → IsOf lock later
of_on lock k before later some lawful g of = subst (IsOf lock) (sym g.is)
    (of_more lock before g.between (lawful_front before g.between some (subst Lawful g.is lawful)) of)

-- since the pass was there, others alone had turns
pub goes_on : (k : ℕ) (numbers : List ℕ) (before after : List Entry) → numbers ≡ k ∷ [] → BeginsWith after before
    → SameOwn number_of numbers before after → GoesOn k before after
goes_on k numbers before after number (between, is) own = record {
  between = between;
  is = is;
  others = all_others k between (none_more (entries_of number_of k before) (entries_of number_of k between)
      (sym (of_append number_of k before between) ∙ (ap (entries_of number_of k) (sym is)
      ∙ own k (subst (λ (ks : List ℕ). IsAmong k ks) (sym number) (inl refl)))));
}

stands_more : (old new : Node) (log : List Entry) (o : Option Entry) → StandsFor old log
    → AddsIfMade (plain_of old) o (plain_of new) → StandsFor new (log ++ option_to_list o)
stands_more old new log None stands same =
    record { lawful = subst Lawful (sym (append-nil log)) stands.lawful; state = same ∙ (stands.state ∙ ap replay (sym (append-nil log))) }
stands_more old new log (Some e) stands adds = stand.more old new log e stands adds

-- a turn that told of an event
pub inside_some : {g : Ghosts Standing Entry} (lock : Turnstile Standing Entry) (k : ℕ) (old new : Turn Standing Entry g)
    (lent : Node) (left : Standing) (o : Option Entry) → IsInside lock k old → lent ≡ node_in old.value
    → AddsIfMade (plain_of lent) o (plain_of (node_in left))
    → IsTurnOf lock new → turn_numbers new ≡ turn_numbers old → new.value ≡ left → entered new ≡ entered old ++ option_to_list o
    → IsInside lock k new
inside_some lock k old new lent left o inside same adds of numbers value is = record {
  of = of;
  number = numbers ∙ inside.number;
  stands = subst (λ (s : Standing). Stands s (entered new)) (sym value) (subst (λ (es : List Entry). Stands left es) (sym is)
      (stands_more (node_in old.value) (node_in left) (entered old) o inside.stands
      (subst (λ (n : Node). AddsIfMade (plain_of n) o (plain_of (node_in left))) same adds)));
  node = subst (IsOf lock) (sym is) (of_more lock (entered old) (option_to_list o) inside.stands.lawful inside.node);
}

pub inside_one : {g : Ghosts Standing Entry} (lock : Turnstile Standing Entry) (k : ℕ) (old new : Turn Standing Entry g)
    (lent : Node) (left : Standing) (e : Entry) → IsInside lock k old → lent ≡ node_in old.value
    → Adds (plain_of lent) e (plain_of (node_in left))
    → IsTurnOf lock new → turn_numbers new ≡ turn_numbers old → new.value ≡ left → entered new ≡ entered old ++ e ∷ []
    → IsInside lock k new
inside_one lock k old new lent left e inside same adds of numbers value is =
    inside_some lock k old new lent left (Some e) inside same adds of numbers value is
