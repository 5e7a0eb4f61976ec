-- What is asked of an open transaction and its nodes is the event's condition.
use Rattle.std.proofs.Common.{◌≡◌, ◌⊎◌, ◌↔◌, ℕ, ◌%◌, Bool, true, false, not, ◌&&◌, ◌||◌, List, [], ◌∷◌, IsTrue, sym, refl, ap, ◌∙◌, subst, inl, inr, ⊎_elim}
use Rattle.std.proofs.lemmas.Bool.{and_parts, and_from, not-true, not-false, not_from_false, false_from_ne_true, or_cases, or_left, or_right, both_ways}
use Rattle.farm_core.proofs.Words.{Stage, MayLock, Addr, TxnId, Node, NodeState, holds_there, may_lock, Event, Phase, Active, Reading, Drawn, Installing, Refused}
use Rattle.farm_core.proofs.Words.{Transaction, State, home, node_of, IsAt, HoldsLockAt, HoldsLock, AllSame, Meets, read_set, all_checked, Reached, plains}
use Rattle.farm_core.proofs.Words.{plain_at, stage_of, in_list, At, IsOf, is_reading, is_drawn, is_installing, holds_at, may_lock_at, is_none, meets_in}
use Rattle.farm_node.proofs.Addresses.{same_self}
use Rattle.farm_core.specs.declared.event.Event.TheVariants as event
use Rattle.farm_core.specs.declared.active.Phase.TheVariants as phase
use Rattle.farm_core.proofs.Good.{Good}
use Rattle.farm_core.proofs.Events.{less_home, locked_held}
use Rattle.farm_node.proofs.Holders.{holds_iff, may_iff}
use Rattle.farm_core.proofs.Changes.{good}
use Rattle.farm_core.proofs.Sets.{none_left, left_none}

and_iff : {P Q : Type 0} (b l : Bool) → IsTrue b ↔ P → IsTrue l ↔ Q → IsTrue (b && l) ↔ (P × Q)
and_iff b l first second = (λ is. let z = and_parts b l is in (first.0 z.0, second.0 z.1), λ both. and_from b l (first.1 both.0) (second.1 both.1))

or_iff : {P Q : Type 0} (b l : Bool) → IsTrue b ↔ P → IsTrue l ↔ Q → IsTrue (b || l) ↔ (P ⊎ Q)
or_iff b l first second = (
  λ is. ⊎_elim (λ z. inl (first.0 z)) (λ z. inr (second.0 z)) (or_cases b l is),
  λ one. ⊎_elim (λ z. or_left b l (first.1 z)) (λ z. or_right b l (second.1 z)) one,
)

not_iff : {P : Type 0} (b : Bool) → IsTrue b ↔ P → IsTrue (not b) ↔ (P → ⊥)
not_iff b says = (λ is p. both_ways b (not-true b is) (says.1 p), λ none. not_from_false b (false_from_ne_true b (λ is. none (says.0 is))))

reading_iff : (p : Phase) → IsTrue (is_reading p) ↔ (stage_of p ≡ Reading)
reading_iff phase.Reading = (λ is. refl, λ is. refl)
reading_iff p = (λ is. absurd (cc), λ is. absurd (cc))

drawn_iff : (p : Phase) → IsTrue (is_drawn p) ↔ (stage_of p ≡ Drawn)
drawn_iff phase.Drawn = (λ is. refl, λ is. refl)
drawn_iff p = (λ is. absurd (cc), λ is. absurd (cc))

installing_iff : (p : Phase) → IsTrue (is_installing p) ↔ (stage_of p ≡ Installing)
installing_iff phase.Installing = (λ is. refl, λ is. refl)
installing_iff p = (λ is. absurd (cc), λ is. absurd (cc))

refused_iff : (p : Phase) → IsTrue (not (is_reading p || (is_drawn p || is_installing p))) ↔ (stage_of p ≡ Refused)
refused_iff phase.Refused = (λ is. refl, λ is. refl)
refused_iff p = (λ is. absurd (cc), λ is. absurd (cc))

not_installing : (p : Phase) → not (is_installing p) ≡ (is_reading p || (is_drawn p || not (is_reading p || (is_drawn p || is_installing p))))
not_installing phase.Reading = refl
not_installing phase.Drawn = refl
not_installing phase.Installing = refl
not_installing phase.Refused = refl

module _ (s : State) (r : Reached s) (t : TxnId) (x : Active) (nodes : List Node) (at : At x nodes t s) where
  abbrev y : Transaction
  y = s.transactions t

  g : Good s
  g = good s r

  plain_is : (a : Addr) → plain_at nodes a ≡ node_of s a
  plain_is a = ap (λ (k : ℕ). plains nodes (a.region % k)) at.nodes_stand.number ∙ at.nodes_stand.each (home s a) (less_home s g a)

  pub holding_iff : (a : Addr) → IsTrue (holds_at nodes t a) ↔ HoldsLockAt s t a
  holding_iff a = subst (λ (p : NodeState). IsTrue (holds_there t (p.cells a)) ↔ HoldsLockAt s t a) (sym (plain_is a)) (holds_iff (node_of s a) t a)

  at_iff : (stage : Stage) (b : Bool) → IsTrue b ↔ (stage_of x.phase ≡ stage) → IsTrue b ↔ IsAt stage s t
  at_iff stage b says = (λ is. (at.active.is_open, sym at.active.stage ∙ says.0 is), λ is. says.1 (at.active.stage ∙ is.1))

  is_reading_iff : IsTrue (is_reading x.phase) ↔ IsAt Reading s t
  is_reading_iff = at_iff Reading (is_reading x.phase) (reading_iff x.phase)

  is_drawn_iff : IsTrue (is_drawn x.phase) ↔ IsAt Drawn s t
  is_drawn_iff = at_iff Drawn (is_drawn x.phase) (drawn_iff x.phase)

  going_iff : IsTrue (is_drawn x.phase || is_installing x.phase) ↔ (IsAt Drawn s t ⊎ IsAt Installing s t)
  going_iff = or_iff (is_drawn x.phase) (is_installing x.phase) is_drawn_iff (at_iff Installing (is_installing x.phase) (installing_iff x.phase))

  left_iff : IsTrue (not (is_installing x.phase)) ↔ (IsAt Reading s t ⊎ (IsAt Drawn s t ⊎ IsAt Refused s t))
  left_iff = subst (λ (b : Bool). IsTrue b ↔ (IsAt Reading s t ⊎ (IsAt Drawn s t ⊎ IsAt Refused s t))) (sym (not_installing x.phase))
      (or_iff (is_reading x.phase) _ is_reading_iff (or_iff (is_drawn x.phase) _ is_drawn_iff (at_iff Refused _ (refused_iff x.phase))))

  -- the locks of a reading transaction

  some_to : IsAt Reading s t → (all : List Addr) → ((a : Addr) → in_list a all ≡ true → y.had_locked a ≡ true) → not (is_none all) ≡ true → HoldsLock s t
  some_to going [] locked is = absurd (cc)
  some_to going (b ∷ more) locked is = (b, locked_held s g t b going (locked b (or_left _ _ (same_self b))))

  some_from : (a : Addr) (all : List Addr) → in_list a all ≡ true → not (is_none all) ≡ true
  some_from a [] there = absurd (cc)
  some_from a (b ∷ more) there = refl

  -- what was read

  read_iff : (a : Addr) → IsTrue ((read_set x.reads).read a) ↔ (y.has_read a ≡ true)
  read_iff a = subst (λ (m : Addr → Bool). IsTrue ((read_set x.reads).read a) ↔ (m a ≡ true)) at.active.reads (λ is. is, λ is. is)

  unchecked_iff : (b l m : Bool) → ((b && not (l || m)) ≡ false) ↔ (b ≡ true → l ≡ false → m ≡ true)
  unchecked_iff true true m = (λ none has free. absurd (cc), λ all. refl)
  unchecked_iff true false m = (λ none has free. not-false m none, λ all. ap not (all refl refl))
  unchecked_iff false l m = (λ none has free. absurd (cc), λ all. refl)

  checked_iff : IsTrue (all_checked x.reads) ↔ AllSame y
  checked_iff = (
    λ is a. (unchecked_iff (y.has_read a) (y.had_locked a) (y.is_same a)).0 (sym (ap (λ (m : Addr → Bool). m a) at.active.unchecked) ∙ none_left x.reads.unchecked is a),
    λ same. left_none x.reads.unchecked (λ a. ap (λ (m : Addr → Bool). m a) at.active.unchecked ∙ (unchecked_iff (y.has_read a) (y.had_locked a) (y.is_same a)).1 (same a)),
  )

  may_lock_iff : (a : Addr) → IsTrue (may_lock_at nodes t a x.read_stamp) ↔ MayLock (node_of s a) t a y.read_stamp
  may_lock_iff a = subst (λ (z : NodeState × ℕ). IsTrue (may_lock t z.1 (z.0.cells a)) ↔ MayLock (node_of s a) t a y.read_stamp)
      (λ i. (sym (plain_is a) i, sym at.active.read_stamp i)) (may_iff (node_of s a) t a y.read_stamp)

  pub meets_iff : (e : Event) → IsOf t e → IsTrue (meets_in x nodes t e) ↔ Meets s e
  meets_iff (event.Read u a) own = subst (λ (w : TxnId). IsTrue (meets_in x nodes t (event.Read u a)) ↔ Meets s (event.Read w a)) (sym own)
      (and_iff (is_reading x.phase) (not (holds_at nodes t a)) is_reading_iff (not_iff (holds_at nodes t a) (holding_iff a)))
  meets_iff (event.Alloc u n bytes) own = subst (λ (w : TxnId). IsTrue (is_reading x.phase) ↔ Meets s (event.Alloc w n bytes)) (sym own) is_reading_iff
  meets_iff (event.Lock u a new) own = subst (λ (w : TxnId). IsTrue (meets_in x nodes t (event.Lock u a new)) ↔ Meets s (event.Lock w a new)) (sym own)
      (and_iff (is_reading x.phase) (may_lock_at nodes t a x.read_stamp) is_reading_iff (may_lock_iff a))
  meets_iff (event.Draw u) own = subst (λ (w : TxnId). IsTrue (meets_in x nodes t (event.Draw u)) ↔ Meets s (event.Draw w)) (sym own) (
    λ is. let z = and_parts (is_reading x.phase) _ is in let going = is_reading_iff.0 z.0 in (going, some_to going x.locked.items at.active.locked z.1),
    λ m. and_from (is_reading x.phase) _ (is_reading_iff.1 m.0) (some_from m.1.0 x.locked.items (at.held m.1.0 m.1.1)),
  )
  meets_iff (event.Check u a) own =
      let rest = and_iff ((read_set x.reads).read a) (not (holds_at nodes t a)) (read_iff a) (not_iff (holds_at nodes t a) (holding_iff a)) in
      let all = and_iff (is_drawn x.phase) ((read_set x.reads).read a && not (holds_at nodes t a)) is_drawn_iff rest in
      subst (λ (w : TxnId). IsTrue (meets_in x nodes t (event.Check u a)) ↔ Meets s (event.Check w a)) (sym own)
      (λ is. let z = all.0 is in (z.0, z.1.0, z.1.1), λ m. all.1 (m.0, (m.1, m.2)))
  meets_iff (event.Put u a) own =
      let rest = and_iff (all_checked x.reads) (holds_at nodes t a) checked_iff (holding_iff a) in
      let all = and_iff (is_drawn x.phase || is_installing x.phase) (all_checked x.reads && holds_at nodes t a) going_iff rest in
      subst (λ (w : TxnId). IsTrue (meets_in x nodes t (event.Put u a)) ↔ Meets s (event.Put w a)) (sym own)
      (λ is. let z = all.0 is in (z.0, z.1.1, z.1.0), λ m. all.1 (m.0, (m.2, m.1)))
  meets_iff (event.Unlock u a) own = subst (λ (w : TxnId). IsTrue (meets_in x nodes t (event.Unlock u a)) ↔ Meets s (event.Unlock w a)) (sym own)
      (and_iff (not (is_installing x.phase)) (holds_at nodes t a) left_iff (holding_iff a))
  meets_iff e own = absurd own
